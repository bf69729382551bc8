-- Sets that are closed under addition have at most 32 gaps just where they have at most 32 up to 127. Assumes nothing.
use Prim.Native.Nat.{ℕ, zero, suc, ◌+◌, ◌-◌, ◌≤◌, ◌<◌}
use mathlib.Core.Path.{◌≡◌, sym, ap, ◌∙◌}
use mathlib.Core.Logic.{◌↔◌}
use mathlib.Core.Bool.{true, false, not}
use native.Mathlib.Omega.{arith}
use native.Mathlib.Nat.{lt_of_not-le}
use lib.Dec.{ltb}
use lib.ListN.{length}
use borrow.Author.Tests.{ltb-true, ltb-false, not-true}
use Rattle.semigroups.specs.Sets.{Set, ClosedUnderAddition, gaps_to}
use Rattle.semigroups.proofs.Booleans.{not_both, is_true, is_false, by_value}
use Rattle.semigroups.proofs.Sets.{gap_positive, mem_gaps_to, gaps_to_ordered}
use Rattle.semigroups.proofs.Counting.{count_up, count_le_length, half_gaps, gaps_to_count}
use Rattle.sums.specs.Sums.{AtMostGaps}

-- a set with more elements has at most as many gaps
pub fewer_gaps : (S T : Set) → ((x : ℕ) → S x ≡ true → T x ≡ true) → (n : ℕ) → AtMostGaps n S → AtMostGaps n T
fewer_gaps S T within n (l, rising, short, all) = (l, rising, short, λ x e. all x (is_false (S x) (λ t. not_both (within x t) e)))

module _ (S : Set) where
  -- no more than a bound on the gaps
  pub gaps_to_le : S 0 ≡ true → (n k : ℕ) → AtMostGaps n S → length (gaps_to S k) ≤ n
  gaps_to_le zero_in n k (l, ordered, short, all) =
      omega (arith, gaps_to_count S zero_in k, count_le_length (λ x. not (S x)) (suc k) l (λ x e. all x (not-true _ e)))

module _ (S : Set) (zero_in : S 0 ≡ true) (sums : ClosedUnderAddition S) where
  module _ (few : length (gaps_to S 127) ≤ 32) where
    -- with at most 32 gaps up to 127, there is none from 64 to 127
    none_to_127 : (x : ℕ) → 64 ≤ x → x ≤ 127 → S x ≡ true
    none_to_127 x low high =
        is_true (S x) (λ e. omega (arith, half_gaps S sums x e, count_up (λ y. not (S y)) {x = suc x} {y = 128} (omega arith), gaps_to_count S zero_in 127))

    -- and so none above, as each is 64 more than one not below 64
    none_below : (n x : ℕ) → 64 ≤ x → x < n → S x ≡ true
    none_below zero x low high = absurd (omega arith)
    none_below (suc n) x low high =
        by_value (ltb 127 x)
        (λ e.
        let above = ltb-true 127 x e in
        let whole : 64 + (x - 64) ≡ x = omega arith in
        ap S (sym whole) ∙ sums 64 (x - 64) (none_to_127 64 (omega arith) (omega arith)) (none_below n (x - 64) (omega arith) (omega arith)))
        (λ e. none_to_127 x low (ltb-false 127 x e))

    -- so that all gaps are below 64
    pub gap_below_64 : (x : ℕ) → S x ≡ false → x < 64
    gap_below_64 x e = lt_of_not-le (λ l. not_both (none_below (suc x) x l (omega arith)) e)

  -- at most 32 gaps up to 127 are at most 32 gaps
  pub few_iff : (length (gaps_to S 127) ≤ 32) ↔ AtMostGaps 32 S
  few_iff = (
    λ few. (gaps_to S 127, gaps_to_ordered S 127, few, λ x e. mem_gaps_to S 127 x (gap_positive S zero_in x e) (omega (arith, gap_below_64 few x e)) e),
    λ g. gaps_to_le S zero_in 32 127 g,
  )
