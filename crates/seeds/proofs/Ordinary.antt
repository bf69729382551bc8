-- Ordinary semigroups, whose positive elements are all numbers from the multiplicity m on: those with k = 1. Their generators are m to
-- 2 m - 1, and the new ones once an element is removed are among 2 m and 2 m + 1. Assumes nothing.
use Prim.Native.Nat.{ℕ, ◌+◌, ◌-◌, ◌^◌, ◌≤◌, ◌<◌}
use mathlib.Core.Path.{◌≡◌, sym, ap, ◌∙◌}
use mathlib.Core.Logic.{◌≢◌, ◌⊎◌, inl, inr, ⊎_elim}
use mathlib.Core.Bool.{Bool, true, false, not}
use mathlib.Core.List.{List, Memᴰ}
use native.Mathlib.Omega.{arith}
use native.Mathlib.Decide.{dec_le, dec_lt, ℕ_discrete}
use borrow.Author.Tests.{not-true}
use Rattle.semigroups.specs.Lists.{run}
use Rattle.semigroups.specs.Sets.{without, sum_of_two}
use Rattle.semigroups.specs.Words.{set_of, conductor}
use Rattle.semigroups.specs.Elements.{multiplicity, generator, right_generators}
use Rattle.semigroups.proofs.Booleans.{is_false, not_both}
use Rattle.semigroups.proofs.Lists.{run_mem, mem_run}
use Rattle.semigroups.proofs.Kept.{keep_all}
use Rattle.semigroups.proofs.Sets.{sum_of, sum_found, sum_without, in_without, without_in}
use Rattle.semigroups.proofs.Elements.{element_from_conductor, multiplicity_pos, multiplicity_least, generator_from_conductor}

-- the new generators above x: of 2 m and 2 m + 1 those from x + m on
abbrev pub new_from : ℕ → ℕ → List ℕ
new_from w x = run (x + multiplicity w) (multiplicity w + 2 - x)

module _ (w : ℕ) (fits : w < 2 ^ 64) (ordinary : conductor w ≡ multiplicity w) where
  abbrev m : ℕ
  m = multiplicity w

  -- from m on all are elements
  element_from : (x : ℕ) → m ≤ x → set_of w x ≡ true
  element_from x h = element_from_conductor w fits x (omega arith)

  -- no sum of two is below 2 m
  no_sum_below : (y : ℕ) → y < m + m → sum_of_two (set_of w) y ≡ false
  no_sum_below y h = is_false (sum_of_two (set_of w) y) (λ e.
      let s = sum_of (set_of w) y e in
      omega (arith, s.sum, multiplicity_least w fits s.one s.one_pos s.one_in, multiplicity_least w fits s.other s.other_pos s.other_in))

  -- so that m to 2 m - 1 are generators
  generates : (y : ℕ) → m ≤ y → y < m + m → generator w y ≡ true
  generates y low high = generator_from_conductor w fits y (omega arith) ∙ ap not (no_sum_below y high)

  -- the m generators not below the conductor
  pub ordinary_generators : right_generators w ≡ run (multiplicity w) (multiplicity w)
  unfolding right_generators
  ordinary_generators =
      keep_all (generator w) (run (conductor w) m) (λ y i. let (low, high) = run_mem (conductor w) m i in generates y (omega arith) (omega arith))
      ∙ ap (λ (a : ℕ). run a m) ordinary

  module _ (x y : ℕ) (high : conductor w ≤ x) (less : x < y) where
    -- the set without x
    abbrev rest : ℕ → Bool
    rest = without x (set_of w)

    -- two elements but x add up to a sum without x
    found : (a b : ℕ) → m ≤ a → m ≤ b → a + b ≡ y → a ≢ x → b ≢ x → sum_of_two rest y ≡ true
    found a b a-high b-high sum a-other b-other =
        sum_found rest y a b (omega (arith, multiplicity_pos w fits)) (omega (arith, multiplicity_pos w fits)) sum
        (in_without x (set_of w) a-other (element_from a a-high)) (in_without x (set_of w) b-other (element_from b b-high))

    module _ (none : sum_of_two (without x (set_of w)) y ≡ false) (far : m + m ≤ y) where
      -- y is not below 2 m and no sum without x: no two elements but x add up to it
      apart : (a b : ℕ) → m ≤ a → m ≤ b → a + b ≡ y → a ≢ x → b ≢ x → ⊥
      apart a b a-high b-high sum a-other b-other = not_both (found a b a-high b-high sum a-other b-other) none

      -- it is not below x + m, or m and y - m would
      from_x : x + m ≤ y
      from_x = elim (dec_le (x + m) y) [ yes l ↦ l | no l ↦ absurd (apart m (y - m) (omega arith) (omega arith) (omega arith) (λ q. omega arith) (λ q. omega arith)) ]

      -- nor above 2 m + 1, or m and y - m would, or m + 1 and y - m - 1
      to_next : y < m + m + 2
      to_next = elim (dec_lt y (m + m + 2)) [
        | yes l ↦ l
        | no l ↦ absurd (elim (ℕ_discrete x m) [
          | yes p ↦ apart (m + 1) (y - m - 1) (omega arith) (omega arith) (omega arith) (λ q. omega arith) (λ q. omega arith)
          | no p ↦ elim (ℕ_discrete x (y - m)) [
            | yes p' ↦ apart (m + 1) (y - m - 1) (omega arith) (omega arith) (omega arith) (λ q. omega arith) (λ q. omega arith)
            | no p' ↦ apart m (y - m) (omega arith) (omega arith) (omega arith) (λ q. p (sym q)) (λ q. p' (sym q))
          ]
        ])
      ]

    -- what is no sum without x is a generator or new
    pub none_of : sum_of_two (without x (set_of w)) y ≡ false → (generator w y ≡ true) ⊎ Memᴰ y (new_from w x)
    none_of e = elim (dec_lt y (m + m)) [
      | yes l ↦ inl (generates y (omega arith) l)
      | no l ↦ inr (mem_run (x + m) (m + 2 - x) (from_x e (omega arith)) (omega (arith, from_x e (omega arith), to_next e (omega arith))))
    ]

    -- and neither is a sum without x
    pub none_without : (generator w y ≡ true) ⊎ Memᴰ y (new_from w x) → sum_of_two (without x (set_of w)) y ≡ false
    none_without = ⊎_elim
        (λ g. is_false (sum_of_two rest y) (λ e. not_both (sum_without x (set_of w) y e) (not-true _ (sym (generator_from_conductor w fits y (omega arith)) ∙ g))))
        (λ i. is_false (sum_of_two rest y) (λ e.
        let s = sum_of rest y e in
        let (p, one_in) = without_in x (set_of w) s.one s.one_in in
        let (q, other_in) = without_in x (set_of w) s.other s.other_in in
        omega (
          arith,
          p,
          q,
          s.sum,
          run_mem (x + m) (m + 2 - x) i,
          multiplicity_least w fits s.one s.one_pos one_in,
          multiplicity_least w fits s.other s.other_pos other_in,
        )))
