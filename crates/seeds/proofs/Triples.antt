-- The number of triples among n: as it is computed, its bound, and what the later ones of each of a rising list make, where some of them are
-- marked. Assumes nothing.
use Prim.Native.Nat.{ℕ, zero, suc, ◌+◌, ◌*◌, ◌-◌, ◌/◌, ◌≤◌, ◌<◌}
use mathlib.Core.Path.{◌≡◌, refl, sym, ap, ap₂, ◌∙◌}
use mathlib.Core.Bool.{Bool, true, false}
use mathlib.Core.List.{List, [], ◌∷◌}
use native.Mathlib.Omega.{arith}
use native.Mathlib.Nat.{mul-suc, suc-mul, add-mul, one-mul, zero-mul, add-zero, mul-sub, mul-le-mul}
use native.Mathlib.Numerals.{add-one}
use lib.Dec.{ltb}
use lib.ListN.{length}
use borrow.Author.Tests.{lt-ltb, le-ltb}
use Rattle.semigroups.specs.Lists.{keep, keep_if, sum_over, Ordered}
use Rattle.semigroups.specs.Words.{digit}
use Rattle.semigroups.proofs.Booleans.{by_value}
use Rattle.semigroups.proofs.Lists.{keep_out, sum_same}
use Rattle.semigroups.proofs.Kept.{keep_all}
use Rattle.seeds.specs.Grandchildren.{pairs}
use Rattle.seeds.specs.GreatGrandchildren.{triples}
use Rattle.seeds.proofs.Pairs.{pairs_next, pairs_bound}

-- twice the pairs
pairs_twice : (n : ℕ) → pairs n + pairs n ≡ n * (n - 1)
unfolding pairs
pairs_twice zero = refl
pairs_twice (suc zero) = refl
pairs_twice (suc (suc n)) =
    let more : suc (suc n) * (suc (suc n) - 1) ≡ suc (suc n) * suc n = ap (λ (k : ℕ). suc (suc n) * k) (omega arith) in
    let less : suc n * (suc n - 1) ≡ suc n * n = ap (λ (k : ℕ). suc n * k) (omega arith) in
    omega (arith, pairs_next (suc n), pairs_twice (suc n), suc-mul (suc n) (suc n), mul-suc (suc n) n)

-- each pair with each other one, a third of the time
triples_pairs : (n : ℕ) → triples n ≡ pairs n * (n - 2) / 3
unfolding triples
triples_pairs n =
    let twice : n * (n - 1) * (n - 2) ≡ pairs n * (n - 2) + pairs n * (n - 2) = ap (λ (k : ℕ). k * (n - 2)) (sym (pairs_twice n)) ∙ add-mul (pairs n) (pairs n) (n - 2) in
    omega arith

-- one more makes a triple with each pair
triples_next : (n : ℕ) → triples (suc n) ≡ pairs n + triples n
unfolding pairs triples
triples_next zero = refl
triples_next (suc zero) = refl
triples_next (suc (suc n)) =
    let p : ℕ = pairs (suc (suc n)) in
    let more : pairs (suc (suc (suc n))) * (suc (suc (suc n)) - 2) ≡ (suc (suc n) + p) * suc n = ap₂ ◌*◌ (pairs_next (suc (suc n))) (omega arith) in
    let less : p * (suc (suc n) - 2) ≡ p * n = ap (λ (k : ℕ). p * k) (omega arith) in
    let twice : suc (suc n) * (suc (suc n) - 1) ≡ suc (suc n) * suc n = ap (λ (k : ℕ). suc (suc n) * k) (omega arith) in
    omega (arith, triples_pairs (suc (suc (suc n))), triples_pairs (suc (suc n)), add-mul (suc (suc n)) p (suc n), mul-suc p n, pairs_twice (suc (suc n)))

-- the marked of a list are no more than all
kept_le : (s : ℕ → Bool) (l : List ℕ) → length (keep s l) ≤ length l
unfolding keep keep_if
kept_le s [] = omega arith
kept_le s (x ∷ l) = by_value (s x) (λ e. rw e (omega (arith, kept_le s l))) (λ e. rw e (omega (arith, kept_le s l)))

-- where the first is marked, one more
kept_first : (b : Bool) (x : ℕ) (l : List ℕ) → length (keep_if b x l) ≡ digit b + length l
unfolding keep_if digit
kept_first true x l = omega arith
kept_first false x l = omega arith

-- w of n, with n - 1 times w of them
times_next : (w n : ℕ) → w ≤ n → w + w * (n - 1) ≡ w * n
times_next w zero h = let none : w ≡ 0 = omega arith in omega (arith, ap (λ (k : ℕ). k * (0 - 1)) none, ap (λ (k : ℕ). k * 0) none, zero-mul (0 - 1), zero-mul 0)
times_next w (suc n) h = let less : w * (suc n - 1) ≡ w * n = ap (λ (k : ℕ). w * k) (omega arith) in omega (arith, mul-suc w n)

-- the first of them, marked or not
first_triples : (b : Bool) (n w : ℕ) → w ≤ n → pairs (n + digit b) + w + (triples n + w * (n - 1)) ≡ triples (suc n) + (digit b + w) * (suc n - 1)
unfolding digit
first_triples true n w h =
    let last : (1 + w) * (suc n - 1) ≡ (1 + w) * n = ap (λ (k : ℕ). (1 + w) * k) (omega arith) in
    omega (arith, ap pairs (add-one n), pairs_next n, triples_next n, times_next w n h, add-mul 1 w n, one-mul n)
first_triples false n w h =
    let last : (0 + w) * (suc n - 1) ≡ w * n = ap₂ ◌*◌ (omega arith) (omega arith) in
    omega (arith, ap pairs (add-zero n), triples_next n, times_next w n h)

-- of each of a rising list the pairs among the later ones, with itself where it is marked, and the marked later ones: all triples, and each
-- marked one with each other one
pub later_triples : (s : ℕ → Bool) (l : List ℕ) → Ordered ◌<◌ l
    → sum_over (λ x. pairs (length (keep (ltb x) l) + digit (s x)) + length (keep s (keep (ltb x) l))) l ≡ triples (length l) + length (keep s l) * (length l - 1)
unfolding sum_over Ordered triples pairs keep
later_triples s [] o = refl
later_triples s (x ∷ l) (least, o) =
    ap₂ ◌+◌
    (ap (λ (k : List ℕ). pairs (length k + digit (s x)) + length (keep s k)) (keep_out (ltb x) x l (le-ltb x x (omega arith)) ∙ keep_all (ltb x) l (λ y m. lt-ltb x y (least y m))))
    (sum_same _ _ l (λ y m. ap (λ (k : List ℕ). pairs (length k + digit (s y)) + length (keep s k)) (keep_out (ltb y) x l (le-ltb y x (omega (arith, least y m))))) ∙ later_triples s l o)
    ∙ first_triples (s x) (length l) (length (keep s l)) (kept_le s l)
    ∙ ap (λ (k : ℕ). triples (suc (length l)) + k * (suc (length l) - 1)) (sym (kept_first (s x) x (keep s l)))

-- twice the pairs are no more than n times as many
pub pairs_times : (n : ℕ) → pairs n + pairs n ≤ pairs n * n
unfolding pairs
pairs_times zero = omega arith
pairs_times (suc zero) = omega arith
pairs_times (suc (suc n)) = let p : ℕ = pairs (suc (suc n)) in omega (arith, mul-suc p (suc n), mul-suc p n)

-- as it is computed
pub triples_computed : (n : ℕ) → (pairs n * n - pairs n - pairs n) / 3 ≡ triples n
triples_computed n = omega (arith, triples_pairs n, mul-sub (pairs n) n 2)

-- of at most 65 there are at most 45,066
pub triples_bound : (n : ℕ) → n ≤ 65 → (pairs n * n ≤ 135200) × (triples n ≤ 45066)
triples_bound n h = (
  mul-le-mul {n₁ = pairs n} {m₁ = n} {n₂ = 2080} {m₂ = 65} (pairs_bound n h).1 h,
  omega (arith, triples_pairs n, mul-le-mul {n₁ = pairs n} {m₁ = n - 2} {n₂ = 2080} {m₂ = 65} (pairs_bound n h).1 (omega arith)),
)
