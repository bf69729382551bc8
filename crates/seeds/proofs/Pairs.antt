-- The number of pairs among n, n (n - 1) / 2: as it is computed, its bound, and that of the pairs of a rising list. Assumes nothing.
use Prim.Native.Nat.{ℕ, zero, suc, ◌+◌, ◌*◌, ◌-◌, ◌/◌, ◌≤◌, ◌<◌}
use mathlib.Core.Path.{◌≡◌, refl, sym, ap, ap₂, ◌∙◌}
use mathlib.Core.List.{List, [], ◌∷◌}
use native.Mathlib.Omega.{arith}
use native.Mathlib.Nat.{mul-le-mul, mul-sub, mul-one, mul-suc, suc-mul}
use lib.Dec.{ltb}
use lib.ListN.{length}
use borrow.Author.Tests.{lt-ltb, le-ltb}
use Rattle.semigroups.specs.Lists.{keep, sum_over, Ordered}
use Rattle.semigroups.proofs.Lists.{keep_out, sum_same}
use Rattle.semigroups.proofs.Kept.{keep_all}
use Rattle.seeds.specs.Grandchildren.{pairs}

-- n times n is no less than n
pub square_le : (n : ℕ) → n ≤ n * n
square_le zero = omega arith
square_le (suc n) = omega (arith, mul-suc (suc n) n)

-- as it is computed
pub pairs_computed : (n : ℕ) → (n * n - n) / 2 ≡ pairs n
unfolding pairs
pairs_computed n = ap (λ (t : ℕ). t / 2) (omega (arith, mul-sub n n 1, mul-one n))

-- of at most 65 it is at most 2,080
pub pairs_bound : (n : ℕ) → n ≤ 65 → (n * n ≤ 4225) × (pairs n ≤ 2080)
unfolding pairs
pairs_bound n h = (mul-le-mul {n₁ = n} {m₁ = n} {n₂ = 65} {m₂ = 65} h h, omega (arith, mul-le-mul {n₁ = n} {m₁ = n - 1} {n₂ = 65} {m₂ = 64} h (omega arith)))

-- one more makes a pair with each
pub pairs_next : (n : ℕ) → pairs (suc n) ≡ n + pairs n
unfolding pairs
pairs_next zero = refl
pairs_next (suc n) =
    let more : suc (suc n) * (suc (suc n) - 1) ≡ suc (suc n) * suc n = ap (λ (k : ℕ). suc (suc n) * k) (omega arith) in
    let less : suc n * (suc n - 1) ≡ suc n * n = ap (λ (k : ℕ). suc n * k) (omega arith) in
    omega (arith, suc-mul (suc n) (suc n), mul-suc (suc n) n)

-- the later ones of each of a rising list, together
pub later_pairs : (l : List ℕ) → Ordered ◌<◌ l → sum_over (λ x. length (keep (ltb x) l)) l ≡ pairs (length l)
unfolding sum_over Ordered pairs
later_pairs [] o = refl
later_pairs (x ∷ l) (least, o) =
    ap₂ ◌+◌
    (ap length (keep_out (ltb x) x l (le-ltb x x (omega arith)) ∙ keep_all (ltb x) l (λ y m. lt-ltb x y (least y m))))
    (sum_same _ _ l (λ y m. ap length (keep_out (ltb y) x l (le-ltb y x (omega (arith, least y m))))) ∙ later_pairs l o)
    ∙ sym (pairs_next (length l))
