-- Seeds once an element x not below the conductor is removed. For each index i whose next element is below x: where a number with the element of
-- index i was no sum of two of what is left, it is none still, and one more becomes none, the number that is the i-th jump past x, exactly where x
-- with the element of index i + 1 is no sum of two of what is left after that. Assumes nothing.
use Prim.Native.Nat.{ℕ, suc, ◌+◌, ◌-◌, ◌^◌, ◌≤◌, ◌<◌}
use mathlib.Core.Path.{◌≡◌, sym, ap, ap₂, ◌∙◌, fun_ext}
use mathlib.Core.Logic.{◌≢◌}
use mathlib.Core.Bool.{Bool, true, not, ◌||◌, ◌&&◌, or-false, and-true}
use native.Mathlib.Omega.{arith}
use native.Mathlib.Nat.{lt_of_not-le}
use native.Mathlib.Decide.{ℕ_discrete}
use lib.Dec.{eqb}
use borrow.Author.Tests.{eq-eqb, ne_eqb}
use Rattle.semigroups.specs.Lists.{run, every}
use Rattle.semigroups.specs.Sets.{Set, without, sum_of_two}
use Rattle.semigroups.specs.Words.{set_of, genus, conductor}
use Rattle.semigroups.specs.Elements.{element_at, multiplicity, generator}
use Rattle.semigroups.proofs.Booleans.{true_together}
use Rattle.semigroups.proofs.Sets.{Carries, sum_of, sum_found, sum_without, same_sums, in_without, without_in}
use Rattle.semigroups.proofs.Elements.{element_from_conductor, element_in, element_next, element_rises, element_zero, multiplicity_element, multiplicity_below, generator_from_conductor}
use Rattle.seeds.specs.Seeds.{left_after, jump, order_one_seed}
use Rattle.seeds.proofs.Seeds.{left_above, above_left}
use Rattle.seeds.proofs.Orders.{seed_sum}

module _ (w : ℕ) (fits : w < 2 ^ 64) (x : ℕ) (high : conductor w ≤ x) where
  module _ (i : ℕ) (below : element_at w (suc i) < x) where
    -- the element of index i, and the next
    abbrev this : ℕ
    this = element_at w i

    abbrev next : ℕ
    next = element_at w (suc i)

    -- what is left after the elements of index 1 to i, without x
    abbrev rest : ℕ → Bool
    rest = without x (left_after w i)

    this_next : this < next
    this_next = element_rises w fits i

    -- x and the next element are left
    x_left : left_after w i x ≡ true
    x_left = above_left w fits i x (element_from_conductor w fits x high) (omega (arith, this_next))

    next_left : left_after w i next ≡ true
    next_left = above_left w fits i next (element_in w fits (suc i)) this_next

    -- a sum with x, other than that with the next element, is also a sum of the next and a larger one
    with_x : (y b : ℕ) → set_of w b ≡ true → this < b → x + b ≡ y + this → y ≢ x + (next - this) → sum_of_two rest (y + this) ≡ true
    with_x y b b-in above sum other =
        let more : next ≤ b = element_next w fits i b b-in above in
        let beyond : next < b = lt_of_not-le (λ l. other (omega (arith, this_next))) in
        sum_found rest (y + this) (x + b - next) next (omega arith) (omega (arith, this_next)) (omega arith)
        (in_without x (left_after w i) (λ e. omega arith) (above_left w fits i (x + b - next) (element_from_conductor w fits (x + b - next) (omega arith)) (omega (arith, this_next))))
        (in_without x (left_after w i) (λ e. omega arith) next_left)

    -- so that but for that one the sums of two stay sums of two
    sum_stays : (y : ℕ) → y ≢ x + (next - this) → sum_of_two rest (y + this) ≡ sum_of_two (left_after w i) (y + this)
    sum_stays y other =
        true_together (sum_of_two rest (y + this)) (sum_of_two (left_after w i) (y + this))
        (sum_without x (left_after w i) (y + this))
        (λ e. let s = sum_of (left_after w i) (y + this) e in
        let (p, l) = left_above w fits i s.one s.one_pos s.one_in in
        let (q, n) = left_above w fits i s.other s.other_pos s.other_in in
        elim (ℕ_discrete s.one x) [
          | yes at ↦ with_x y s.other q n (omega (arith, s.sum)) other
          | no at ↦ elim (ℕ_discrete s.other x) [
            | yes at' ↦ with_x y s.one p l (omega (arith, s.sum)) other
            | no at' ↦ sum_found rest (y + this) s.one s.other s.one_pos s.other_pos s.sum
                (in_without x (left_after w i) at s.one_in) (in_without x (left_after w i) at' s.other_in)
          ]
        ])

    -- and x with the next element is a sum of two but x where it is one of two elements above the next
    sums_above : sum_of_two rest (x + next) ≡ sum_of_two (left_after w (suc i)) (x + next)
    sums_above = same_sums rest (left_after w (suc i)) (x + next) to fro
      where
        to : Carries rest (left_after w (suc i)) (x + next)
        to a b a-pos b-pos sum a_in b-in =
            let (p, l) = without_in x (left_after w i) a a_in in
            let (q, n) = without_in x (left_after w i) b b-in in
            let (r, above) = left_above w fits i a a-pos l in
            let more : next ≤ a = element_next w fits i a r above in
            above_left w fits (suc i) a r (lt_of_not-le (λ k. q (omega arith)))

        fro : Carries (left_after w (suc i)) rest (x + next)
        fro a b a-pos b-pos sum a_in b-in =
            let (p, l) = left_above w fits (suc i) a a-pos a_in in
            let (q, n) = left_above w fits (suc i) b b-pos b-in in
            in_without x (left_after w i) (λ e. omega arith) (above_left w fits i a p (omega (arith, this_next)))

    -- what is no sum of two without x is what was none, and the one that x makes
    pub seed_without : (y : ℕ) → not (sum_of_two (without x (left_after w i)) (y + element_at w i))
        ≡ (not (sum_of_two (left_after w i) (y + element_at w i)) || (eqb y (x + jump w i) && not (sum_of_two (left_after w (suc i)) (x + element_at w (suc i)))))
    seed_without y = elim (ℕ_discrete y (x + (next - this))) [
      | yes e ↦
          let sum : x + next ≡ y + this = omega (arith, this_next) in
          let was = sum_found (left_after w i) (y + this) x next (omega arith) (omega (arith, this_next)) sum x_left next_left in
          rw (eq-eqb y (x + (next - this)) e, was) (ap (λ (n : ℕ). not (sum_of_two rest n)) (sym sum) ∙ ap not sums_above)
      | no e ↦ rw (ne_eqb y (x + (next - this)) e) (ap not (sum_stays y e) ∙ sym (or-false (not (sum_of_two (left_after w i) (y + this)))))
    ]

  -- the generators from the conductor on, where k is at least 2: those that there were, and x plus the multiplicity where x is an order-one seed
  pub generator_without : 2 ≤ conductor w - genus w → (y : ℕ) → conductor w ≤ y
      → not (sum_of_two (without x (set_of w)) y) ≡ (generator w y || (eqb y (x + multiplicity w) && order_one_seed w x))
  unfolding left_after every run
  generator_without two y h =
      let whole : left_after w 0 ≡ set_of w = fun_ext (λ a. and-true (set_of w a)) in
      let there : y + element_at w 0 ≡ y = omega (arith, element_zero w fits) in
      let size : x + jump w 0 ≡ x + multiplicity w = omega (arith, element_zero w fits, multiplicity_element w fits) in
      let least = multiplicity_element w fits in
      ap₂ (λ (S : Set) (n : ℕ). not (sum_of_two (without x S) n)) (sym whole) (sym there)
      ∙ seed_without 0 (omega (arith, multiplicity_below w fits two)) y
      ∙ ap₂ ◌||◌ (ap₂ (λ (S : Set) (n : ℕ). not (sum_of_two S n)) whole there ∙ sym (generator_from_conductor w fits y h))
      (ap₂ (λ (n : ℕ) (b : Bool). eqb y n && b) size (sym (seed_sum w fits 1 two x high)))
