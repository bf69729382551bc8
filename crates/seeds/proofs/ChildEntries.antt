-- The entries of the child's rows from those of the parent's, definition 1.3 read row by row, for each row but the child's last: entry j of row i
-- of the child at offset d is entry d + 1 + j of row i of the parent, and the last one is entry d of the parent's row i + 1. Entries past the end of
-- a row are 0, and rows of index k on are meant, too. Assumes nothing.
use Prim.Native.Nat.{ℕ, zero, suc, ◌+◌, ◌^◌, ◌≤◌, ◌<◌}
use mathlib.Core.Path.{◌≡◌, sym, ap, ap₂, ◌∙◌}
use mathlib.Core.Bool.{Bool, not, ◌||◌, ◌&&◌}
use native.Mathlib.Omega.{arith}
use native.Mathlib.Nat.{le_antisymm}
use lib.Dec.{eqb}
use borrow.Author.Tests.{eqb-true, eq-eqb}
use Rattle.semigroups.specs.Sets.{without, sum_of_two}
use Rattle.semigroups.specs.Words.{set_of, conductor, child_word}
use Rattle.semigroups.specs.Elements.{element_at}
use Rattle.semigroups.proofs.Booleans.{true_together}
use Rattle.semigroups.proofs.Sets.{same_sums, in_without, without_in}
use Rattle.semigroups.proofs.Words.{child_set}
use Rattle.semigroups.proofs.Elements.{conductor_pos, element_from_conductor, element_in, element_next, element_rises, element_zero}
use Rattle.semigroups.proofs.Children.{child_conductor}
use Rattle.seeds.specs.Seeds.{left_after, jump, seed}
use Rattle.seeds.proofs.Seeds.{left_above, above_left}
use Rattle.seeds.proofs.SeedsWithout.{seed_without}

-- the child without x, a word of 64 bits
module _ (w x : ℕ) (fits : w < 2 ^ 64) (high : conductor w ≤ x) (small : child_word w x < 2 ^ 64) where
  abbrev v : ℕ
  v = child_word w x

  -- its set
  child_set_is : (a : ℕ) → set_of v a ≡ without x (set_of w) a
  child_set_is = child_set w x (omega (arith, conductor_pos w)) (element_from_conductor w fits x high)

  -- its elements below x have the indices that they had
  pub element_stays : (i : ℕ) → element_at w i < x → element_at (child_word w x) i ≡ element_at w i
  element_stays zero below = element_zero v small ∙ sym (element_zero w fits)
  element_stays (suc i) below =
      let here = element_stays i (omega (arith, element_rises w fits i)) in
      let (apart, stays) = without_in x (set_of w) (element_at v (suc i)) (sym (child_set_is (element_at v (suc i))) ∙ element_in v small (suc i)) in
      le_antisymm
      (element_next v small i (element_at w (suc i)) (child_set_is (element_at w (suc i)) ∙ in_without x (set_of w) (λ e. omega arith) (element_in w fits (suc i))) (omega (arith, element_rises w fits i)))
      (element_next w fits i (element_at v (suc i)) stays (omega (arith, element_rises v small i)))

  -- what is left of it after the elements of index 1 to i is what was left, without x
  left_without : (i : ℕ) → element_at w i < x → (y : ℕ) → sum_of_two (left_after v i) y ≡ sum_of_two (without x (left_after w i)) y
  left_without i below y =
      let here = element_stays i below in
      same_sums (left_after v i) (without x (left_after w i)) y
      (λ a b a-pos b-pos sum a_in b-in.
      let (p, l) = left_above v small i a a-pos a_in in
      let (apart, q) = without_in x (set_of w) a (sym (child_set_is a) ∙ p) in
      in_without x (left_after w i) apart (above_left w fits i a q (omega arith)))
      (λ a b a-pos b-pos sum a_in b-in.
      let (apart, p) = without_in x (left_after w i) a a_in in
      let (q, l) = left_above w fits i a a-pos p in
      above_left v small i a (child_set_is a ∙ in_without x (set_of w) apart q) (omega arith))

-- at the offset d from the conductor
module _ (w d : ℕ) (fits : w < 2 ^ 64) (small : child_word w (conductor w + d) < 2 ^ 64) where
  -- the law of the child's entries
  pub child_entry : (i : ℕ) → element_at w (suc i) < conductor w + d → (j : ℕ)
      → seed (child_word w (conductor w + d)) i j ≡ (seed w i (d + 1 + j) || (eqb (suc j) (jump w i) && seed w (suc i) d))
  unfolding seed
  child_entry i below j =
      let x : ℕ = conductor w + d in
      let y : ℕ = suc x + j in
      let low : element_at w i < x = omega (arith, element_rises w fits i) in
      let at : conductor (child_word w x) + j + element_at (child_word w x) i ≡ y + element_at w i =
      omega (arith, child_conductor w x fits (omega arith) small, element_stays w x fits (omega arith) small i low) in
      let there : y + element_at w i ≡ conductor w + (d + 1 + j) + element_at w i = omega arith in
      let last : eqb y (x + jump w i) ≡ eqb (suc j) (jump w i) =
      true_together (eqb y (x + jump w i)) (eqb (suc j) (jump w i))
      (λ e. eq-eqb (suc j) (jump w i) (omega (arith, eqb-true y (x + jump w i) e))) (λ e. eq-eqb y (x + jump w i) (omega (arith, eqb-true (suc j) (jump w i) e))) in
      ap not (ap (sum_of_two (left_after (child_word w x) i)) at ∙ left_without w x fits (omega arith) small i low (y + element_at w i))
      ∙ seed_without w fits x (omega arith) i below y
      ∙ ap₂ (λ (n : ℕ) (b : Bool). not (sum_of_two (left_after w i) n) || (b && not (sum_of_two (left_after w (suc i)) (x + element_at w (suc i))))) there last
