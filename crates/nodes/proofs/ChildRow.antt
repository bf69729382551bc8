-- The law of the child's rows, as numbers: for each i with i + 1 below k, row i of the child at offset d is row i of the parent moved down by
-- d + 1, and its last bit stands where bit d of the parent's row i + 1 does. Assumes nothing.
use Rattle.std.proofs.Common.{◌≡◌, ℕ, suc, ◌+◌, ◌-◌, ◌*◌, ◌/◌, ◌^◌, ◌<◌, ◌≤◌, Bool, ◌&&◌, ◌||◌, eqb, sym, ap, ◌∙◌, subst, ap₂, lt_of_le_of_lt, arith, shl_lt, eq-eqb, eqb-true}
use lib.Bits.{bit_or, or_lt}
use lib.Pow.{shr_le}
use Rattle.semigroups.specs.Words.{bit, digit, genus, conductor, child_word}
use Rattle.semigroups.specs.Elements.{element_at, multiplicity}
use Rattle.semigroups.proofs.Booleans.{true_together}
use Rattle.semigroups.proofs.Bits.{bit_of_or, bit_shr, bits_decide, bit_digit_at, digit_lt}
use Rattle.semigroups.proofs.Elements.{element_rises, element_le_conductor, multiplicity_element}
use Rattle.semigroups.proofs.Children.{child_conductor, child_genus}
use Rattle.seeds.specs.Seeds.{jump}
use Rattle.seeds.proofs.ChildEntries.{element_stays, child_entry}
use Rattle.nodes.specs.Nodes.{node_of, first_row, second_row, row_at, row_of_child, child_row}
use Rattle.nodes.proofs.Rows.{first_jump, first_row_at, second_row_at, row_at_lt, row_at_bit}

module _ (w d : ℕ) (fits : w < 2 ^ 64) (small : child_word w (conductor w + d) < 2 ^ 64) where
  abbrev x : ℕ
  x = conductor w + d

  abbrev v : ℕ
  v = child_word w (conductor w + d)

  -- an element of index up to k - 1 stays
  stays : (i : ℕ) → i < conductor w - genus w → element_at v i ≡ element_at w i
  stays i low = element_stays w x fits (omega arith) small i (omega (arith, element_rises w fits i, element_le_conductor w fits (suc i) low))

  -- and so does the multiplicity, where k is at least 2
  pub child_multiplicity : 2 ≤ conductor w - genus w → multiplicity (child_word w (conductor w + d)) ≡ multiplicity w
  child_multiplicity two = multiplicity_element v small ∙ stays 1 two ∙ sym (multiplicity_element w fits)

  module _ (i : ℕ) (low : suc i < conductor w - genus w) where
    -- row i stays as long
    child_jump : jump v i ≡ jump w i
    child_jump = ap₂ ◌-◌ (stays (suc i) low) (stays i (omega arith))

    -- the law
    pub child_row_is : row_at (node_of (child_word w (conductor w + d))) i ≡ child_row (node_of w) i d
    unfolding node_of row_of_child child_row
    child_row_is =
        let (row, next) : ℕ × ℕ = (row_at (node_of w) i, row_at (node_of w) (suc i)) in
        let size : ℕ = jump w i in
        let some : 0 < size = omega (arith, element_rises w fits i) in
        let whole : 1 + (size - 1) ≡ size = omega arith in
        let below : element_at w (suc i) < x = omega (arith, element_rises w fits (suc i), element_le_conductor w fits (suc (suc i)) low) in
        let c = child_conductor w x fits (omega arith) small in
        let g = child_genus w x fits (omega arith) small in
        bits_decide size (row_at (node_of v) i) (bit_or (row / 2 ^ (d + 1)) (digit (bit next d) * 2 ^ (size - 1)))
        (subst (λ (n : ℕ). row_at (node_of v) i < 2 ^ n) child_jump (row_at_lt v small i))
        (or_lt size (row / 2 ^ (d + 1)) (digit (bit next d) * 2 ^ (size - 1)) (lt_of_le_of_lt (shr_le row (d + 1)) (row_at_lt w fits i))
        (subst (λ (n : ℕ). digit (bit next d) * 2 ^ (size - 1) < 2 ^ n) whole (shl_lt 1 (size - 1) (digit_lt (bit next d)))))
        (λ j h.
        let last : eqb (suc j) size ≡ eqb j (size - 1) =
        true_together (eqb (suc j) size) (eqb j (size - 1))
        (λ e. eq-eqb j (size - 1) (omega (arith, eqb-true (suc j) size e))) (λ e. eq-eqb (suc j) size (omega (arith, eqb-true j (size - 1) e))) in
        row_at_bit v small i (omega arith) j ∙ child_entry w d fits small i below j
        ∙ ap₂ ◌||◌ (sym (bit_shr row (d + 1) j ∙ row_at_bit w fits i (omega arith) (d + 1 + j))) (ap₂ ◌&&◌ last (sym (row_at_bit w fits (suc i) low d)))
        ∙ sym (bit_of_or (row / 2 ^ (d + 1)) (digit (bit next d) * 2 ^ (size - 1)) j ∙ ap (λ (b : Bool). bit (row / 2 ^ (d + 1)) j || b) (bit_digit_at (bit next d) (size - 1) j)))

  -- row 0, where k is at least 2: its jump is the multiplicity
  pub first_row_of_child : 2 ≤ conductor w - genus w
      → first_row (node_of (child_word w (conductor w + d))) ≡ row_of_child (first_row (node_of w)) (second_row (node_of w)) (multiplicity w) d
  unfolding node_of child_row
  first_row_of_child two =
      first_row_at (node_of v) small ∙ child_row_is 0 two ∙ rw (first_jump w fits, first_row_at (node_of w) fits, second_row_at (node_of w) fits)

  -- row 1, where k is at least 3
  pub second_row_of_child : 3 ≤ conductor w - genus w
      → second_row (node_of (child_word w (conductor w + d))) ≡ row_of_child (second_row (node_of w)) (row_at (node_of w) 2) (jump w 1) d
  unfolding node_of child_row
  second_row_of_child three = second_row_at (node_of v) small ∙ child_row_is 1 three ∙ rw (second_row_at (node_of w) fits)
