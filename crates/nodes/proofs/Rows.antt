-- The rows of a table as numbers: their bits tell the seeds of their order, and the code has them by the elements at which they begin. Assumes
-- nothing.
use Rattle.std.proofs.Common.{◌≡◌, ℕ, zero, suc, ◌+◌, ◌-◌, ◌/◌, ◌%◌, ◌^◌, ◌<◌, ◌≤◌, true, not, sym, ap, ◌∙◌, ap₂, le_trans, lt_of_lt_of_le, lt_of_le_of_lt, le_of_lt, mod-lt, lt_of_not-le, div-one, arith, pow_pos, pow_mono}
use native.Mathlib.Nat.{div-eq_of_lt, zero-mod, mod-le}
use lib.Bits.{bit_and, bit_xor}
use lib.Pow.{shr_le}
use Rattle.semigroups.specs.Words.{bit, set_of, conductor, genus}
use Rattle.semigroups.specs.Elements.{element_at, multiplicity}
use Rattle.semigroups.proofs.Lists.{rises}
use Rattle.semigroups.proofs.Bits.{bit_past, bit_shr}
use Rattle.semigroups.proofs.Sets.{multiplicity_unique}
use Rattle.semigroups.proofs.Elements.{element_conductor, element_rises, element_in, element_next, element_zero, set_multiplicity, multiplicity_element}
use Rattle.semigroups.proofs.Operations.{and_multiplicity}
use Rattle.seeds.specs.Seeds.{jump, seed, order_one_seed, seed_table}
use Rattle.seeds.proofs.Orders.{entry_tells, row_part}
use Rattle.nodes.specs.Nodes.{node_of, first_row, second_row, row_at}
use Rattle.nodes.specs.declared.Node.{Node}

-- an element below the conductor has an index below k
pub index_below : (w : ℕ) → w < 2 ^ 64 → (i : ℕ) → element_at w i < conductor w → i < conductor w - genus w
index_below w fits i below =
    lt_of_not-le (λ (low : conductor w - genus w ≤ i). omega (arith, element_conductor w fits, rises (element_at w) (λ j. le_of_lt (element_rises w fits j)) low))

-- the first jump is from 0 to the multiplicity
pub first_jump : (w : ℕ) → w < 2 ^ 64 → jump w 0 ≡ multiplicity w
first_jump w fits = omega (arith, element_zero w fits, multiplicity_element w fits)

-- ---- rows 0 and 1 of a node

module _ (n : Node) (fits : n.word < 2 ^ 64) where
  -- row 0 begins at 0
  pub first_row_at : first_row n ≡ row_at n 0
  unfolding first_row row_at
  first_row_at =
      ap₂ (λ (t k : ℕ). t % 2 ^ k) (sym (ap (λ (k : ℕ). n.table / 2 ^ k) (element_zero n.word fits) ∙ div-one n.table))
      (sym (first_jump n.word fits))

  -- row 1 begins at the multiplicity
  pub second_row_at : second_row n ≡ row_at n 1
  unfolding second_row row_at
  second_row_at = ap (λ (k : ℕ). n.table / 2 ^ k % 2 ^ (element_at n.word 2 - k)) (multiplicity_element n.word fits)

-- row 1 of a table of 64 bits is a number of 64 bits
pub second_row_fits : (n : Node) → n.table < 2 ^ 64 → second_row n < 2 ^ 64
unfolding second_row
second_row_fits n small =
    let m : ℕ = multiplicity n.word in
    lt_of_le_of_lt (le_trans (mod-le (n.table / 2 ^ m) (2 ^ (element_at n.word 2 - m))) (shr_le n.table m)) small

-- ---- what the bits of a row tell

module _ (w : ℕ) (fits : w < 2 ^ 64) where
  -- a row has as many bits as its jump
  pub row_at_lt : (i : ℕ) → row_at (node_of w) i < 2 ^ jump w i
  unfolding node_of row_at
  row_at_lt i = mod-lt (seed_table w / 2 ^ element_at w i) (pow_pos (jump w i))

  -- its bits are its entries, 0 past them
  pub row_at_bit : (i : ℕ) → i < conductor w - genus w → (j : ℕ) → bit (row_at (node_of w) i) j ≡ seed w i j
  unfolding node_of row_at
  row_at_bit i low j = row_part w fits i low j ∙ sym (entry_tells w fits i low j)

  -- where k is at least 2, row 1 tells the order-one seeds by their offsets from the conductor
  pub second_row_bit : 2 ≤ conductor w - genus w → (d : ℕ) → bit (second_row (node_of w)) d ≡ order_one_seed w (conductor w + d)
  unfolding node_of row_at
  second_row_bit two d = ap (λ (r : ℕ). bit r d) (second_row_at (node_of w) fits) ∙ row_part w fits 1 two d

-- ---- as the code computes them, for every node

module _ (w : ℕ) (fits : w < 2 ^ 64) where
  -- x past the element of index i
  moved_set : (i x : ℕ) → 0 < x → set_of (w / 2 ^ element_at w i) x ≡ set_of w (element_at w i + x)
  unfolding set_of
  moved_set i zero h = absurd (omega arith)
  moved_set i (suc j) h = let there : suc (element_at w i + j) ≡ element_at w i + suc j = omega arith in ap not (bit_shr w (element_at w i) j) ∙ ap (set_of w) there

  -- moved down by an element, the word has the jump to the next one as its multiplicity
  jump_multiplicity : (i : ℕ) → multiplicity (w / 2 ^ element_at w i) ≡ jump w i
  jump_multiplicity i =
      let (a, b) : ℕ × ℕ = (element_at w i, element_at w (suc i)) in
      let rise : a < b = element_rises w fits i in
      let there : a + (b - a) ≡ b = omega arith in
      multiplicity_unique (set_of (w / 2 ^ a)) (multiplicity (w / 2 ^ a)) (b - a) (set_multiplicity (w / 2 ^ a) (lt_of_le_of_lt (shr_le w a) fits)) record {
        positive = omega arith;
        element = moved_set i (b - a) (omega arith) ∙ ap (set_of w) there ∙ element_in w fits (suc i);
        least = λ x h e. omega (arith, element_next w fits i (a + x) (sym (moved_set i x h) ∙ e) (omega arith));
      }

  -- the element of index 2 is above the multiplicity
  pub second_above : multiplicity w < element_at w 2
  second_above = omega (arith, multiplicity_element w fits, element_rises w fits 1)

  module _ {m : ℕ} (least : m ≡ multiplicity w) where
    -- as far as the word moved down by the multiplicity tells
    pub second_element_is : m + multiplicity (w / 2 ^ m) ≡ element_at w 2
    second_element_is =
        omega (arith, ap (λ (a : ℕ). multiplicity (w / 2 ^ a)) (least ∙ multiplicity_element w fits), jump_multiplicity 1, second_above, multiplicity_element w fits)

    -- and next to it from 64 on, as each number above 64 is an element
    pub second_element_far : 63 < m → m + 1 ≡ element_at w 2
    unfolding set_of
    second_element_far far =
        let in-set : set_of w (suc m) ≡ true = ap not (bit_past w 64 m fits (omega arith)) in
        omega (arith, second_above, element_next w fits 1 (suc m) in-set (omega (arith, multiplicity_element w fits)))

-- behind 64 bits there is no row
pub no_row : (n : Node) → n.table < 2 ^ 64 → (i : ℕ) → 63 < element_at n.word i → row_at n i ≡ 0
unfolding row_at
no_row n small i far =
    let none : n.table / 2 ^ element_at n.word i ≡ 0 = div-eq_of_lt (lt_of_lt_of_le small (pow_mono {i = 64} far)) in
    rw none (zero-mod _)

-- the row that begins at an element a
pub row_computed : (n : Node) → n.word < 2 ^ 64 → n.table < 2 ^ 64 → (i : ℕ) {a : ℕ} → a ≡ element_at n.word i
    → bit_and (n.table / 2 ^ a) (bit_xor (n.word / 2 ^ a) ((n.word / 2 ^ a + 1) % 2 ^ 64)) ≡ row_at n i
unfolding row_at
row_computed n fits small i {a} start =
    and_multiplicity (n.word / 2 ^ a) (lt_of_le_of_lt (shr_le n.word a) fits) (n.table / 2 ^ a) (lt_of_le_of_lt (shr_le n.table a) small)
    ∙ rw start (ap (λ (k : ℕ). n.table / 2 ^ element_at n.word i % 2 ^ k) (jump_multiplicity n.word fits i))
