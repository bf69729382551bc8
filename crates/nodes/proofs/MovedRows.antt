-- Rows moved up to the conductor: those of a child from those of the parent, and the words two and three levels below a word by them. Assumes
-- nothing.
use Rattle.std.proofs.Common.{◌≡◌, ℕ, suc, ◌+◌, ◌-◌, ◌*◌, ◌/◌, ◌%◌, ◌^◌, ◌<◌, ◌≤◌, Bool, false, ◌&&◌, ◌||◌, eqb, map, sym, ap, ◌∙◌, subst, ap₂, mod-lt, mul_assoc, lt_of_not-le, div-mul-le_self, arith, pow_pos, pow-add, eq-eqb, ne_eqb, eqb-true}
use mathlib.Core.List.Memᴰ
use mathlib.Core.List.{Memᴰ}
use native.Mathlib.Nat.{le_dest}
use native.Mathlib.Decide.{dec_lt}
use lib.Bits.{bit_and, bit_or, or_lt}
use Rattle.semigroups.specs.Words.{bit, digit, genus, conductor, child_word}
use Rattle.semigroups.specs.Positions.{positions, above}
use Rattle.semigroups.specs.Elements.{element_at, multiplicity, right_generators}
use Rattle.semigroups.specs.Children.{Child}
use Rattle.semigroups.specs.Tree.{leaves}
use Rattle.semigroups.proofs.Booleans.{true_together, not_both}
use Rattle.semigroups.proofs.Bits.{bit_of_or, bit_shl, bit_shl_low, bit_mod, bits_decide, bit_digit_at, and_one_bit}
use Rattle.semigroups.proofs.StandingBits.{bit_above, positions_mem}
use Rattle.semigroups.proofs.Elements.{conductor_pos, multiplicity_pos, multiplicity_element, element_rises, element_le_conductor, multiplicity_below}
use Rattle.semigroups.proofs.Closure.{conductor_le_64}
use Rattle.seeds.specs.Seeds.{jump}
use Rattle.nodes.specs.Nodes.{node_of, first_row, second_row, row_at, row_of_child, child_row, lowest_offset, TakenOff}
use Rattle.nodes.specs.Levels.{Levels, NodeWithLevels}
use Rattle.nodes.specs.Branches.{Offsets}
use Rattle.nodes.specs.NewGaps.{gap_branches, GapsFit, moved_row, moved_row_of_child, TwoRows, ThreeRows, Upper}
use Rattle.nodes.specs.declared.Node.{Node}
use Rattle.nodes.proofs.Rows.{index_below, first_jump, first_row_at, second_row_at}
use Rattle.nodes.proofs.ChildRow.{child_row_is, child_multiplicity}
use Rattle.nodes.proofs.RowBits.{row_of_child_bit}
use Rattle.nodes.proofs.Nodes.{first_row_generators}
use Rattle.nodes.proofs.Levels.{node_conductor}
use Rattle.nodes.proofs.Branches.{child_of_generator, child_levels, leaves_row, offsets_row}
use Rattle.nodes.proofs.NewGaps.{positions_moved, gap_branches_moved, fits_moved, upper_lowest, upper_bit, upper_rest, upper_taken, upper_left_is, gap_word, bit_word}

-- ---- one row of a child, as numbers

-- a moved row has no bit below the conductor
moved_low : (w i k : ℕ) → k < conductor w - 1 → k < 64 → bit (moved_row w i) k ≡ false
unfolding moved_row
moved_low w i k low h = bit_mod (row_at (node_of w) i * 2 ^ (conductor w - 1)) 64 k h ∙ bit_shl_low (row_at (node_of w) i) (conductor w - 1) k low

-- a moved bit
moved_bit : (k a j : ℕ) → k + j < 64 → bit (a * 2 ^ k % 2 ^ 64) (k + j) ≡ bit a j
moved_bit k a j h = bit_mod (a * 2 ^ k) 64 (k + j) h ∙ bit_shl a k j

-- row has size entries and next is the row after it, of a word with conductor c; the child is the one at offset d
module _ (row next size c d : ℕ) (pos : 0 < c) (some : 0 < size) (near : c + d ≤ 64) where
  -- the bit of the generator that is taken out
  abbrev i : ℕ
  i = c - 1 + d

  -- both rows, moved up to c
  abbrev up : ℕ
  up = row * 2 ^ (c - 1) % 2 ^ 64

  abbrev next_up : ℕ
  next_up = next * 2 ^ (c - 1) % 2 ^ 64

  -- the row of the child
  abbrev child : ℕ
  child = row_of_child row next size d

  -- the one bit of the next row, `size` places on
  last_bit : (k : ℕ) → k < 64 → bit (bit_and next_up (2 ^ i) * 2 ^ size % 2 ^ 64) k ≡ (eqb k (i + size) && bit next d)
  last_bit k h =
      bit_mod (bit_and next_up (2 ^ i) * 2 ^ size) 64 k h
      ∙ ap (λ (n : ℕ). bit n k) (ap (λ (n : ℕ). n * 2 ^ size) (and_one_bit next_up i) ∙ mul_assoc (digit (bit next_up i)) (2 ^ i) (2 ^ size) ∙ ap (λ (n : ℕ). digit (bit next_up i) * n) (sym (pow-add 2 i size)))
      ∙ bit_digit_at (bit next_up i) (i + size) k ∙ ap (λ (b : Bool). eqb k (i + size) && b) (moved_bit (c - 1) next d (omega arith))

  -- up to the generator there is no bit
  low : (k : ℕ) → k < c + d → (bit (above up i) k || (eqb k (i + size) && bit next d)) ≡ bit (child * 2 ^ (c + d)) k
  low k l =
      ap₂ (λ (a b : Bool). a || (b && bit next d)) (bit_shl_low (up / 2 ^ (i + 1)) (i + 1) k (omega arith)) (ne_eqb k (i + size) (λ e. omega arith))
      ∙ sym (bit_shl_low child (c + d) k l)

  -- after it there are those of the child's row
  high : (k : ℕ) → k < 64 → c + d ≤ k → (bit (above up i) k || (eqb k (i + size) && bit next d)) ≡ bit (child * 2 ^ (c + d)) k
  high k h l =
      let (j, e) = le_dest l in
      let there : c - 1 + (d + 1 + j) ≡ k = omega arith in
      let later : bit (above up i) k ≡ bit row (d + 1 + j) = bit_above up i k (omega arith) ∙ ap (bit up) (sym there) ∙ moved_bit (c - 1) row (d + 1 + j) (omega arith) in
      let last : eqb k (i + size) ≡ eqb j (size - 1) =
      true_together (eqb k (i + size)) (eqb j (size - 1)) (λ q. eq-eqb j (size - 1) (omega (arith, eqb-true k (i + size) q))) (λ q. eq-eqb k (i + size) (omega (arith, eqb-true j (size - 1) q))) in
      ap₂ ◌||◌ later (ap (λ (b : Bool). b && bit next d) last) ∙ sym (ap (bit (child * 2 ^ (c + d))) (sym e) ∙ bit_shl child (c + d) j ∙ row_of_child_bit row next size d j)

  -- so that the child's row, moved up to its conductor, is made of the moved rows
  row_moved : row_of_child row next size d * 2 ^ (c + d) % 2 ^ 64 ≡ moved_row_of_child (row * 2 ^ (c - 1) % 2 ^ 64) (next * 2 ^ (c - 1) % 2 ^ 64) size (c - 1 + d)
  row_moved =
      sym (bits_decide 64 _ _ (or_lt 64 (above up i) _ (omega (arith, div-mul-le_self up (2 ^ (i + 1)))) (mod-lt _ (pow_pos 64))) (mod-lt _ (pow_pos 64))
      (λ k h.
      bit_of_or (above up i) (bit_and next_up (2 ^ i) * 2 ^ size % 2 ^ 64) k ∙ ap (λ (b : Bool). bit (above up i) k || b) (last_bit k h)
      ∙ elim (dec_lt k (c + d)) [
        | yes l ↦ low k l
        | no l ↦ high k h (omega arith)
      ]
      ∙ sym (bit_mod (child * 2 ^ (c + d)) 64 k h)))

-- the law of the child's rows for moved rows, at the generator of bit c - 1 + d
pub moved_row_of_child_is : (w d : ℕ) → w < 2 ^ 64 → Child w (conductor w + d) → (i : ℕ) → suc i < conductor w - genus w
    → moved_row (child_word w (conductor w + d)) i ≡ moved_row_of_child (moved_row w i) (moved_row w (suc i)) (jump w i) (conductor w - 1 + d)
unfolding node_of child_row moved_row
moved_row_of_child_is w d fits child i low =
    let next : conductor (child_word w (conductor w + d)) - 1 ≡ conductor w + d = omega (arith, child.new_conductor) in
    ap₂ (λ (r k : ℕ). r * 2 ^ k % 2 ^ 64) (child_row_is w d fits child.fits i low) next
    ∙ row_moved (row_at (node_of w) i) (row_at (node_of w) (suc i)) (jump w i) (conductor w) d (conductor_pos w) (omega (arith, element_rises w fits i)) (omega (arith, child.low))

-- ---- the moved row 0 of a word with levels below it

module _ (r w : ℕ) (at : Levels (suc r) w) where
  -- row 0 has the generators not below the conductor
  first_row_has : right_generators w ≡ map (λ d. conductor w + d) (positions (row_at (node_of w) 0))
  unfolding node_of
  first_row_has =
      first_row_generators w at.fits at.closed (omega (arith, at.few)) ∙ ap (λ (row : ℕ). map (λ d. conductor w + d) (positions row)) (first_row_at (node_of w) at.fits)

  -- and so their offsets
  first_row_offsets : Offsets w (row_at (node_of w) 0)
  first_row_offsets = offsets_row r w (row_at (node_of w) 0) first_row_has

  -- moved up, it has the new gaps of all children
  leaves_moved : leaves (suc r) w ≡ gap_branches r w (moved_row w 0)
  unfolding moved_row
  leaves_moved = leaves_row r w (row_at (node_of w) 0) first_row_has ∙ sym (gap_branches_moved r w (row_at (node_of w) 0) at first_row_offsets)

  -- these are words of 64 bits
  fits_first : GapsFit w (moved_row w 0)
  unfolding moved_row
  fits_first = fits_moved r w (row_at (node_of w) 0) at first_row_offsets

  -- a bit of it is that of a generator, by its offset
  moved_offset : {i : ℕ} → Memᴰ i (positions (moved_row w 0)) → (d : ℕ) × Memᴰ (conductor w + d) (right_generators w) × (conductor w - 1 + d ≡ i)
  unfolding moved_row
  moved_offset {i} m =
      let (d, there, e) = Memᴰ.of_map (λ d. conductor w - 1 + d) (positions (row_at (node_of w) 0)) (subst (Memᴰ i) (positions_moved r w (row_at (node_of w) 0) at first_row_offsets) m) in
      (d, first_row_offsets d there, e)

  -- the generator is one more than its bit
  pub bit_generator : {i : ℕ} → Memᴰ i (positions (moved_row w 0)) → Memᴰ (suc i) (right_generators w)
  bit_generator {i} m =
      let (d, x, e) = moved_offset m in
      let gap : conductor w + d ≡ suc i = omega (arith, conductor_pos w) in
      subst (λ (y : ℕ). Memᴰ y (right_generators w)) gap x

-- ---- as a loop has them

-- rest has the generators from one of them on, at is the lowest bit of it, and others has those after it: a moved row of the child without that one
pub child_row_computed : {generators rest at others : ℕ} (next size : ℕ) → Upper generators rest → 0 < rest → (at ≡ lowest_offset rest) × (others ≡ rest - 2 ^ lowest_offset rest)
    → bit_or others (bit_and next (rest - others) * 2 ^ size % 2 ^ 64) ≡ moved_row_of_child generators next size at
child_row_computed next size from some low =
    ap₂ (λ (r e : ℕ). bit_or r (bit_and next e * 2 ^ size % 2 ^ 64)) (upper_rest from some low) (upper_lowest from some low).value

-- the same by that bit itself
pub child_row_made : {generators rest at others : ℕ} (next size : ℕ) → Upper generators rest → TakenOff rest at others
    → bit_or others (bit_and next (2 ^ at) * 2 ^ size % 2 ^ 64) ≡ moved_row_of_child generators next size at
child_row_made {at = at} next size upper low = ap (λ (r : ℕ). bit_or r (bit_and next (2 ^ at) * 2 ^ size % 2 ^ 64)) (upper_left_is upper low)

-- ---- the words two levels below

module _ {w m generators seeds : ℕ} (rows : TwoRows w m generators seeds) where
  -- they are below the children without the generators
  pub two_levels_below : leaves 2 w ≡ gap_branches 1 w generators
  two_levels_below = leaves_moved 1 w rows.levels ∙ ap (gap_branches 1 w) (sym rows.first)

  -- the multiplicity is below the conductor
  pub two_rows_low : m < 64
  two_rows_low =
      let o = rows.levels in
      omega (arith, rows.least, multiplicity_below w o.fits rows.two, conductor_le_64 w o.fits o.closed (omega (arith, o.few)))

  -- and the children are words of 64 bits
  pub two_rows_fit : GapsFit w generators
  two_rows_fit = subst (GapsFit w) (sym rows.first) (fits_first 1 w rows.levels)

  module _ {i : ℕ} (g : Memᴰ i (positions generators)) where
    abbrev v : ℕ
    v = child_word w (suc i)

    -- the child without the generator of bit i has a level below it, and its row 0 is told by both rows
    pub child_told : Levels 1 (child_word w (suc i)) × (moved_row (child_word w (suc i)) 0 ≡ moved_row_of_child generators seeds m i)
    child_told =
        let (d, x, e) = moved_offset 1 w rows.levels (subst (λ (n : ℕ). Memᴰ i (positions n)) rows.first g) in
        let gap : conductor w + d ≡ suc i = omega (arith, conductor_pos w) in
        let size : jump w 0 ≡ m = first_jump w rows.levels.fits ∙ sym rows.least in
        let one : bit_and (moved_row w 1) (2 ^ i) ≡ bit_and seeds (2 ^ i) =
        and_one_bit (moved_row w 1) i ∙ ap (λ (b : Bool). digit b * 2 ^ i) (sym (rows.second i g)) ∙ sym (and_one_bit seeds i) in (
          subst (λ (y : ℕ). Levels 1 (child_word w y)) gap (child_levels 1 w rows.levels x),
          ap (λ (y : ℕ). moved_row (child_word w y) 0) (sym gap) ∙ moved_row_of_child_is w d rows.levels.fits (child_of_generator 1 w rows.levels x) 0 rows.two
              ∙ rw (e, size, sym rows.first) (ap (λ (a : ℕ). bit_or (above generators i) (a * 2 ^ m % 2 ^ 64)) one),
        )

    -- so that the words below it are made by these bits
    pub one_level_below : leaves 1 (child_word w (suc i)) ≡ gap_branches 0 (child_word w (suc i)) (moved_row_of_child generators seeds m i)
    one_level_below = leaves_moved 0 v child_told.0 ∙ ap (gap_branches 0 v) child_told.1

    -- and they are words of 64 bits
    pub child_bits_fit : GapsFit (child_word w (suc i)) (moved_row_of_child generators seeds m i)
    child_bits_fit = subst (GapsFit v) child_told.1 (fits_first 0 v child_told.0)

-- ---- the words three levels below

module _ {w m u generators seeds last : ℕ} (rows : ThreeRows w m u generators seeds last) where
  -- the multiplicity and row 1 are shorter than 64 bits
  pub three_rows_low : (m < 64) × (u < 64)
  three_rows_low =
      let o = rows.levels in
      let high = conductor_le_64 w o.fits o.closed (omega (arith, o.few)) in
      let second = element_le_conductor w o.fits 2 (omega (arith, rows.three)) in
      (omega (arith, rows.least, multiplicity_element w o.fits, element_rises w o.fits 1), omega (arith, rows.size, multiplicity_element w o.fits, multiplicity_pos w o.fits))

  -- the words are below the children without the generators
  pub three_levels_below : leaves 3 w ≡ gap_branches 2 w generators
  three_levels_below = leaves_moved 2 w rows.levels ∙ ap (gap_branches 2 w) (sym rows.first)

  -- and these are words of 64 bits
  pub three_rows_fit : GapsFit w generators
  three_rows_fit = subst (GapsFit w) (sym rows.first) (fits_first 2 w rows.levels)

  -- rows 0 and 1 of the child without the generator of bit i are told by the three: its generators are above that one, so that of row 1 the later
  -- bits count
  pub child_two_rows : {i : ℕ} → Memᴰ i (positions generators)
      → TwoRows (child_word w (suc i)) m (moved_row_of_child generators seeds m i) (bit_or seeds (bit_and last (2 ^ i) * 2 ^ u % 2 ^ 64))
  child_two_rows {i} g = subst (λ (y : ℕ). TwoRows (child_word w y) m (moved_row_of_child generators seeds m i) (bit_or seeds new)) gap record {
    levels = child_levels 2 w rows.levels x;
    two = omega (arith, child.new_conductor, child.new_genus, rows.three);
    least = rows.least ∙ sym (child_multiplicity w d rows.levels.fits child.fits (omega (arith, rows.three)));
    first = first_moved;
    second = λ k k-in.
        let high : i < k = lt_of_not-le (λ (h : k ≤ i). not_both (positions_mem _ k-in).1 (below_child k h (positions_mem _ k-in).0)) in
        bit_of_or seeds new k ∙ ap (λ (b : Bool). b || bit new k) (sym (bit_above seeds i k high)) ∙ sym (bit_of_or (above seeds i) new k) ∙ ap (λ (n : ℕ). bit n k) second_moved;
  }
    where
      new : ℕ
      new = bit_and last (2 ^ i) * 2 ^ u % 2 ^ 64

      offset : (d : ℕ) × Memᴰ (conductor w + d) (right_generators w) × (conductor w - 1 + d ≡ i)
      offset = moved_offset 2 w rows.levels (subst (λ (n : ℕ). Memᴰ i (positions n)) rows.first g)

      d : ℕ
      d = offset.0

      x : Memᴰ (conductor w + d) (right_generators w)
      x = offset.1

      child : Child w (conductor w + d)
      child = child_of_generator 2 w rows.levels x

      gap : conductor w + d ≡ suc i
      gap = omega (arith, conductor_pos w, offset.2)

      first_moved : moved_row_of_child generators seeds m i ≡ moved_row (child_word w (conductor w + d)) 0
      first_moved =
          let size : jump w 0 ≡ m = first_jump w rows.levels.fits ∙ sym rows.least in
          sym (moved_row_of_child_is w d rows.levels.fits child 0 (omega (arith, rows.three)) ∙ rw (offset.2, size, sym rows.first, sym rows.second))

      second_moved : moved_row_of_child seeds last u i ≡ moved_row (child_word w (conductor w + d)) 1
      second_moved = sym (moved_row_of_child_is w d rows.levels.fits child 1 rows.three ∙ rw (offset.2, sym rows.size, sym rows.second, sym rows.third))

      -- up to that bit the child has no generator
      below_child : (k : ℕ) → k ≤ i → k < 64 → bit (moved_row_of_child generators seeds m i) k ≡ false
      below_child k h l = ap (λ (n : ℕ). bit n k) first_moved ∙ moved_low (child_word w (conductor w + d)) 0 k (omega (arith, child.new_conductor, offset.2, conductor_pos w)) l

  -- and so are those of the child without the lowest generator that is left, by the numbers as they are computed
  pub child_two_rows_computed : {rest at others : ℕ} → Upper generators rest → 0 < rest
      → (at ≡ lowest_offset rest) × (others ≡ rest - 2 ^ lowest_offset rest)
      → TwoRows (w + (rest - others)) m (bit_or others (bit_and seeds (rest - others) * 2 ^ m % 2 ^ 64))
      (bit_or seeds (bit_and last (rest - others) * 2 ^ u % 2 ^ 64))
  child_two_rows_computed from some low =
      let off = upper_lowest from some low in
      rw (gap_word w off, child_row_computed seeds m from some low, off.value) (child_two_rows (upper_bit from some low))

  pub child_two_rows_made : {rest at others : ℕ} → Upper generators rest → TakenOff rest at others
      → TwoRows (w + 2 ^ at) m (bit_or others (bit_and seeds (2 ^ at) * 2 ^ m % 2 ^ 64)) (bit_or seeds (bit_and last (2 ^ at) * 2 ^ u % 2 ^ 64))
  child_two_rows_made {at = at} upper low = rw (bit_word w at, child_row_made seeds m upper low) (child_two_rows (upper_taken upper low))

-- ---- as they are read off a node

module _ (r : ℕ) (n : Node) (at : NodeWithLevels r n) where
  -- a row of it, moved up
  node_row : (i row : ℕ) → row ≡ row_at n i → row * 2 ^ (n.conductor - 1) % 2 ^ 64 ≡ moved_row n.word i
  unfolding moved_row
  node_row i row is = ap₂ (λ (a c : ℕ). a * 2 ^ (c - 1) % 2 ^ 64) (is ∙ ap (λ (k : Node). row_at k i) at.node) (node_conductor r n at)

-- the numbers that are read off a node are those of its word
module _ (n : Node) {m row second : ℕ} (least : m ≡ multiplicity n.word) (first-is : row ≡ first_row n) (second_is : second ≡ second_row n) where
  -- two rows, where the conductor is above the multiplicity
  pub node_two_rows : NodeWithLevels 2 n → multiplicity n.word < conductor n.word
      → TwoRows n.word m (row * 2 ^ (n.conductor - 1) % 2 ^ 64) (second * 2 ^ (n.conductor - 1) % 2 ^ 64)
  node_two_rows at later =
      let fits = at.levels.fits in
      record {
        levels = at.levels;
        two = index_below n.word fits 1 (omega (arith, multiplicity_element n.word fits));
        least = least;
        first = node_row 2 n at 0 row (first-is ∙ first_row_at n fits);
        second = λ i g. ap (λ (a : ℕ). bit a i) (node_row 2 n at 1 second (second_is ∙ second_row_at n fits));
      }

  -- three, where it is above the second positive element
  pub node_three_rows : NodeWithLevels 3 n → element_at n.word 2 < conductor n.word → {a third : ℕ} → a ≡ element_at n.word 2 → third ≡ row_at n 2
      → ThreeRows n.word m (a - m) (row * 2 ^ (n.conductor - 1) % 2 ^ 64) (second * 2 ^ (n.conductor - 1) % 2 ^ 64) (third * 2 ^ (n.conductor - 1) % 2 ^ 64)
  node_three_rows at below {a} {third} element_is third-is =
      let fits = at.levels.fits in
      record {
        levels = at.levels;
        three = index_below n.word fits 2 below;
        least = least;
        size = omega (arith, multiplicity_element n.word fits);
        first = node_row 3 n at 0 row (first-is ∙ first_row_at n fits);
        second = node_row 3 n at 1 second (second_is ∙ second_row_at n fits);
        third = node_row 3 n at 2 third third-is;
      }
