-- The node of the word whose gaps are the numbers from 1 to m - 1, the first of multiplicity m: all entries of its table are 1, so that its
-- children are at the m offsets from 0 to m - 1. Assumes nothing.
use Rattle.std.proofs.Common.{◌≡◌, ℕ, ◌+◌, ◌-◌, ◌^◌, ◌<◌, ◌≤◌, true, not, map, sym, ap, ◌∙◌, subst, mod-eq_of_lt, arith, pow_pos, pow_mono}
use native.Mathlib.Nat.{sub-zero}
use lib.Count.{count_trailing_zeros}
use Rattle.semigroups.specs.Words.{bit, conductor}
use Rattle.semigroups.specs.Positions.{positions}
use Rattle.semigroups.specs.Elements.{right_generators}
use Rattle.semigroups.proofs.Booleans.{not_both, is_true}
use Rattle.semigroups.proofs.Bits.{bit_zero, bit_not, bits_decide, bit_cleared}
use Rattle.semigroups.proofs.StandingBits.{trailing_below}
use Rattle.semigroups.proofs.Elements.{multiplicity_least}
use Rattle.semigroups.proofs.First.{first_of_genus, first_conductor, first_multiplicity}
use Rattle.seeds.specs.Seeds.{seed_table}
use Rattle.seeds.proofs.Seeds.{table_lt, table_clear}
use Rattle.nodes.specs.Nodes.{node_of, first_row, lowest_offset}
use Rattle.nodes.specs.Levels.{NodeWithLevels}
use Rattle.nodes.specs.Branches.{Offsets}
use Rattle.nodes.proofs.Nodes.{first_row_generators}
use Rattle.nodes.proofs.Levels.{accepted_levels}
use Rattle.nodes.proofs.Branches.{TakenOff, lowest_trailing, taken_off, offsets_rest, offsets_row}

module _ (m : ℕ) (positive : 1 ≤ m) (h : m ≤ 33) where
  abbrev w : ℕ
  w = 2 ^ (m - 1) - 1

  -- there are r levels below it up to genus 32
  pub first_node_levels : (r : ℕ) → m + r ≤ 33 → NodeWithLevels r (node_of (2 ^ (m - 1) - 1))
  first_node_levels r few =
      let o = first_of_genus m positive (omega arith) in
      accepted_levels r w o.fits record { closed = o.closed; few = omega arith } (omega arith)

  -- of 2 ^ m - 1 all bits below m stand
  stands : (l : ℕ) → l < m → bit (2 ^ m - 1) l ≡ true
  stands l k = rw sub-zero at (bit_not m 0 l (pow_pos m) k ∙ ap not (bit_zero l))

  -- no positive element is below m, so that all entries of its table are 1
  is_table : seed_table w ≡ 2 ^ m - 1
  is_table =
      let fits = (first_of_genus m positive (omega arith)).fits in
      let c = first_conductor m positive (omega arith) in
      let least = first_multiplicity m positive (omega arith) in
      bits_decide m (seed_table w) (2 ^ m - 1) (subst (λ (n : ℕ). seed_table w < 2 ^ n) c (table_lt w fits)) (omega (arith, pow_pos m)) (λ l k.
      is_true (bit (seed_table w) l) (λ e.
      let (x, y, x-in, y-in, x-low, y-low, sum) = (table_clear w fits l (omega arith)).0 e in
      omega (arith, multiplicity_least w fits x (omega arith) x-in))
      ∙ sym (stands l k))

  -- its node
  pub first_node : node_of (2 ^ (m - 1) - 1) ≡ record { word = 2 ^ (m - 1) - 1; table = 2 ^ m - 1; conductor = m }
  unfolding node_of
  first_node = λ i. record { word = w; table = is_table i; conductor = first_conductor m positive (omega arith) i }

  -- its first row has m offsets
  pub first_node_row : first_row (node_of (2 ^ (m - 1) - 1)) ≡ 2 ^ m - 1
  unfolding node_of first_row
  first_node_row = rw (is_table, first_multiplicity m positive (omega arith)) (mod-eq_of_lt (omega (arith, pow_pos m)))

  -- they are the offsets of its right generators
  pub first_node_generators : right_generators (2 ^ (m - 1) - 1) ≡ map (λ d. conductor (2 ^ (m - 1) - 1) + d) (positions (2 ^ m - 1))
  first_node_generators =
      let o = first_of_genus m positive (omega arith) in
      first_row_generators w o.fits o.closed (omega arith) ∙ ap (λ (n : ℕ). map (λ d. conductor w + d) (positions n)) first_node_row

  -- so that each of them is the offset of a child
  pub first_node_offsets : Offsets (2 ^ (m - 1) - 1) (2 ^ m - 1)
  first_node_offsets = offsets_row 0 w (2 ^ m - 1) first_node_generators

  -- the first of them is 0, and the others are the bits of 2 ^ m - 2
  pub first_node_lowest : TakenOff (2 ^ m - 1) 0 (2 ^ m - 2)
  first_node_lowest =
      let some = (bit_cleared (2 ^ m - 1) 0 (stands 0 positive)).0 in
      let most : 2 ^ m ≤ 2 ^ 64 = pow_mono {j = 64} (omega arith) in
      let none : ¬ (0 < count_trailing_zeros 64 (2 ^ m - 1)) = λ l. not_both (stands 0 positive) (trailing_below 64 (2 ^ m - 1) 0 l) in
      let zero : lowest_offset (2 ^ m - 1) ≡ 0 = omega (arith, lowest_trailing (2 ^ m - 1) (omega arith) (omega arith)) in
      taken_off (2 ^ m - 1) (omega arith) (omega arith) (sym zero, rw zero (omega arith))

  -- which are offsets of children too
  pub later_offsets : Offsets (2 ^ (m - 1) - 1) (2 ^ m - 2)
  later_offsets = offsets_rest 0 w first_node_lowest first_node_offsets
