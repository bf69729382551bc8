-- The right generators of a word, from the first row of its table, and their number. Assumes nothing.
use Rattle.std.proofs.Common.{◌≡◌, ℕ, ◌+◌, ◌-◌, ◌%◌, ◌^◌, ◌<◌, ◌≤◌, Bool, true, List, map, length, sym, ap, ◌∙◌, zero-add, arith}
use mathlib.Core.List.Memᴰ
use native.Mathlib.Nat.{le_dest}
use lib.ListN.{length-map}
use Rattle.semigroups.specs.Lists.{run, keep}
use Rattle.semigroups.specs.Words.{bit, conductor, genus, closed}
use Rattle.semigroups.specs.Positions.{positions}
use Rattle.semigroups.specs.Elements.{multiplicity, generator, right_generators}
use Rattle.semigroups.proofs.Lists.{map_run, ordered_map, ordered_unique}
use Rattle.semigroups.proofs.Kept.{keep_map}
use Rattle.semigroups.proofs.StandingBits.{positions_mem, mem_positions, positions_ordered}
use Rattle.semigroups.proofs.Elements.{genus_lt_conductor, multiplicity_le_conductor, generator_offset, right_generators_mem, mem_right_generators, right_generators_ordered}
use Rattle.semigroups.proofs.Closure.{conductor_le_64}
use Rattle.seeds.specs.Seeds.{seed, row, first_row_ones, seed_table}
use Rattle.seeds.proofs.Orders.{entry_tells, order_zero}
use Rattle.nodes.specs.Nodes.{node_of, first_row}
use Rattle.nodes.proofs.Rows.{first_jump, first_row_at, row_at_bit}

module _ (w : ℕ) (fits : w < 2 ^ 64) where
  -- the entries of row 0 tell which of the m numbers from the conductor on are generators
  row_generators : row w 0 ≡ map (generator w) (run (conductor w) (multiplicity w))
  unfolding row
  row_generators =
      map_run (seed w 0) (generator w) 0 (conductor w) _ (λ j l.
      ap (seed w 0) (zero-add j) ∙ entry_tells w fits 0 (omega (arith, genus_lt_conductor w fits)) j ∙ order_zero w fits (conductor w + j) (omega arith))
      ∙ ap (λ (n : ℕ). map (generator w) (run (conductor w) n)) (first_jump w fits)

  -- so that its 1s are as many as the generators not below the conductor
  pub first_row_ones_count : first_row_ones w ≡ length (right_generators w)
  unfolding first_row_ones right_generators
  first_row_ones_count =
      let from : List ℕ = run (conductor w) (multiplicity w) in
      ap (λ (l : List Bool). length (keep (λ b. b) l)) row_generators ∙ ap length (keep_map (λ b. b) (generator w) from) ∙ length-map (keep (generator w) from) (generator w)

  -- the first row as a number
  abbrev row_number : ℕ
  row_number = seed_table w % 2 ^ multiplicity w

  -- its bit d tells whether the conductor plus d is a generator
  pub row_bit : (d : ℕ) → bit (seed_table w % 2 ^ multiplicity w) d ≡ generator w (conductor w + d)
  unfolding node_of first_row
  row_bit d =
      let low : 0 < conductor w - genus w = omega (arith, genus_lt_conductor w fits) in
      ap (λ (t : ℕ). bit t d) (first_row_at (node_of w) fits) ∙ row_at_bit w fits 0 low d ∙ entry_tells w fits 0 low d ∙ order_zero w fits (conductor w + d) (omega arith)

  -- the offsets of the right generators from the conductor are the positions of the bits that stand in the first row
  pub right_generators_row : closed w ≡ true → genus w ≤ 32
      → right_generators w ≡ map (λ d. conductor w + d) (positions (seed_table w % 2 ^ multiplicity w))
  right_generators_row c h =
      ordered_unique ◌<◌ (λ x y p q. omega arith) (right_generators w) (map (λ d. conductor w + d) (positions row_number)) (right_generators_ordered w fits)
      (ordered_map ◌<◌ ◌<◌ (λ d. conductor w + d) (positions row_number) (positions_ordered row_number) (λ x y m n l. omega arith))
      (λ x m.
      let (high, g) = right_generators_mem w fits m in
      let (d, e) = le_dest high in
      let g' = ap (generator w) e ∙ g in
      let l = generator_offset w fits d g' in
      Memᴰ.cast (sym e) (Memᴰ.map (λ d. conductor w + d)
      (mem_positions row_number d (omega (arith, multiplicity_le_conductor w fits, conductor_le_64 w fits c h)) (row_bit d ∙ g'))))
      (λ x m.
      let (d, i, e) = Memᴰ.of_map (λ d. conductor w + d) (positions row_number) m in
      mem_right_generators w fits x (omega arith) (ap (generator w) (sym e) ∙ sym (row_bit d) ∙ (positions_mem row_number i).1))
