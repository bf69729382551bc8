-- `descendants::put_grandchildren` meets its contract. Assumes nothing.
use native.Mathlib.Omega.{arith}
use Rattle.nodes.proofs.Levels.{conductor_within}
use Rattle.nodes.proofs.MovedRows.{node_two_rows}
use Rattle.descendants.proofs.put_grandchildren.Goals as goal

pub overflow_sub-up : goal.overflow_sub-up
overflow_sub-up c = (conductor_within 2 _ c.requires.node_with_levels).0

pub overflow_shl-first_row : goal.overflow_shl-first_row
overflow_shl-first_row c = omega (arith, conductor_within 2 _ c.requires.node_with_levels)

pub overflow_shl-second_row : goal.overflow_shl-second_row
overflow_shl-second_row c = omega (arith, conductor_within 2 _ c.requires.node_with_levels)

pub put_by_rows-requires : goal.put_by_rows-requires
put_by_rows-requires c = record {
  two_rows = node_two_rows _ c.multiplicity_of-m.ensures c.first_row.ensures c.second_row.ensures c.requires.node_with_levels c.requires.word_bound;
}
