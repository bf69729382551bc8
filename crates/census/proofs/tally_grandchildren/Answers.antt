-- `census::tally_grandchildren` meets its contract: the rows of the node, moved up, are those that tell the words. Assumes nothing.
use Rattle.std.proofs.Common.{refl, arith}
use Rattle.nodes.proofs.Levels.{conductor_within}
use Rattle.nodes.proofs.MovedRows.{node_two_rows}
use Rattle.census.proofs.tally_grandchildren.Goals as goal

pub overflow_sub-up : goal.overflow_sub-up
overflow_sub-up c = (conductor_within _ _ c.args.tree.levels).0

pub overflow_shl-first_row : goal.overflow_shl-first_row
overflow_shl-first_row c = omega (arith, conductor_within _ _ c.args.tree.levels)

pub overflow_shl-second_row : goal.overflow_shl-second_row
overflow_shl-second_row c = omega (arith, conductor_within _ _ c.args.tree.levels)

pub tally_by_rows-requires-clause-two_rows : goal.tally_by_rows-requires-clause-two_rows
tally_by_rows-requires-clause-two_rows c =
    node_two_rows _ refl c.first_row.ensures c.second_row.ensures (rw c.requires.left at c.args.tree.levels) c.requires.word_bound
