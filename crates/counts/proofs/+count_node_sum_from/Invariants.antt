-- The measure: 66 for each level below a node, and one more for each generator that is left.
use Rattle.std.proofs.Common.{◌+◌, ◌*◌, length}
use Rattle.semigroups.specs.Positions.{positions}
use Rattle.counts.proofs.+count_node_sum_from.Given as goal

abbrev pub decreases-count_node : goal.decreases-count_node
decreases-count_node l = 66 * l.tree.left

abbrev pub decreases-sum_from : goal.decreases-sum_from
decreases-sum_from l = 66 * l.left + length (positions l.row) + 1
