-- The levels below a node are the measure. The loop's invariant: what is left to put makes, with what was put, all that there is to put.
use Rattle.std.proofs.Common.{◌+◌, ◌*◌}
use Rattle.nodes.specs.Nodes.{first_row}
use Rattle.nodes.specs.Branches.{branches}
use Rattle.nodes.specs.NewGaps.{Upper}
use Rattle.lending.proofs.Lending.{Putting}
use Rattle.descendants.proofs.+emit_emit_from.Given as goal

abbrev pub decreases-emit : goal.decreases-emit
decreases-emit l = 2 * l.tree.left

abbrev pub decreases-emit_from : goal.decreases-emit_from
decreases-emit_from l = 2 * l.left + 1

abbrev pub invariant-emit_from-loop-rest : goal.invariant-emit_from-loop-rest
invariant-emit_from-loop-rest l =
    Upper (first_row l.n) l.rest × Putting (branches l.left l.n.word) l.initial.rest l.initial.out l.initial.at l.rest l.out l.at

abbrev pub decreases-emit_from-loop-rest : goal.decreases-emit_from-loop-rest
decreases-emit_from-loop-rest l = l.rest
