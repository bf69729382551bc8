-- The levels below a node are the measure. The loop's invariant: there is a level or more, and what is left to count makes, with what was counted,
-- all that there is to count.
use Rattle.std.proofs.Common.{◌-◌, ◌≤◌}
use Rattle.semigroups.specs.Tree.{leaves}
use Rattle.nodes.specs.Branches.{branches, Offsets}
use Rattle.census.specs.Private.{census_place}
use Rattle.census.proofs.Tallies.{Tallying}
use Rattle.census.proofs.+tally.Given as goal

abbrev pub decreases-tally : goal.decreases-tally
decreases-tally l = l.tree.left

abbrev pub invariant-loop-low : goal.invariant-loop-low
invariant-loop-low l =
    let w = l.tree.node.word in
    (1 ≤ l.tree.left)
    × Offsets w l.low-iterator.0
    × Tallying census_place (leaves l.tree.left w) (branches (l.tree.left - 1) w l.low-iterator.0) l.initial.out l.out
