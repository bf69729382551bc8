-- The levels below a node are the measure. The loop's invariant: what is left of the row has the first word that the whole row has.
use Prim.Native.Nat.{◌+◌, ◌-◌, ◌*◌}
use mathlib.Core.Path.{◌≡◌}
use mathlib.Core.List.{head?}
use Rattle.nodes.specs.Branches.{branches, Offsets}
use Rattle.search.specs.Private.{with_largest_gap}
use Rattle.search.proofs.+first_among_first_below.Given as goal

abbrev pub decreases-first_among : goal.decreases-first_among
decreases-first_among l = 3 * l.tree.left + 1

abbrev pub decreases-first_by_child : goal.decreases-first_by_child
decreases-first_by_child l = 3 * l.tree.left

abbrev pub decreases-first_below : goal.decreases-first_below
decreases-first_below l = 3 * l.tree.left + 2

abbrev pub invariant-first_by_child-loop-low : goal.invariant-first_by_child-loop-low
invariant-first_by_child-loop-low l =
    let w = l.tree.node.word in
    Offsets w l.low-iterator.0
    × (head? (with_largest_gap l.gap (branches (l.tree.left - 1) w l.low-iterator.0)) ≡ head? (with_largest_gap l.gap (branches (l.tree.left - 1) w l.rest)))
