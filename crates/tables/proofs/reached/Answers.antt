-- `tables::reached` meets its contract. Assumes nothing.
use Prim.Native.Nat.{◌-◌, ◌<◌}
use mathlib.Core.Path.{sym, ap, ◌∙◌, subst}
use native.Mathlib.Omega.{arith}
use Rattle.semigroups.specs.Words.{genus}
use Rattle.nodes.specs.Nodes.{node_of, child_node}
use Rattle.tables.proofs.Way.{OnTheWay, way_begins, way_goes_on}
use Rattle.tables.proofs.reached.Goals as goal
use Rattle.tables.proofs.reached.Goals.{After-child-n}

-- the child is on the way, with one gap less to go
goes_on : (c : After-child-n) → let u = c.args.word in
    OnTheWay u c.child-n.result × (genus u - genus c.child-n.result.word < genus u - genus c.loop-n.n.word)
goes_on c =
    let n = c.loop-n.n in
    way_goes_on c.args.word (omega arith) c.requires n c.child-n.result c.loop-n.invariant
    c.loop-n-test.true (c.child-n.ensures ∙ ap (child_node n) c.next_offset.ensures)

pub loop-n-init : goal.loop-n-init
loop-n-init c = subst (OnTheWay c.args.word) (sym c.root-n.ensures) (way_begins c.args.word)

pub loop-n-smaller : goal.loop-n-smaller
loop-n-smaller c = (goes_on (goal.at.loop-n-smaller c).After-child-n).1

pub loop-n-preserved : goal.loop-n-preserved
loop-n-preserved c = (goes_on (goal.at.loop-n-preserved c).After-child-n).0

pub returns : goal.returns
returns c = c.loop-n.invariant.node ∙ ap node_of c.loop-n-test.false
