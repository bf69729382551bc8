-- The loop's invariant: the node is on the way to the word; the measure: how many gaps it has yet to go.
use Prim.Native.Nat.{◌-◌}
use Rattle.semigroups.specs.Words.{genus}
use Rattle.tables.proofs.Way.{OnTheWay}
use Rattle.tables.proofs.reached.Given as goal

abbrev pub invariant-loop-n : goal.invariant-loop-n
invariant-loop-n l = OnTheWay l.word l.n

abbrev pub decreases-loop-n : goal.decreases-loop-n
decreases-loop-n l = genus l.word - genus l.n.word
