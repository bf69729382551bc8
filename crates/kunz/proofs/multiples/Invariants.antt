-- The loop's invariant: the multiples below `at` are found. Assumes nothing.
use Prim.Native.Nat.{◌-◌}
use Rattle.kunz.proofs.MultiplesFound.{MultiplesFound}
use Rattle.kunz.proofs.multiples.Given as goal

abbrev pub invariant-loop-at : goal.invariant-loop-at
invariant-loop-at l = MultiplesFound l.m l.bits l.at

abbrev pub decreases-loop-at : goal.decreases-loop-at
decreases-loop-at l = 64 - l.at
