-- The loop's invariant: the sums with the elements below `a` are tried, and the gaps below the least one found are left.
use Prim.Native.Nat.{◌-◌}
use Rattle.semigroups.proofs.GapSums.{Tried}
use Rattle.words.proofs.possible_gaps.Given as goal

abbrev pub invariant-loop-a : goal.invariant-loop-a
invariant-loop-a l = Tried l.word l.a l.left

-- in the loop `a` is at most 32, and the next element at most 65 above it
abbrev pub decreases-loop-a : goal.decreases-loop-a
decreases-loop-a l = 97 - l.a
