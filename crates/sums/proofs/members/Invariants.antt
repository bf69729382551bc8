-- The loop's invariant: the bits tell the members so far.
use mathlib.Core.Path.{◌≡◌}
use lib.ListN.{take}
use Rattle.semigroups.specs.Lists.{member_of}
use Rattle.semigroups.specs.Positions.{bits_from}
use Rattle.sums.proofs.members.Given as goal

abbrev pub invariant-loop-a : goal.invariant-loop-a
invariant-loop-a l = l.bits ≡ bits_from (member_of (take l.a-index l.list)) l.first
