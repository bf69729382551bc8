-- The loop's invariant: the pair has the greatest common divisor of the arguments.
use mathlib.Core.Path.{◌≡◌}
use Rattle.sums.specs.Divisors.{gcd}
use Rattle.sums.proofs.gcd_of_two.Given as goal

abbrev pub invariant-loop-y : goal.invariant-loop-y
invariant-loop-y l = gcd l.x l.y ≡ gcd l.a l.b

abbrev pub decreases-loop-y : goal.decreases-loop-y
decreases-loop-y l = l.y
