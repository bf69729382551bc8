-- The loop's invariant: the places before p are summed.
use Rattle.std.proofs.Common.{◌≡◌, ◌*◌, ◌%◌, get_or}
use Rattle.semigroups.specs.Lists.{run, sum_over}
use Rattle.census.proofs.sum_of_conductors.Given as goal

abbrev pub invariant-loop-p : goal.invariant-loop-p
invariant-loop-p l = l.sum ≡ sum_over (λ p. p % 65 * get_or l.out p 0) (run 0 l.p)
