-- The loop's invariant: the sums with the elements whose bits are not left are found.
use Rattle.generators.proofs.LowGenerators.{below_conductor, SumsFound}
use Rattle.generators.proofs.low_generators.Given as goal

abbrev pub invariant-loop-low : goal.invariant-loop-low
invariant-loop-low l = SumsFound (below_conductor l.word) l.elements l.sums l.low-iterator.0
