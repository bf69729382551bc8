use Rattle.lending.specs.Lending.{with_each}
use Rattle.lending.proofs.Lending.{Putting}
use Rattle.lending.proofs.put_bits.Given as goal

abbrev pub invariant-loop-low : goal.invariant-loop-low
invariant-loop-low l = Putting (with_each l.word) l.bits l.initial.out l.initial.at l.low-iterator.0 l.out l.at
