-- The loop's invariant: those for the bits that are not left are written.
use Rattle.generators.proofs.Writing.{BitsWritten}
use Rattle.generators.proofs.write_bits.Given as goal

abbrev pub invariant-loop-low : goal.invariant-loop-low
invariant-loop-low l = BitsWritten l.bits l.first l.start l.initial.out l.out l.at l.low-iterator.0
