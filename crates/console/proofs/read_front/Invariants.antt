-- `console::read_front` ends, as each turn reads a byte or more. The loop's invariant: what the reader gave is the front of the buffer.
use Rattle.std.proofs.Common.{length, ◌-◌}
use Rattle.console.specs.Console.{Fills}
use Rattle.console.proofs.read_front.Given as goal

abbrev pub invariant-loop-filled : goal.invariant-loop-filled
invariant-loop-filled g l = Fills (g.R.Read.remaining l.initial.reader) (g.R.Read.remaining l.reader) l.buffer l.filled

abbrev pub decreases-loop-filled : goal.decreases-loop-filled
decreases-loop-filled g l = length l.initial.buffer - l.filled
