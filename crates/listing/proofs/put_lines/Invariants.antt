-- The loop's invariant: the lines of the words passed are written.
use Rattle.std.proofs.Common.{◌+◌, ◌*◌, ◌≤◌, take}
use Rattle.semigroups.specs.Lists.{joined}
use Rattle.listing.specs.Text.{line_of}
use Rattle.listing.specs.Writing.{Puts}
use Rattle.listing.proofs.put_lines.Given as goal

abbrev pub invariant-loop-word : goal.invariant-loop-word
invariant-loop-word l = (l.next ≤ l.at + l.word-index * 27) × Puts l.initial.out l.at (joined line_of (take l.word-index l.words)) l.out l.next
