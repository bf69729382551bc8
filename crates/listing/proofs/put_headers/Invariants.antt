-- The loop's invariant: the headers of the genera passed are written.
use Rattle.std.proofs.Common.{◌*◌, ◌≤◌}
use Rattle.semigroups.specs.Lists.{run, joined}
use Rattle.listing.specs.Text.{header_of}
use Rattle.listing.specs.Writing.{Puts}
use Rattle.listing.proofs.put_headers.Given as goal

abbrev pub invariant-loop-genus : goal.invariant-loop-genus
invariant-loop-genus l = (l.next ≤ l.genus * 36) × Puts l.initial.out 0 (joined header_of (run 0 l.genus)) l.out l.next
