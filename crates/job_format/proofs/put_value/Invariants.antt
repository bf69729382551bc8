-- The loop's invariant: the first `i` bytes are written. Assumes nothing.
use mathlib.Core.Path.{◌≡◌}
use lib.ListN.{take}
use Rattle.semigroups.specs.Lists.{fronted}
use Rattle.job_format.specs.Bytes.{bytes_of}
use Rattle.job_format.proofs.put_value.Given as goal

abbrev pub invariant-loop-i : goal.invariant-loop-i
invariant-loop-i l = l.place-items ≡ fronted (take l.i (bytes_of l.size l.value)) l.initial.place-items
