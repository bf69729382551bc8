-- The loop's invariant: the first `i` bytes of the shorter list are written. Assumes nothing.
use mathlib.Core.Path.{◌≡◌}
use lib.ListN.{take}
use Rattle.semigroups.specs.Lists.{fronted}
use Rattle.editor.specs.Private.{without_place}
use Rattle.editor.proofs.without_place.Given as goal

abbrev pub invariant-loop-i : goal.invariant-loop-i
invariant-loop-i l = l.moved-items ≡ fronted (take l.i (without_place l.place (take l.length l.bytes))) l.initial.moved-items
