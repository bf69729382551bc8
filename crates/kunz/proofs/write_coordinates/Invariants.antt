-- The loop's invariant: the first `k` coordinates are written. Assumes nothing.
use mathlib.Core.Path.{◌≡◌}
use lib.ListN.{take}
use Rattle.semigroups.specs.Lists.{fronted}
use Rattle.coordinates.specs.Coordinates.{kunz_coordinates}
use Rattle.kunz.proofs.write_coordinates.Given as goal

abbrev pub invariant-loop-k : goal.invariant-loop-k
invariant-loop-k l = l.entry-items ≡ fronted (take l.k (kunz_coordinates l.word)) l.initial.entry-items
