-- The loop's invariant: the gaps that leave at most `k` are in the word. Assumes nothing.
use Prim.Native.Nat.{◌≤◌}
use mathlib.Core.Path.{◌≡◌}
use lib.ListN.{length}
use Rattle.semigroups.specs.Positions.{bits_from}
use Rattle.kunz.proofs.ResidueBits.{gaps_leaving_to}
use Rattle.kunz.proofs.gap_word.Given as goal

abbrev pub invariant-loop-k : goal.invariant-loop-k
invariant-loop-k l = (l.k ≤ length l.list) × (l.word ≡ bits_from (gaps_leaving_to l.list l.k) 1)
