-- The loop's invariant: of the numbers up to `k`, the last 64 that are sums, and the gaps.
use Prim.Native.Nat.{◌≤◌}
use Rattle.sums.proofs.Scan.{Scanned}
use Rattle.sums.proofs.gaps_of_sums.Given as goal

abbrev pub invariant-loop-k : goal.invariant-loop-k
invariant-loop-k l =
    (l.k ≤ 127) × (l.count ≤ l.k) × Scanned l.list l.k l.seen l.word l.count
