-- The loop's invariant: with the entries from `x` on, the sum so far, at most 32, makes the whole. Assumes nothing.
use Prim.Native.Nat.{◌+◌, ◌≤◌}
use mathlib.Core.Path.{◌≡◌}
use lib.ListN.{drop}
use Rattle.semigroups.specs.Lists.{sum_over}
use Rattle.kunz.proofs.sum_to_33.Given as goal

abbrev pub invariant-loop-x : goal.invariant-loop-x
invariant-loop-x l = (l.sum ≤ 32) × (l.sum + sum_over (λ x. x) (drop l.x-index l.list) ≡ sum_over (λ x. x) l.list)
