-- The loop's invariant: `moved` is the word moved up by 1 to `done`, all anded.
use Rattle.std.proofs.Common.{◌≡◌, ◌-◌, ◌≤◌}
use Rattle.seeds.proofs.Raking.{anded}
use Rattle.nodes.proofs.rake.Given as goal

abbrev pub invariant-loop-done : goal.invariant-loop-done
invariant-loop-done l = (l.moved ≡ anded l.word l.done) × (1 ≤ l.done) × (l.done ≤ l.d)

abbrev pub decreases-loop-done : goal.decreases-loop-done
decreases-loop-done l = l.d - l.done
