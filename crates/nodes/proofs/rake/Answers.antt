-- `nodes::rake` meets its contract. Assumes nothing.
use Rattle.std.proofs.Common.{◌-◌, ◌^◌, refl, le_refl, arith}
use Rattle.seeds.specs.Child.{raked}
use Rattle.seeds.proofs.Raking.{anded_first, raked_anded, raked_twice}
use Rattle.nodes.proofs.rake.Goals as goal

pub returns-then-d-eq0 : goal.returns-then-d-eq0
unfolding raked
returns-then-d-eq0 c = rw c.if-d-eq0.true

pub loop-done-init : goal.loop-done-init
loop-done-init c = (anded_first _, omega arith, omega arith)

pub loop-done-preserved : goal.loop-done-preserved
loop-done-preserved c =
    let (e, some, low) = c.loop-done.invariant in
    (rw e (raked_twice _ (2 ^ 64 - 1) (omega arith) _ _ _ some (le_refl _) refl), omega arith, omega arith)

pub returns : goal.returns
returns c =
    let (e, some, low) = c.loop-done.invariant in
    let fits = c.ranges.table.fits in
    rw (e, raked_anded _ _ fits) (raked_twice _ _ fits _ _ _ some (omega arith) (omega arith))
