-- `kunz::sum_to_33` meets its contract. Assumes nothing.
use mathlib.Core.Path.{ap}
use native.Mathlib.Omega.{arith}
use lib.ListN.{drop_of_length-le}
use Rattle.semigroups.specs.Lists.{sum_over}
use Rattle.semigroups.proofs.Lists.{sum_from}
use Rattle.kunz.proofs.sum_to_33.Goals as goal

pub returns-then-sum-eq33 : goal.returns-then-sum-eq33
returns-then-sum-eq33 c = omega (arith, sum_from (λ x. x) c.args.list.now c.loop-x.x-index (omega arith), c.add_to_33-sum.ensures)

pub loop-x-preserved : goal.loop-x-preserved
loop-x-preserved c = omega (arith, sum_from (λ x. x) c.args.list.now c.loop-x.x-index (omega arith), c.add_to_33-sum.ensures)

pub returns : goal.returns
unfolding sum_over
returns c =
    let l = c.args.list.now in
    omega (arith, ap (sum_over (λ x. x)) (drop_of_length-le l {i = c.loop-x.x-index} (omega arith)))
