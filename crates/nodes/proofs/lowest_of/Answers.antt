-- `nodes::lowest_of` meets its contract: the lowest standing bit is found by the clear bits below it, and cleared by the number before,
-- which has the others and not it. Assumes nothing.
use Rattle.std.proofs.Common.{◌<◌, sym, refl, arith}
use lib.Count.{trailing_le}
use Rattle.semigroups.proofs.StandingBits.{trailing_off}
use Rattle.nodes.proofs.Branches.{lowest_trailing, no_lowest}
use Rattle.nodes.proofs.lowest_of.Goals as goal

pub returns-then-bits-eq0 : goal.returns-then-bits-eq0
returns-then-bits-eq0 c = rw c.if-bits-eq0.true (sym no_lowest, omega arith)

pub overflow_cast-at : goal.overflow_cast-at
overflow_cast-at c = omega (arith, trailing_le 64 c.args.bits)

pub returns : goal.returns
returns c =
    let bits = c.args.bits in
    let fits = c.ranges.bits.fits in
    let some : 0 < bits = omega (arith, c.if-bits-eq0.false) in
    rw (lowest_trailing bits some fits) (refl, trailing_off 64 bits some fits)
