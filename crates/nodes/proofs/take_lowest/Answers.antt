-- `nodes::take_lowest` meets its contract. Assumes nothing.
use Rattle.std.proofs.Common.{arith}
use Rattle.nodes.proofs.Branches.{taken_off}
use Rattle.nodes.proofs.take_lowest.Goals as goal

pub returns : goal.returns
returns c = taken_off _ (omega arith) c.ranges.bits.fits c.lowest_of.ensures
