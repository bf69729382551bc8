-- `nodes::Node::generators` meets its contract. Assumes nothing.
use Rattle.std.proofs.Common.{ap}
use lib.Count.{ones}
use Rattle.nodes.proofs.Node.generators.Goals as goal

pub returns : goal.returns
returns c = ap ones c.first_row-row.ensures
