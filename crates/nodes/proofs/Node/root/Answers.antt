-- `nodes::Node::root` meets its contract. Assumes nothing.
use Rattle.std.proofs.Common.{sym}
use Rattle.nodes.proofs.Nodes.{first_nodes}
use Rattle.nodes.proofs.Node.root.Goals as goal

pub returns : goal.returns
returns c = sym first_nodes.0
