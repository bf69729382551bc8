-- `nodes::Node::row_from` meets its contract. Assumes nothing.
use Rattle.std.proofs.Common.{arith}
use Rattle.nodes.proofs.Rows.{row_computed}
use Rattle.nodes.proofs.Node.row_from.Goals as goal

pub returns : goal.returns
returns c i start =
    rw c.wrapping_add_u64.ensures.value
    (row_computed c.args.self (omega arith) (omega arith) i start)
