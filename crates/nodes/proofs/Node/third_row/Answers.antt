-- `nodes::Node::third_row` meets its contract. Assumes nothing.
use Rattle.std.proofs.Common.{sym, arith}
use Rattle.nodes.proofs.Rows.{no_row}
use Rattle.nodes.proofs.Node.third_row.Goals as goal

pub returns-then-a-gt63 : goal.returns-then-a-gt63
returns-then-a-gt63 c = sym (no_row c.args.self (omega arith) 2 (omega (arith, c.second_element-a.ensures)))

pub returns : goal.returns
returns c = c.row_from.ensures 2 c.second_element-a.ensures
