-- `nodes::Node::first_row` meets its contract. Assumes nothing.
use Rattle.std.proofs.Common.{sym, ◌∙◌, arith}
use Rattle.semigroups.proofs.Elements.{element_zero}
use Rattle.nodes.proofs.Rows.{first_row_at}
use Rattle.nodes.proofs.Node.first_row.Goals as goal

pub returns : goal.returns
returns c = let n = c.args.self in c.row_from.ensures 0 (sym (element_zero n.word (omega arith))) ∙ sym (first_row_at n (omega arith))
