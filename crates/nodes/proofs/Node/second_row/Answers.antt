-- `nodes::Node::second_row` meets its contract. Assumes nothing.
use Rattle.std.proofs.Common.{sym, ◌∙◌, arith}
use Rattle.semigroups.proofs.Elements.{multiplicity_element}
use Rattle.nodes.proofs.Rows.{second_row_at, no_row}
use Rattle.nodes.proofs.Node.second_row.Goals as goal

pub returns-then-m-gt63 : goal.returns-then-m-gt63
returns-then-m-gt63 c =
    let n = c.args.self in
    sym (second_row_at n (omega arith) ∙ no_row n (omega arith) 1 (omega (arith, c.multiplicity_of-m.ensures, multiplicity_element n.word (omega arith))))

pub returns : goal.returns
returns c =
    let n = c.args.self in
    c.row_from.ensures 1 (c.multiplicity_of-m.ensures ∙ multiplicity_element n.word (omega arith)) ∙ sym (second_row_at n (omega arith))
