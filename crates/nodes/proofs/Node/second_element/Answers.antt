-- `nodes::Node::second_element` meets its contract. Assumes nothing.
use Rattle.std.proofs.Common.{lt_of_le_of_lt, arith}
use lib.Pow.{shr_le}
use Rattle.semigroups.proofs.Operations.{multiplicity_le}
use Rattle.nodes.proofs.Rows.{second_element_is, second_element_far}
use Rattle.nodes.proofs.Node.second_element.Goals as goal

pub overflow_add-result : goal.overflow_add-result
overflow_add-result c = omega (arith, c.multiplicity_of-m.ensures, multiplicity_le c.args.self.word (omega arith))

pub returns-then-m-gt63 : goal.returns-then-m-gt63
returns-then-m-gt63 c = second_element_far c.args.self.word (omega arith) c.multiplicity_of-m.ensures c.if-m-gt63.true

pub overflow_add-result-2 : goal.overflow_add-result-2
overflow_add-result-2 c =
    let word = c.args.self.word in
    omega (arith, c.multiplicity_of-m.ensures, multiplicity_le word (omega arith), c.multiplicity_of.ensures, multiplicity_le _ (lt_of_le_of_lt (shr_le word c.multiplicity_of-m.result) (omega arith)))

pub returns : goal.returns
returns c =
    omega (arith, c.multiplicity_of.ensures, second_element_is c.args.self.word (omega arith) c.multiplicity_of-m.ensures)
