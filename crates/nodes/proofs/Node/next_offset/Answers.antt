-- `nodes::Node::next_offset` meets its contract. Assumes nothing.
use Rattle.std.proofs.Common.{◌-◌, ◌/◌, ◌^◌, sym, arith, le-ltb}
use lib.Count.{trailing_le}
use Rattle.semigroups.proofs.Booleans.{not_both}
use Rattle.semigroups.proofs.Words.{element_past}
use Rattle.nodes.specs.Nodes.{next_offset}
use Rattle.nodes.proofs.Nodes.{none_next, shifted_none, shifted_some}
use Rattle.nodes.proofs.Node.next_offset.Goals as goal

pub returns-then-c-eq0 : goal.returns-then-c-eq0
unfolding next_offset
returns-then-c-eq0 c = sym (simp (le-ltb 0 c.args.self.conductor (omega arith)))

pub returns-then-c-gt64 : goal.returns-then-c-gt64
returns-then-c-gt64 c =
    let a = c.args in
    sym (none_next a.self.conductor a.word (λ x gap high. not_both (element_past a.word 64 x (omega arith) (omega arith)) gap))

pub returns-then-later-eq0 : goal.returns-then-later-eq0
returns-then-later-eq0 c =
    let a = c.args in
    sym (shifted_none a.self.conductor a.word (omega arith) (omega arith) c.if-later-eq0.true)

pub overflow_cast-result : goal.overflow_cast-result
overflow_cast-result c =
    let a = c.args in
    omega (arith, trailing_le 64 (a.word / 2 ^ (a.self.conductor - 1)))

pub returns : goal.returns
returns c =
    let a = c.args in
    sym (shifted_some a.self.conductor a.word (omega arith) (omega arith) c.if-later-eq0.false)
