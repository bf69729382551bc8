-- `nodes::Node::child` meets its contract. Assumes nothing.
use Rattle.std.proofs.Common.{sym, arith}
use Rattle.nodes.proofs.Nodes.{child_root, child_low, child_far, child_computed}
use Rattle.nodes.proofs.Node.child.Goals as goal

pub returns-then-w-eq0 : goal.returns-then-w-eq0
returns-then-w-eq0 c = sym (child_root _ _ c.if-w-eq0.true)

pub returns-then-c-lt2 : goal.returns-then-c-lt2
returns-then-c-lt2 c = sym (child_low _ _ c.if-w-eq0.false c.if-c-lt2.true)

pub returns-then-e-gt63 : goal.returns-then-e-gt63
returns-then-e-gt63 c =
    sym (child_far _ _ c.if-w-eq0.false c.if-c-lt2.false (omega (arith, c.at_offset-e.ensures)))

pub returns : goal.returns
returns c =
    child_computed c.args.self c.args.d.0 _ _ c.if-w-eq0.false c.if-c-lt2.false
    (omega (arith, c.at_offset-e.ensures)) c.if-e-gt63.false c.rake-s.ensures
