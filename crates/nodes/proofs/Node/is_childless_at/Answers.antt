-- `nodes::Node::is_childless_at` meets its contract, by the cases of the definition. Assumes nothing.
use Rattle.std.proofs.Common.{◌≡◌, ℕ, not, sym, ap, ◌∙◌, arith}
use Rattle.semigroups.specs.Words.{bit}
use Rattle.semigroups.proofs.Bits.{bit_past, bit_test}
use Rattle.nodes.specs.Nodes.{second_row, childless_at}
use Rattle.nodes.proofs.Rows.{second_row_fits}
use Rattle.nodes.proofs.Childless.{childless_later, childless_low, childless_high}
use Rattle.nodes.proofs.Node.is_childless_at.Goals as goal
use Rattle.nodes.proofs.Node.is_childless_at.Goals.{Else-self-multiplicity_of}

-- the other cases: the last offset, with k of at least 2
high : (c : Else-self-multiplicity_of) → not (bit (second_row c.args.self) c.args.low.at.0) ≡ childless_at c.args.self c.args.low.at.0 c.args.low.rest
high c =
    childless_high _ _ _ (omega (arith, c.if-low-ne0.false)) (omega (arith, c.if-self-multiplicity_of.false, c.multiplicity_of.ensures))

pub returns-then-low-ne0 : goal.returns-then-low-ne0
returns-then-low-ne0 c = childless_later _ _ _ (λ e. omega (arith, c.if-low-ne0.true))

-- where k is below 2 the rows tell nothing
pub returns-then-self-multiplicity_of : goal.returns-then-self-multiplicity_of
returns-then-self-multiplicity_of c =
    childless_low _ _ _ (omega (arith, c.if-low-ne0.false)) (omega (arith, c.if-self-multiplicity_of.true, c.multiplicity_of.ensures))

pub returns-then-at-gt63 : goal.returns-then-at-gt63
unfolding second_row
returns-then-at-gt63 c =
    let n = c.args.self in
    ap not (sym (bit_past (second_row n) 64 _ (second_row_fits n (omega arith)) c.if-at-gt63.true)) ∙ high (goal.at.returns-then-at-gt63 c).Else-self-multiplicity_of

pub returns : goal.returns
returns c =
    let d = c.args.low.at.0 in
    ap not (bit_test c.second_row.result d ∙ ap (λ (r : ℕ). bit r d) c.second_row.ensures) ∙ high (goal.at.returns c).Else-self-multiplicity_of
