-- `tables::removed` meets its contract: a bit of the first row tells whether the element is a generator. Assumes nothing.
use Prim.Native.Nat.{ℕ}
use mathlib.Core.Path.{◌≡◌, sym, ap, ◌∙◌}
use mathlib.Core.Bool.{Bool, true, false}
use native.Mathlib.Omega.{arith}
use native.Mathlib.Nat.{lt_of_le_of_lt, mod-le}
use borrow.Author.Tests.{eq-eqb, ne_eqb}
use Rattle.semigroups.specs.Words.{bit}
use Rattle.semigroups.proofs.Bits.{bit_past, bit_test}
use Rattle.answers.specs.Answers.{given}
use Rattle.nodes.specs.Nodes.{first_row}
use Rattle.nodes.specs.declared.Node.{Node}
use Rattle.tables.proofs.Answers.{positive_conductor, refused_below, refused_there, given_there}
use Rattle.tables.proofs.removed.Goals as goal
use Rattle.tables.proofs.removed.Goals.{After-first_row}

-- the code's test is the bit of the first row
tested : (c : After-first_row) (b : Bool) → let d = c.of_element-d.result.0 in
    bit c.first_row.result d ≡ b → bit (first_row c.args.n) d ≡ b
tested c b e = ap (λ (r : ℕ). bit r c.of_element-d.result.0) (sym c.first_row.ensures) ∙ e

pub returns-then-element-c : goal.returns-then-element-c
returns-then-element-c c =
    sym (refused_below _ _ c.requires (omega (arith, positive_conductor c.args.n c.args.element.0 c.requires)))

pub returns-then-d-gt63 : goal.returns-then-d-gt63
unfolding first_row
returns-then-d-gt63 c =
    let n = c.args.n in
    sym (refused_there n _ c.requires c.of_element-d.result.0 c.of_element-d.ensures
    (bit_past (first_row n) 64 c.of_element-d.result.0 (lt_of_le_of_lt (mod-le n.table _) (omega arith)) c.if-d-gt63.true))

pub returns-then-first_row-d-ne1 : goal.returns-then-first_row-d-ne1
returns-then-first_row-d-ne1 c =
    let row = (goal.at.returns-then-first_row-d-ne1 c).After-first_row in
    let d = c.of_element-d.result.0 in
    sym (refused_there _ _ c.requires d c.of_element-d.ensures
    (tested row false (sym (bit_test row.first_row.result d) ∙ ne_eqb _ 1 c.if-first_row-d-ne1.true)))

pub returns : goal.returns
returns c =
    let row = (goal.at.returns c).After-first_row in
    let d = c.of_element-d.result.0 in
    ap (λ (k : Node). given k.word) c.child-next.ensures
    ∙ sym (given_there _ _ c.requires d c.of_element-d.ensures
    (omega arith) (tested row true (sym (bit_test row.first_row.result d) ∙ eq-eqb _ 1 c.if-first_row-d-ne1.false)))
