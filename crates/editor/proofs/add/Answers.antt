-- `editor::add` meets its contract: the questions one after the other, and the byte stored behind those that are held. Assumes nothing.
use Prim.Native.Nat.{ℕ}
use mathlib.Core.Path.{◌≡◌, sym, ap, ◌∙◌}
use native.Mathlib.Omega.{arith}
use lib.ListN.{length}
use borrow.Author.Rules.{rules}
use Rattle.answers.specs.Answers.{given}
use Rattle.changes.specs.Changes.{addition}
use Rattle.changes.specs.States.{State, held, RightState, outcome_of}
use Rattle.changes.proofs.Changes.{list_addition_7, list_addition_15}
use Rattle.changes.proofs.States.{right_iff}
use Rattle.changes.proofs.StateChanges.{change_out_of_order, change_in_order, changing}
use Rattle.editor.specs.Answers.{said}
use Rattle.editor.proofs.StoredStates.{held_length, stored_behind}
use Rattle.editor.proofs.add.Goals as goal

pub returns-then-not-is_right : goal.returns-then-not-is_right
returns-then-not-is_right c =
    let s : State = said c.args.editor.now in
    sym (change_out_of_order (addition c.args.byte) s (sym c.is_right.ensures ∙ c.if-not-is_right.true))

pub returns-then-byte-eq0 : goal.returns-then-byte-eq0
returns-then-byte-eq0 c =
    let s : State = said c.args.editor.now in
    let in_order : RightState s = (right_iff _).0 (sym c.is_right.ensures ∙ c.if-not-is_right.false) in
    sym (change_in_order (addition c.args.byte) s in_order ∙ ap (outcome_of s) ((list_addition_7 c.args.byte (held s)).1 c.if-byte-eq0.true))

pub returns-then-length-gt15 : goal.returns-then-length-gt15
returns-then-length-gt15 c =
    let s : State = said c.args.editor.now in
    let a : ℕ = c.args.byte in
    let in_order : RightState s = (right_iff _).0 (sym c.is_right.ensures ∙ c.if-not-is_right.false) in
    let sixteen : length c.args.editor.now.bytes ≡ 16 = search rules in
    let length-is = held_length s sixteen in_order in
    sym (change_in_order (addition a) s in_order
    ∙ ap (outcome_of s) ((list_addition_15 a (held s)).1 (omega (arith, c.if-byte-eq0.false, c.if-length-gt15.true, length-is))))

pub returns : goal.returns
returns c =
    let s : State = said c.args.editor.now in
    let a : ℕ = c.args.byte in
    let in_order : RightState s = (right_iff _).0 (sym c.is_right.ensures ∙ c.if-not-is_right.false) in
    let sixteen : length c.args.editor.now.bytes ≡ 16 = search rules in
    let stored = c.with_answer.ensures ∙ stored_behind s sixteen in_order a (omega arith) in
    ap (λ (t : State). record { state = t; answer = given tt }) stored
    ∙ sym (changing.addition_made s a in_order (omega arith) (omega (arith, held_length s sixteen in_order)))
