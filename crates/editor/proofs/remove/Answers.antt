-- `editor::remove` meets its contract: the questions one after the other, and the list without the first equal byte stored. Assumes nothing.
use Prim.Native.Nat.{ℕ, ◌-◌, ◌<◌}
use mathlib.Core.Path.{◌≡◌, refl, sym, ap, ◌∙◌}
use mathlib.Core.List.{List}
use native.Mathlib.Omega.{arith}
use lib.Dec.{eqb}
use lib.ListN.{length, length-take}
use borrow.Author.Rules.{rules}
use Rattle.std.proofs.Common.{tests, Option, Err}
use Rattle.std.specs.Option.{ok_or}
use Rattle.std.proofs.lemmas.Iterator.{YieldsList-from_slice}
use Rattle.std.proofs.lemmas.Iterator.Search.{position_from_yields_List}
use Rattle.std.proofs.lemmas.Result.{err_from_is_err_and}
use Rattle.answers.specs.Answers.{given}
use Rattle.answers.specs.declared.Refusal.TheVariants.{ByteNotHeld}
use Rattle.changes.specs.Changes.{removal, without_first}
use Rattle.changes.specs.States.{State, held, RightState, in_sixteen, outcome_of}
use Rattle.changes.proofs.Changes.{list_removal, list_removal_16}
use Rattle.changes.proofs.States.{right_iff}
use Rattle.changes.proofs.StateChanges.{change_out_of_order, change_in_order}
use Rattle.editor.specs.Answers.{said}
use Rattle.editor.specs.Private.{first_place, without_place, with_answer}
use Rattle.editor.proofs.Places.{first_place_iff, search_found, search_none}
use Rattle.editor.proofs.StoredStates.{held_length, stored_without}
use Rattle.editor.proofs.remove.Goals as goal
use Rattle.editor.proofs.remove.Goals.{Else-not-is_right, In_ok-place}

-- the state is right
in_order : (c : Else-not-is_right) → RightState (said c.args.editor.now)
in_order c = (right_iff _).0 (sym c.is_right.ensures ∙ c.if-not-is_right.false)

-- the place is that of the first equal byte that is held
at_place : (c : In_ok-place) → (c.in_ok-place.place ≡ first_place c.args.byte (held (said c.args.editor.now))) × (c.in_ok-place.place < length (held (said c.args.editor.now)))
unfolding held
at_place c =
    let l : List ℕ = held (said c.args.editor.now) in
    search_found c.args.byte l _
    (position_from_yields_List (λ x. eqb x c.args.byte) _ _ c.position.result c.position.ensures.ran (YieldsList-from_slice l cc) (λ x b q k. search (rules, tests)))
    _ c.in_ok-place.ensures.ok_part

pub returns-then-not-is_right : goal.returns-then-not-is_right
returns-then-not-is_right c =
    let s : State = said c.args.editor.now in
    sym (change_out_of_order (removal c.args.byte) s (sym c.is_right.ensures ∙ c.if-not-is_right.true))

pub slice_bounds-bytes-end : goal.slice_bounds-bytes-end
slice_bounds-bytes-end c =
    let sixteen : length c.args.editor.now.bytes ≡ 16 = search rules in
    omega (arith, (in_order (goal.at.slice_bounds-bytes-end c).Else-not-is_right).short)

pub slice_bounds-iter-end : goal.slice_bounds-iter-end
slice_bounds-iter-end c =
    let sixteen : length c.args.editor.now.bytes ≡ 16 = search rules in
    omega (arith, length-take c.args.editor.now.length c.args.editor.now.bytes, (in_order (goal.at.slice_bounds-iter-end c).Else-not-is_right).short)

pub returns-in_err-place : goal.returns-in_err-place
unfolding held
returns-in_err-place c =
    let s : State = said c.args.editor.now in
    let a : ℕ = c.args.byte in
    let right = in_order (goal.at.returns-in_err-place c).Else-not-is_right in
    let none =
    search_none a (held s) _
    (position_from_yields_List (λ x. eqb x a) _ _ c.position.result c.position.ensures.ran (YieldsList-from_slice (held s) cc) (λ x b q k. search (rules, tests)))
    c.in_err-place.ensures.ok_part in
    let error : Err c.in_err-place.field-0.0 ≡ Err ByteNotHeld =
    c.in_err-place.ensures.value ∙ ap (λ (o : Option ℕ). ok_or o ByteNotHeld) c.in_err-place.ensures.ok_part in
    let same : c.in_err-place.field-0.0 ≡ ByteNotHeld = cc in
    let p = err_from_is_err_and c.from_residual.result c.from_residual.ensures.1 in
    rw (p.1, p.2, same) (sym (change_in_order (removal a) s right ∙ ap (outcome_of s) ((list_removal_16 a (held s)).1 none)))

pub without_place-requires : goal.without_place-requires
unfolding held
without_place-requires c = (
  omega (arith, (at_place (goal.at.without_place-requires c).In_ok-place).1, length-take c.args.editor.now.length c.args.editor.now.bytes),
  (in_order (goal.at.without_place-requires c).Else-not-is_right).short,
)

pub with_answer-requires : goal.with_answer-requires
with_answer-requires c = omega (arith, (in_order (goal.at.with_answer-requires c).Else-not-is_right).short)

pub returns : goal.returns
unfolding held
returns c =
    let s : State = said c.args.editor.now in
    let a : ℕ = c.args.byte in
    let right = in_order (goal.at.returns c).Else-not-is_right in
    let sixteen : length c.args.editor.now.bytes ≡ 16 = search rules in
    let all : s.length ≡ length (held s) = held_length s sixteen right in
    let (place, there) = at_place (goal.at.returns c).In_ok-place in
    let here : first_place a (held s) < s.length = omega (arith, place) in
    let left = c.without_place.ensures ∙ ap (λ (p : ℕ). in_sixteen (without_place p (held s))) place in
    let stored = c.with_answer.ensures ∙ ap (λ (b : List ℕ). with_answer b (s.length - 1)) left ∙ stored_without s sixteen right a here in
    let asked = (list_removal a (held s) (without_first a (held s))).1 ((first_place_iff a (held s)).1 (omega arith), refl) in
    ap (λ (t : State). record { state = t; answer = given tt }) stored
    ∙ sym (change_in_order (removal a) s right ∙ ap (outcome_of s) asked)
