-- States that C callers hand over: one with an answer that no bytes without 0 are given is refused 14, and any other is taken as it is; so is
-- each that they were given, so that after every history they hold the state after it. Assumes nothing.
use Prim.Native.Nat.{ℕ}
use mathlib.Core.Path.{◌≡◌, refl, sym, ap, ◌∙◌}
use mathlib.Core.Logic.{⊎_elim}
use mathlib.Core.Bool.{Bool, true, false, cond, ◌&&◌, ◌||◌}
use mathlib.Core.List.{List, [], ◌∷◌}
use lib.Dec.{eqb}
use borrow.Author.Tests.{eqb-false}
use Rattle.semigroups.proofs.Booleans.{not_both, is_false, by_value}
use Rattle.answers.specs.Answers.{Answer, refused, given, ask}
use Rattle.sums.proofs.WordFrom.{refused_positive}
use Rattle.changes.specs.Changes.{Change, list_change, afterwards}
use Rattle.changes.specs.States.{State, held, RightState, is_right, state_of, outcome_of, change_of}
use Rattle.changes.specs.Histories.{state_from, state_after}
use Rattle.changes.proofs.Changes.{Holdable, none_holdable, after_holdable}
use Rattle.changes.proofs.States.{right_iff, state_right}
use Rattle.changes.proofs.Histories.{state_changed}
use Rattle.changes.proofs.StateChanges.{change_out_of_order}
use Rattle.interface.specs.declared.AtlasNumber.{AtlasNumber}
use Rattle.interface.specs.declared.AtlasEditor.{AtlasEditor}
use Rattle.interface.specs.declared.AtlasChanged.{AtlasChanged}
use Rattle.interface.specs.Interface.{number_in, editor_in, is_answer, answer_from, editor_from, unchanged_in, changed_in, change_in, editor_after}
use Rattle.interface.specs.HandedOver.{is_kept}

-- a state whose answer has another refusal than 8 and 9 is not right
other_refusal : (s : State) (n : ℕ) → s.answer ≡ refused n → (¬ (n ≡ 8)) → (¬ (n ≡ 9)) → is_right s ≡ false
other_refusal s n e not-8 not-9 =
    is_false (is_right s) (λ t. let h = (right_iff s).0 t in ⊎_elim not-8 not-9 (refused_positive (held s) n h.no_zero (sym h.kept ∙ e)))

-- an answer that bytes without 0 are given has no value beside a refusal
kept_is_answer : (n : AtlasNumber) → is_kept n ≡ true → is_answer n ≡ true
unfolding is_kept is_answer
kept_is_answer n h = by_tests (eqb n.refused 0) (eqb n.value 0) (eqb n.refused 8 || eqb n.refused 9) h
  where
    by_tests : (none clear known : Bool) → cond none true (clear && known) ≡ true → (none || clear) ≡ true
    by_tests true clear known h = refl
    by_tests false true known h = refl
    by_tests false false known h = h

-- one that is no such answer, but has no value beside a refusal, has another refusal than 8 and 9
other_answer : (n : AtlasNumber) → is_kept n ≡ false → is_answer n ≡ true → (answer_from n ≡ refused n.refused) × (¬ (n.refused ≡ 8)) × (¬ (n.refused ≡ 9))
unfolding is_kept is_answer answer_from
other_answer n h k =
    let (some, not-8, not-9) = by_tests (eqb n.refused 0) (eqb n.value 0) (eqb n.refused 8) (eqb n.refused 9) h k in
    (rw some, eqb-false n.refused 8 not-8, eqb-false n.refused 9 not-9)
  where
    by_tests : (none clear eight nine : Bool) → cond none true (clear && (eight || nine)) ≡ false → (none || clear) ≡ true
        → (none ≡ false) × (eight ≡ false) × (nine ≡ false)
    by_tests true clear eight nine h k = absurd (not_both refl h)
    by_tests false true true nine h k = absurd (not_both refl h)
    by_tests false true false nine h k = (refl, refl, h)
    by_tests false false eight nine h k = absurd (not_both k refl)

-- a change of a state that C callers hand over
module _ (c : Change) (e : AtlasEditor) where
  -- with no value beside a refusal
  answer_taken : is_answer e.answer ≡ true → change_in c e ≡ changed_in e (change_of c (editor_from e))
  unfolding change_in
  answer_taken h = rw h

  -- with an answer that bytes without 0 are given it is the change of that state
  pub change_kept : is_kept e.answer ≡ true → change_in c e ≡ changed_in e (change_of c (editor_from e))
  change_kept h = answer_taken (kept_is_answer e.answer h)

  -- with any other it is refused 14
  pub change_not_kept : is_kept e.answer ≡ false → change_in c e ≡ unchanged_in 14 e
  unfolding change_in
  change_not_kept h =
      by_value (is_answer e.answer)
      (λ k.
      let (same, not-8, not-9) = other_answer e.answer h k in
      answer_taken k ∙ ap (changed_in e) (change_out_of_order c (editor_from e) (other_refusal (editor_from e) e.answer.refused same not-8 not-9)))
      (λ k. rw k)

-- ---- states that were given

-- the answer of a right state is one that bytes without 0 are given, and is taken as it is
right_kept : (s : State) → RightState s → (is_kept (number_in s.answer) ≡ true) × (answer_from (number_in s.answer) ≡ s.answer)
unfolding is_kept answer_from
right_kept s h = by_answer s.answer refl
  where
    by_answer : (a : Answer ℕ) → s.answer ≡ a → (is_kept (number_in a) ≡ true) × (answer_from (number_in a) ≡ a)
    by_answer (given v) e = (refl, refl)
    by_answer (refused n) e = ⊎_elim (λ p. rw p (refl, refl)) (λ p. rw p (refl, refl)) (refused_positive (held s) n h.no_zero (sym h.kept ∙ e))

-- a right state that is handed back changes as it does
pub given_back : (c : Change) (s : State) → RightState s → change_in c (editor_in s) ≡ changed_in (editor_in s) (change_of c s)
given_back c s h =
    let (kept, same) = right_kept s h in
    change_kept c (editor_in s) kept
    ∙ ap (λ (a : Answer ℕ). changed_in (editor_in s) (change_of c record { bytes = s.bytes; length = s.length; answer = a })) same

-- what comes back is the state afterwards
state_given : (c : Change) (s : State) → (changed_in (editor_in s) (change_of c s)).editor ≡ editor_in (change_of c s).state
unfolding change_of
state_given c s = by_answer (ask (is_right s) (refused 14) (list_change c (held s)))
  where
    by_answer : (a : Answer (List ℕ)) → (changed_in (editor_in s) (outcome_of s a)).editor ≡ editor_in (outcome_of s a).state
    by_answer (refused n) = refl
    by_answer (given k) = refl

-- from a list that may be held on
after_from : (l : List ℕ) (h : List Change) → Holdable l → editor_after (editor_in (state_of l)) h ≡ editor_in (state_from (state_of l) h)
unfolding editor_after state_from
after_from l [] ok = refl
after_from l (c ∷ h) ok =
    let next = state_changed c l ok in
    let back = ap (λ (r : AtlasChanged). r.editor) (given_back c (state_of l) (state_right l ok)) ∙ state_given c (state_of l) ∙ ap editor_in next in
    ap (λ (e : AtlasEditor). editor_after e h) back ∙ after_from (afterwards l (list_change c l)) h (after_holdable c l ok)
    ∙ ap (λ (s : State). editor_in (state_from s h)) (sym next)

-- after every history of calls from the empty start, C callers hold the state after that history
pub editor_afterwards : (h : List Change) → editor_after (editor_in (state_of [])) h ≡ editor_in (state_after h)
editor_afterwards h = after_from [] h none_holdable
