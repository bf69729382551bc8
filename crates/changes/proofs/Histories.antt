-- Histories from the empty start: after each of them the state is right, holds what the history leaves and keeps its answer; and which
-- changes are refused. Assumes nothing.
use Prim.Native.Nat.{ℕ, ◌<◌}
use mathlib.Core.Path.{◌≡◌, refl, sym, ap, ◌∙◌, subst}
use mathlib.Core.Logic.{◌↔◌}
use mathlib.Core.List.{List, [], ◌∷◌, Memᴰ}
use native.Mathlib.Omega.{arith}
use lib.ListN.{length}
use Rattle.answers.specs.Answers.{Answer, refused, given}
use Rattle.sums.specs.WordFrom.{word_from_of}
use Rattle.sums.proofs.WordFrom.{refused_positive}
use Rattle.changes.specs.Changes.{Change, addition, removal, list_change, afterwards, left_of, left_by}
use Rattle.changes.specs.States.{State, held, RightState, state_of, Outcome, outcome_of, change_of}
use Rattle.changes.specs.Histories.{state_from, state_after, answer_after, Histories}
use Rattle.changes.proofs.Changes.{Holdable, none_holdable, after_holdable, left_holdable, left_applied, none_refused, additions_left, list_addition, list_removal}
use Rattle.changes.proofs.States.{held_state, state_right}
use Rattle.changes.proofs.StateChanges.{change_state, right_made, changing}

-- the state that holds l, after a change, holds what there is of l then
pub state_changed : (c : Change) (l : List ℕ) → Holdable l → (change_of c (state_of l)).state ≡ state_of (afterwards l (list_change c l))
unfolding afterwards
state_changed c l ok = ap (λ (o : Outcome). o.state) (change_state c l ok) ∙ by_answer (list_change c l)
  where
    by_answer : (a : Answer (List ℕ)) → (outcome_of (state_of l) a).state ≡ state_of (afterwards l a)
    by_answer (refused n) = refl
    by_answer (given k) = refl

-- and after a history what the history leaves of l
pub state_from_state : (l : List ℕ) (h : List Change) → Holdable l → state_from (state_of l) h ≡ state_of (left_of l h)
unfolding state_from left_of
state_from_state l [] ok = refl
state_from_state l (c ∷ h) ok =
    ap (λ (s : State). state_from s h) (state_changed c l ok) ∙ state_from_state (afterwards l (list_change c l)) h (after_holdable c l ok)

-- after a history from the empty start
module _ (h : List Change) where
  -- the list that is left may be held
  left_ok : Holdable (left_by h)
  left_ok = left_holdable [] h none_holdable

  -- the state is the one that holds it
  pub state_afterwards : state_after h ≡ state_of (left_by h)
  state_afterwards = state_from_state [] h none_holdable

  -- and right
  right_state_after : RightState (state_after h)
  right_state_after = subst RightState (sym state_afterwards) (state_right (left_by h) left_ok)

  -- it holds that list
  held_after : held (state_after h) ≡ left_by h
  held_after = ap held state_afterwards ∙ held_state (left_by h)

  -- and keeps its answer
  answer_afterwards : (state_after h).answer ≡ word_from_of (left_by h)
  answer_afterwards = right_state_after.kept ∙ ap word_from_of held_after

-- the sentences of the request, for every history
pub histories : Histories
histories = record {
  right_after = right_state_after;
  holds = held_after;
  left_out = left_applied [];
  left_out_made = none_refused [];
  at_most_sixteen = λ h. (left_ok h).short;
  arrivals = λ A fresh. additions_left [] A (omega arith) fresh;
  kept_answer = answer_afterwards;
  word_or_refused = λ h n e. refused_positive (left_by h) n (left_ok h).no_zero (sym (answer_afterwards h) ∙ e);
  zero_refused = λ h a. changing.addition_of_zero (state_after h) a (right_state_after h);
  full_refused = λ h a.
      subst (λ (l : List ℕ). (answer_after h (addition a) ≡ refused 15) ↔ ((0 < a) × (length l ≡ 16))) (held_after h)
      (changing.addition_when_full (state_after h) a (right_state_after h));
  else_added = λ h a.
      let (to, from) = right_made (addition a) (state_after h) (right_state_after h) in
      subst (λ (l : List ℕ). (answer_after h (addition a) ≡ given tt) ↔ ((0 < a) × (length l < 16))) (held_after h) (
        λ e. let (k, made) = to e in let (positive, room, same) = (list_addition a (held (state_after h)) k).0 made in (positive, room),
        λ (positive, room). from (_, (list_addition a (held (state_after h)) _).1 (positive, room, refl)),
      );
  absent_refused = λ h a.
      subst (λ (l : List ℕ). (answer_after h (removal a) ≡ refused 16) ↔ (¬ Memᴰ a l)) (held_after h)
      (changing.removal_not_held (state_after h) a (right_state_after h));
  else_removed = λ h a.
      let (to, from) = right_made (removal a) (state_after h) (right_state_after h) in
      subst (λ (l : List ℕ). (answer_after h (removal a) ≡ given tt) ↔ Memᴰ a l) (held_after h) (
        λ e. let (k, made) = to e in ((list_removal a (held (state_after h)) k).0 made).0,
        λ m. from (_, (list_removal a (held (state_after h)) _).1 (m, refl)),
      );
}
