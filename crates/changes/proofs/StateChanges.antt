-- Changes of a state: refused 14 where it is not right, and else those of its list. Assumes nothing.
use Prim.Native.Nat.{ℕ}
use mathlib.Core.Path.{◌≡◌, refl, sym, ap, ◌∙◌, subst}
use mathlib.Core.Logic.Iff
use mathlib.Core.Logic.{◌↔◌, ⊎_elim}
use mathlib.Core.Bool.{false}
use mathlib.Core.List.{List, [], ◌∷◌, ◌++◌, Memᴰ}
use native.Mathlib.Omega.{arith}
use Rattle.semigroups.proofs.Booleans.{is_false}
use Rattle.semigroups.proofs.Lists.{mem_middle}
use Rattle.answers.specs.Answers.{Answer, refused, given, ask}
use Rattle.changes.specs.Changes.{Change, addition, removal, without_first, list_change}
use Rattle.changes.specs.States.{State, held, RightState, is_right, state_of, Outcome, outcome_of, change_of, Changing}
use Rattle.changes.proofs.Changes.{Holdable, without_first_is, list_refusals, list_addition, list_addition_7, list_addition_15, list_removal, list_removal_16}
use Rattle.changes.proofs.States.{right_iff, right_holdable, held_state, state_right}

-- ---- by the definitions

module _ (c : Change) (s : State) where
  -- a change of a state that is not right is refused 14
  pub change_out_of_order : is_right s ≡ false → change_of c s ≡ outcome_of s (refused 14)
  unfolding change_of
  change_out_of_order e = rw e

  -- one of a right state is that of its list
  pub change_in_order : RightState s → change_of c s ≡ outcome_of s (list_change c (held s))
  unfolding change_of
  change_in_order h = rw ((right_iff s).1 h)

-- the state that holds l, where l may be held, changes as l does
pub change_state : (c : Change) (l : List ℕ) → Holdable l → change_of c (state_of l) ≡ outcome_of (state_of l) (list_change c l)
change_state c l h =
    change_in_order c (state_of l) (state_right l h)
    ∙ ap (λ (k : List ℕ). outcome_of (state_of l) (list_change c k)) (held_state l)

-- ---- the sentences of the request on one change

module _ (s : State) where
  -- the answer is refused just where the change of the list is, with the same number
  outcome_refused : (a : Answer (List ℕ)) (n : ℕ) → ((outcome_of s a).answer ≡ refused n) ↔ (a ≡ refused n)
  outcome_refused (refused m) n = (λ e. let same : m ≡ n = cc in ap refused same, λ e. let same : m ≡ n = cc in ap refused same)
  outcome_refused (given k) n = (
    λ e. let z : ◌≡◌ {A = ℕ} 0 1 = cc in absurd (omega arith),
    λ e. let z : ◌≡◌ {A = ℕ} 0 1 = cc in absurd (omega arith),
  )

  -- it is made just where that is
  outcome_made : (a : Answer (List ℕ)) → ((outcome_of s a).answer ≡ given tt) ↔ ((k : List ℕ) × (a ≡ given k))
  outcome_made (refused m) = (
    λ e. let z : ◌≡◌ {A = ℕ} 0 1 = cc in absurd (omega arith),
    λ (k, e). let z : ◌≡◌ {A = ℕ} 0 1 = cc in absurd (omega arith),
  )
  outcome_made (given k) = (λ e. (k, refl), λ e. refl)

  -- a refused change leaves the state
  outcome_leaves : (a : Answer (List ℕ)) (n : ℕ) → (outcome_of s a).answer ≡ refused n → (outcome_of s a).state ≡ s
  outcome_leaves (refused m) n e = refl
  outcome_leaves (given k) n e = let z : ◌≡◌ {A = ℕ} 0 1 = cc in absurd (omega arith)

-- the answer for a right state is that for its list
module _ (c : Change) (s : State) (h : RightState s) where
  answer_is : (change_of c s).answer ≡ (outcome_of s (list_change c (held s))).answer
  answer_is = ap (λ (o : Outcome). o.answer) (change_in_order c s h)

  right_refused : (n : ℕ) → ((change_of c s).answer ≡ refused n) ↔ (list_change c (held s) ≡ refused n)
  right_refused n = let (to, from) = outcome_refused s (list_change c (held s)) n in (λ e. to (sym answer_is ∙ e), λ e. answer_is ∙ from e)

  pub right_made : ((change_of c s).answer ≡ given tt) ↔ ((k : List ℕ) × (list_change c (held s) ≡ given k))
  right_made = let (to, from) = outcome_made s (list_change c (held s)) in (λ e. to (sym answer_is ∙ e), λ e. answer_is ∙ from e)

-- all of them
pub changing : Changing
unfolding change_of
changing = record {
  out_of_order = λ c s. (
    λ e h. ⊎_elim (λ z. omega (arith, z)) (⊎_elim (λ z. omega (arith, z)) (λ z. omega (arith, z))) (list_refusals c (held s) 14 ((right_refused c s h 14).0 e)),
    λ wrong. ap (λ (o : Outcome). o.answer) (change_out_of_order c s (is_false (is_right s) (λ e. wrong ((right_iff s).0 e)))),
  );
  refused_leaves = λ c s n e. outcome_leaves s (ask (is_right s) (refused 14) (list_change c (held s))) n e;
  addition_of_zero = λ s a h. Iff.trans (right_refused (addition a) s h 7) (list_addition_7 a (held s));
  addition_when_full = λ s a h.
      Iff.trans (right_refused (addition a) s h 15)
      (Iff.trans (list_addition_15 a (held s)) (λ (p, most). (p, omega (arith, (right_holdable s h).short)), λ (p, most). (p, omega arith)));
  addition_made = λ s a h positive room.
      change_in_order (addition a) s h ∙ ap (outcome_of s) ((list_addition a (held s) (held s ++ a ∷ [])).1 (positive, room, refl));
  removal_not_held = λ s a h. Iff.trans (right_refused (removal a) s h 16) (list_removal_16 a (held s));
  removal_made = λ s a h k l whole fresh.
      let there = subst (Memᴰ a) (sym whole) (mem_middle k l a) in
      let left : k ++ l ≡ without_first a (held s) = sym (ap (without_first a) whole ∙ without_first_is a k l fresh) in
      change_in_order (removal a) s h ∙ ap (outcome_of s) ((list_removal a (held s) (k ++ l)).1 (there, left));
}
