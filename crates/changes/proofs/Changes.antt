-- Laws of changes of a plain list: what a removal takes out, which changes are refused, and which lists are left. Assumes nothing.
use Prim.Native.Nat.{ℕ, suc, ◌-◌, ◌≤◌, ◌<◌}
use mathlib.Core.Path.{◌≡◌, refl, sym, ap, ◌∙◌, subst}
use mathlib.Core.Logic.{◌↔◌, ◌⊎◌, inr, ⊎_elim}
use mathlib.Core.Bool.{Bool, true, false}
use mathlib.Core.List.{List, [], ◌∷◌, ◌++◌, map, append_assoc, append-nil, Memᴰ}
use native.Mathlib.Omega.{arith}
use native.Mathlib.Decide.{dec_lt}
use lib.Dec.{ltb}
use lib.ListN.{length, take, length-append}
use lib.Seq.{take-nil}
use borrow.Author.Tests.{eq-eqb, ne_eqb, ltb-true, ltb-false, lt-ltb, le-ltb}
use Rattle.semigroups.specs.Lists.{member_of}
use Rattle.semigroups.proofs.Booleans.{not_both, is_false}
use Rattle.semigroups.proofs.Lists.{positive_without_zero}
use Rattle.semigroups.proofs.Membership.{member_iff, first_split}
use Rattle.answers.specs.Answers.{Answer, refused, given, ask}
use Rattle.answers.proofs.Answers.{first_no, second_no, one_no, all_yes}
use Rattle.changes.specs.Changes.{Change, addition, removal, without_first, list_change, afterwards, left_of, keep_made, made_of, applied, applied_all}

-- ---- a list without the first of its members that is a

-- removing takes out the first equal one
pub without_first_is : (a : ℕ) (k l : List ℕ) → (¬ Memᴰ a k) → without_first a (k ++ a ∷ l) ≡ k ++ l
unfolding without_first
without_first_is a [] l fresh = simp (eq-eqb a a refl)
without_first_is a (x ∷ k) l fresh =
    rw (ne_eqb x a (λ e. fresh (mathlib.Core.List.Memᴰ.head (sym e)))) (ap (λ (t : List ℕ). x ∷ t) (without_first_is a k l (λ m. fresh (mathlib.Core.List.Memᴰ.tail m))))

-- ---- which changes are refused: an addition has two questions and a removal one, so that the others of three are answered yes

module _ (a : ℕ) (l : List ℕ) where
  -- an added 0 is refused 7, and nothing else is
  pub list_addition_7 : (list_change (addition a) l ≡ refused 7) ↔ (a ≡ 0)
  unfolding list_change
  list_addition_7 = (
    λ e. omega (arith, ltb-false 0 a (first_no 7 15 16 (omega arith) (omega arith) _ (ltb 0 a) (ltb (length l) 16) true e)),
    λ z. rw (le-ltb 0 a (omega arith)),
  )

  -- another number is refused 15 just where sixteen are held
  pub list_addition_15 : (list_change (addition a) l ≡ refused 15) ↔ ((0 < a) × (16 ≤ length l))
  unfolding list_change
  list_addition_15 = (
    λ e.
        let (positive, full) = second_no 7 15 16 (omega arith) (omega arith) _ (ltb 0 a) (ltb (length l) 16) true e in
        (ltb-true 0 a positive, ltb-false (length l) 16 full),
    λ (positive, full). rw (lt-ltb 0 a positive, le-ltb (length l) 16 full),
  )

  -- else it is made: the number is the last
  pub list_addition : (k : List ℕ) → (list_change (addition a) l ≡ given k) ↔ ((0 < a) × (length l < 16) × (k ≡ l ++ a ∷ []))
  unfolding list_change applied
  list_addition k = (
    λ e.
        let (positive, room, asked, same) = all_yes 7 15 16 (omega arith) (omega arith) _ k (ltb 0 a) (ltb (length l) 16) true e in
        (ltb-true 0 a positive, ltb-true (length l) 16 room, sym same),
    λ (positive, room, same). rw (lt-ltb 0 a positive, lt-ltb (length l) 16 room) (ap given (sym same)),
  )

  -- a removal is refused 16 just where the number is not held
  pub list_removal_16 : (list_change (removal a) l ≡ refused 16) ↔ (¬ Memᴰ a l)
  unfolding list_change
  list_removal_16 = (
    λ e m. not_both ((member_iff l a).1 m) (first_no 16 17 18 (omega arith) (omega arith) _ (member_of l a) true true e),
    λ absent. rw (is_false (member_of l a) (λ e. absent ((member_iff l a).0 e))),
  )

  -- else it is made
  pub list_removal : (k : List ℕ) → (list_change (removal a) l ≡ given k) ↔ (Memᴰ a l × (k ≡ without_first a l))
  unfolding list_change applied
  list_removal k = (
    λ e.
        let (there, asked, again, same) = all_yes 16 17 18 (omega arith) (omega arith) _ k (member_of l a) true true e in
        ((member_iff l a).0 there, sym same),
    λ (m, same). rw ((member_iff l a).1 m) (ap given (sym same)),
  )

-- a change of a list has no refusals but 7, 15 and 16
pub list_refusals : (c : Change) (l : List ℕ) (n : ℕ) → list_change c l ≡ refused n → (n ≡ 7) ⊎ ((n ≡ 15) ⊎ (n ≡ 16))
unfolding list_change
list_refusals (addition a) l n e = one_no 7 15 16 (omega arith) (omega arith) _ n (ltb 0 a) (ltb (length l) 16) true e
list_refusals (removal a) l n e = inr (inr (by_test (member_of l a) e))
  where
    by_test : (p : Bool) → ask p (refused 16) (given (applied (removal a) l)) ≡ refused n → n ≡ 16
    by_test false e = cc
    by_test true e = let z : ◌≡◌ {A = ℕ} 0 1 = cc in absurd (omega arith)

-- ---- lists that a state may hold

-- at most sixteen numbers, none of which is 0
pub record Holdable (l : List ℕ) : Type 0 where
  pub short : length l ≤ 16
  pub no_zero : ¬ Memᴰ 0 l

-- the empty list is one
pub none_holdable : Holdable []
none_holdable = record { short = omega arith; no_zero = mathlib.Core.List.Memᴰ.not-nil }

-- and a change leaves one
pub change_holdable : (c : Change) (l k : List ℕ) → Holdable l → list_change c l ≡ given k → Holdable k
change_holdable (addition a) l k h e =
    let (positive, room, same) = (list_addition a l k).0 e in
    subst Holdable (sym same)
    record {
      short = omega (arith, length-append l (a ∷ []));
      no_zero = λ m. ⊎_elim h.no_zero (λ n. omega (arith, mathlib.Core.List.Memᴰ.eq_of_singleton n)) (mathlib.Core.List.Memᴰ.append_cases l m);
    }
change_holdable (removal a) l k h e =
    let (m, same) = (list_removal a l k).0 e in
    let (front, back, whole, fresh) = first_split l m in
    let left : k ≡ front ++ back = same ∙ ap (without_first a) (sym whole) ∙ without_first_is a front back fresh in
    subst Holdable (sym left)
    record {
      short = omega (arith, h.short, ap length whole, length-append front (a ∷ back), length-append front back);
      no_zero = λ n. h.no_zero (subst (Memᴰ 0) whole (⊎_elim (mathlib.Core.List.Memᴰ.append_left (a ∷ back)) (λ p. mathlib.Core.List.Memᴰ.append_right front (mathlib.Core.List.Memᴰ.tail p)) (mathlib.Core.List.Memᴰ.append_cases front n)));
    }

-- refused or not
pub after_holdable : (c : Change) (l : List ℕ) → Holdable l → Holdable (afterwards l (list_change c l))
unfolding afterwards
after_holdable c l ok = by_answer (list_change c l) refl
  where
    by_answer : (a : Answer (List ℕ)) → list_change c l ≡ a → Holdable (afterwards l a)
    by_answer (refused n) e = ok
    by_answer (given k) e = change_holdable c l k ok e

-- so that a history leaves one
pub left_holdable : (l : List ℕ) (h : List Change) → Holdable l → Holdable (left_of l h)
unfolding left_of
left_holdable l [] ok = ok
left_holdable l (c ∷ h) ok = left_holdable (afterwards l (list_change c l)) h (after_holdable c l ok)

-- ---- histories

-- a change that is made makes of l what it does with no question
made_applied : (c : Change) (l k : List ℕ) → list_change c l ≡ given k → k ≡ applied c l
unfolding applied
made_applied (addition a) l k e = ((list_addition a l k).0 e).2
made_applied (removal a) l k e = ((list_removal a l k).0 e).1

-- a history leaves what is left when its refused changes are left out first
pub left_applied : (l : List ℕ) (h : List Change) → left_of l h ≡ applied_all (made_of l h) l
unfolding left_of made_of applied_all keep_made afterwards
left_applied l [] = refl
left_applied l (c ∷ h) = left_applied (afterwards l (list_change c l)) h ∙ by_answer (list_change c l) refl
  where
    by_answer : (a : Answer (List ℕ)) → list_change c l ≡ a
        → applied_all (made_of (afterwards l a) h) (afterwards l a) ≡ applied_all (keep_made a c (made_of (afterwards l a) h)) l
    by_answer (refused n) e = refl
    by_answer (given k) e = ap (applied_all (made_of k h)) (made_applied c l k e)

-- and no change of what is then left of the history is refused
pub none_refused : (l : List ℕ) (h : List Change) → made_of l (made_of l h) ≡ made_of l h
unfolding made_of keep_made afterwards
none_refused l [] = refl
none_refused l (c ∷ h) = by_answer (list_change c l) refl (none_refused (afterwards l (list_change c l)) h)
  where
    by_answer : (a : Answer (List ℕ)) → list_change c l ≡ a → made_of (afterwards l a) (made_of (afterwards l a) h) ≡ made_of (afterwards l a) h
        → made_of l (keep_made a c (made_of (afterwards l a) h)) ≡ keep_made a c (made_of (afterwards l a) h)
    by_answer (refused n) e again = again
    by_answer (given k) e again = rw e (ap (λ (t : List Change). c ∷ t) again)

-- of additions of positive numbers alone, those up to the sixteenth are held behind the others
pub additions_left : (l A : List ℕ) → length l ≤ 16 → (¬ Memᴰ 0 A) → left_of l (map addition A) ≡ l ++ take (16 - length l) A
unfolding left_of afterwards
additions_left l [] short fresh = sym (ap (λ (r : List ℕ). l ++ r) (take-nil (16 - length l)) ∙ append-nil l)
additions_left l (a ∷ A) short fresh =
    let positive : 0 < a = positive_without_zero (a ∷ A) fresh a (mathlib.Core.List.Memᴰ.head refl) in
    let later : ¬ Memᴰ 0 A = λ m. fresh (mathlib.Core.List.Memᴰ.tail m) in
    elim (dec_lt (length l) 16) [
      | yes h ↦
          let more : 16 - length l ≡ suc (16 - length (l ++ a ∷ [])) = omega (arith, length-append l (a ∷ [])) in
          ap (λ (x : Answer (List ℕ)). left_of (afterwards l x) (map addition A)) ((list_addition a l (l ++ a ∷ [])).1 (positive, h, refl))
          ∙ additions_left (l ++ a ∷ []) A (omega (arith, length-append l (a ∷ []))) later
          ∙ append_assoc l (a ∷ []) _ ∙ ap (λ (n : ℕ). l ++ take n (a ∷ A)) (sym more)
      | no h ↦
          let none : 16 - length l ≡ 0 = omega arith in
          ap (λ (x : Answer (List ℕ)). left_of (afterwards l x) (map addition A)) ((list_addition_15 a l).1 (positive, omega arith))
          ∙ additions_left l A short later ∙ ap (λ (n : ℕ). l ++ take n A) none ∙ ap (λ (n : ℕ). l ++ take n (a ∷ A)) (sym none)
    ]
