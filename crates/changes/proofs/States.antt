-- Laws of states: the test of a right state, and that a right state is the one that holds its list. Assumes nothing.
use Prim.Native.Nat.{ℕ, ◌-◌}
use mathlib.Core.Path.{◌≡◌, refl, sym, ap, ◌∙◌, subst}
use mathlib.Core.Logic.{◌↔◌}
use mathlib.Core.Bool.{true, ◌&&◌, and-eq-true_iff}
use mathlib.Core.List.{List, ◌++◌, Memᴰ}
use native.Mathlib.Omega.{arith}
use lib.Dec.{eqb, ltb, leb}
use lib.ListN.{length, take, drop, replicate, length-take, length-drop, take-append-drop}
use borrow.Author.Tests.{eq-eqb, eqb-true, le-leb, leb-true}
use Rattle.semigroups.specs.Lists.{every, fronted}
use Rattle.semigroups.proofs.Booleans.{not_both, is_true}
use Rattle.semigroups.proofs.Lists.{every_mem, mem_every, positive_iff, zero_iff, replicate_mem, mem_replicate, drop_replicate, fronted_front, fronted_rest}
use Rattle.answers.specs.Answers.{Answer, refused, given}
use Rattle.sums.specs.WordFrom.{word_from_of}
use Rattle.changes.specs.States.{State, held, past, RightState, equal_answers, is_right, state_of}
use Rattle.changes.proofs.Changes.{Holdable}

-- the test of equal answers decides
pub equal_answers_iff : (a b : Answer ℕ) → (equal_answers a b ≡ true) ↔ (a ≡ b)
equal_answers_iff (refused m) (refused n) = (λ e. ap refused (eqb-true m n e), λ e. let same : m ≡ n = cc in eq-eqb m n same)
equal_answers_iff (refused m) (given w) = (λ e. absurd (not_both e refl), λ e. let z : ◌≡◌ {A = ℕ} 0 1 = cc in absurd (omega arith))
equal_answers_iff (given v) (refused n) = (λ e. absurd (not_both e refl), λ e. let z : ◌≡◌ {A = ℕ} 0 1 = cc in absurd (omega arith))
equal_answers_iff (given v) (given w) = (λ e. ap given (eqb-true v w e), λ e. let same : v ≡ w = cc in eq-eqb v w same)

-- the test of a right state decides
pub right_iff : (s : State) → (is_right s ≡ true) ↔ RightState s
unfolding is_right
right_iff s = (
  λ e.
      let (three, same) = (and-eq-true_iff (leb s.length 16 && every (ltb 0) (held s) && every (eqb 0) (past s)) _).0 e in
      let (two, zeros) = (and-eq-true_iff (leb s.length 16 && every (ltb 0) (held s)) _).0 three in
      let (short, positive) = (and-eq-true_iff (leb s.length 16) _).0 two in
      record {
        short = leb-true s.length 16 short;
        no_zero = λ m. omega (arith, (positive_iff (held s)).0 positive 0 m);
        zeros_after = λ x m. sym (eqb-true 0 x (every_mem (eqb 0) (past s) zeros m));
        kept = (equal_answers_iff s.answer (word_from_of (held s))).0 same;
      },
  λ h.
      rw (
        le-leb s.length 16 h.short,
        is_true (every (ltb 0) (held s)) (λ e. h.no_zero ((zero_iff (held s)).0 e)),
        mem_every (eqb 0) (past s) (λ x m. eq-eqb 0 x (sym (h.zeros_after x m))),
        (equal_answers_iff s.answer (word_from_of (held s))).1 h.kept,
      ),
)

-- the state that holds l holds l
pub held_state : (l : List ℕ) → held (state_of l) ≡ l
unfolding held state_of
held_state l = fronted_front l (replicate 16 0)

-- and is right, where l may be held
pub state_right : (l : List ℕ) → Holdable l → RightState (state_of l)
unfolding state_of past
state_right l h = record {
  short = h.short;
  no_zero = λ m. h.no_zero (subst (Memᴰ 0) (held_state l) m);
  zeros_after = λ x m. replicate_mem 0 (16 - length l) (subst (Memᴰ x) (fronted_rest l (replicate 16 0) ∙ drop_replicate 0 (length l) 16 h.short) m);
  kept = ap word_from_of (sym (held_state l));
}

-- a right state holds a list that may be held
pub right_holdable : (s : State) → RightState s → Holdable (held s)
unfolding held
right_holdable s h = record { short = omega (arith, length-take s.length s.bytes, h.short); no_zero = h.no_zero }

-- and is the state that holds it, where it has sixteen places
pub right_state : (s : State) → length s.bytes ≡ 16 → RightState s → s ≡ state_of (held s)
unfolding state_of held past fronted
right_state s sixteen h =
    let n : ℕ = s.length in
    let number : n ≡ length (take n s.bytes) = omega (arith, length-take n s.bytes, h.short) in
    let rest : length (drop n s.bytes) ≡ 16 - n = length-drop n s.bytes ∙ ap (λ (k : ℕ). k - n) sixteen in
    let zeros : drop n s.bytes ≡ drop (length (take n s.bytes)) (replicate 16 0) =
    mem_replicate 0 (drop n s.bytes) h.zeros_after ∙ ap (λ (k : ℕ). replicate k 0) rest ∙ sym (drop_replicate 0 n 16 h.short)
    ∙ ap (λ (k : ℕ). drop k (replicate 16 0)) number in
    λ i. record {
      bytes = (sym (take-append-drop n s.bytes) ∙ ap (λ (r : List ℕ). take n s.bytes ++ r) zeros) i;
      length = number i;
      answer = h.kept i;
    }
