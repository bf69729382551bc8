-- States of a list of generators that changes: which are right, which holds a given list, and what a change gives. Assumes nothing: these
-- are definitions.
use Rattle.std.specs.Prelude.{ℕ, ◌≤◌, ◌<◌, ◌≡◌, ◌↔◌, Bool, false, ◌&&◌, eqb, ltb, leb, length, take, drop, replicate}
use mathlib.Core.List.{List, [], ◌∷◌, ◌++◌, Memᴰ}
use Rattle.semigroups.specs.Lists.{every, fronted}
use Rattle.answers.specs.Answers.{Answer, refused, given, ask}
use Rattle.sums.specs.WordFrom.{word_from_of}
use Rattle.changes.specs.Changes.{Change, addition, removal, list_change}

-- a state: its places, its length, and the kept answer in the papers' numbers
pub record State : Type 0 where
  pub bytes : List ℕ
  pub length : ℕ
  pub answer : Answer ℕ

-- the bytes that are held: those before the length
unfoldable pub held : State → List ℕ
held s = take s.length s.bytes

-- the places past its length
unfoldable pub past : State → List ℕ
past s = drop s.length s.bytes

-- ---- right states

-- a right state, by the four conditions of request 2026-08
pub record RightState (s : State) : Type 0 where
  -- its length is not above 16
  pub short : s.length ≤ 16
  -- no held byte is 0
  pub no_zero : ¬ Memᴰ 0 (held s)
  -- every place past its length is 0
  pub zeros_after : (x : ℕ) → Memᴰ x (past s) → x ≡ 0
  -- its answer is the one that its bytes give
  pub kept : s.answer ≡ word_from_of (held s)

-- are two answers the same
abbrev pub equal_answers : Answer ℕ → Answer ℕ → Bool
equal_answers (refused m) (refused n) = eqb m n
equal_answers (refused m) (given w) = false
equal_answers (given v) (refused n) = false
equal_answers (given v) (given w) = eqb v w

-- the four conditions as a test
unfoldable pub is_right : State → Bool
is_right s = leb s.length 16 && every (ltb 0) (held s) && every (eqb 0) (past s) && equal_answers s.answer (word_from_of (held s))

-- l in sixteen places, with zeros behind it
abbrev pub in_sixteen : List ℕ → List ℕ
in_sixteen l = fronted l (replicate 16 0)

-- the state that holds l, with the answer of the call for a word from generators
unfoldable pub state_of : List ℕ → State
state_of l = record { bytes = in_sixteen l; length = length l; answer = word_from_of l }

-- ---- changes

-- what a change gives: the state afterwards, and its answer, which has no value
pub record Outcome : Type 0 where
  pub state : State
  pub answer : Answer (Unit {0})

-- the outcome by what the change makes of the list: where it is refused, the state stays
abbrev pub outcome_of : State → Answer (List ℕ) → Outcome
outcome_of s (refused n) = record { state = s; answer = refused n }
outcome_of s (given l) = record { state = state_of l; answer = given tt }

-- a change of a state: 14, is it right; then the questions of the change of its list
unfoldable pub change_of : Change → State → Outcome
change_of c s = outcome_of s (ask (is_right s) (refused 14) (list_change c (held s)))

-- the sentences of request 2026-08 on one change, for every state, right or not
pub record Changing : Type 0 where
  -- 14 is tried first: it is the answer exactly where the state is not right
  pub out_of_order : (c : Change) (s : State) → ((change_of c s).answer ≡ refused 14) ↔ (¬ RightState s)
  -- a refused change leaves everything
  pub refused_leaves : (c : Change) (s : State) (n : ℕ) → (change_of c s).answer ≡ refused n → (change_of c s).state ≡ s
  -- of a right state, an addition is refused 7 exactly where a 0 is added
  pub addition_of_zero : (s : State) (a : ℕ) → RightState s → ((change_of (addition a) s).answer ≡ refused 7) ↔ (a ≡ 0)
  -- then 15 exactly where sixteen bytes are held
  pub addition_when_full : (s : State) (a : ℕ) → RightState s → ((change_of (addition a) s).answer ≡ refused 15) ↔ ((0 < a) × (length (held s) ≡ 16))
  -- else the byte is held behind the others
  pub addition_made : (s : State) (a : ℕ) → RightState s → 0 < a → length (held s) < 16 → change_of (addition a) s ≡ outcome_of s (given (held s ++ a ∷ []))
  -- a removal is refused 16 exactly where the byte is not held
  pub removal_not_held : (s : State) (a : ℕ) → RightState s → ((change_of (removal a) s).answer ≡ refused 16) ↔ (¬ Memᴰ a (held s))
  -- else the first equal one is taken out
  pub removal_made : (s : State) (a : ℕ) → RightState s → (k l : List ℕ) → held s ≡ k ++ a ∷ l → (¬ Memᴰ a k)
      → change_of (removal a) s ≡ outcome_of s (given (k ++ l))
