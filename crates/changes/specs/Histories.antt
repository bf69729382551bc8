-- Histories: lists of additions and removals, of any length, from the empty start. What the calls give after each of them. Assumes nothing:
-- these are definitions.
use Rattle.std.specs.Prelude.{ℕ, ◌≤◌, ◌<◌, ◌≡◌, ◌↔◌, ◌⊎◌, length, take}
use mathlib.Core.List.{List, [], ◌∷◌, map, Memᴰ}
use Rattle.answers.specs.Answers.{Answer, refused, given}
use Rattle.sums.specs.WordFrom.{word_from_of}
use Rattle.changes.specs.Changes.{Change, addition, removal, left_by, made_of, applied_all}
use Rattle.changes.specs.States.{State, held, RightState, state_of, change_of}

-- the state after a history of s
unfoldable pub state_from : State → List Change → State
state_from s [] = s
state_from s (c ∷ h) = state_from (change_of c s).state h

-- the state after a history from the empty start
abbrev pub state_after : List Change → State
state_after h = state_from (state_of []) h

-- the answer of a change after a history
abbrev pub answer_after : List Change → Change → Answer (Unit {0})
answer_after h c = (change_of c (state_after h)).answer

-- the sentences of request 2026-08 on histories, for every list h of additions and removals
pub record Histories : Type 0 where
  -- the state is right
  pub right_after : (h : List Change) → RightState (state_after h)
  -- it holds the list that the history leaves, which is that of the history with its refused changes left out
  pub holds : (h : List Change) → held (state_after h) ≡ left_by h
  pub left_out : (h : List Change) → left_by h ≡ applied_all (made_of [] h) []
  -- of which no change is refused
  pub left_out_made : (h : List Change) → made_of [] (made_of [] h) ≡ made_of [] h
  -- up to sixteen are held, in order of arrival: of additions alone the first sixteen
  pub at_most_sixteen : (h : List Change) → length (left_by h) ≤ 16
  pub arrivals : (A : List ℕ) → (¬ Memᴰ 0 A) → left_by (map addition A) ≡ take 16 A
  -- the kept answer is what the call for a word from generators gives for them
  pub kept_answer : (h : List Change) → (state_after h).answer ≡ word_from_of (left_by h)
  -- which is a word or refused 8 or 9
  pub word_or_refused : (h : List Change) (n : ℕ) → (state_after h).answer ≡ refused n → (n ≡ 8) ⊎ (n ≡ 9)
  -- an addition is refused 7 exactly where a 0 is added, 15 exactly where another number is added when sixteen are held, and else made
  pub zero_refused : (h : List Change) (a : ℕ) → (answer_after h (addition a) ≡ refused 7) ↔ (a ≡ 0)
  pub full_refused : (h : List Change) (a : ℕ) → (answer_after h (addition a) ≡ refused 15) ↔ ((0 < a) × (length (left_by h) ≡ 16))
  pub else_added : (h : List Change) (a : ℕ) → (answer_after h (addition a) ≡ given tt) ↔ ((0 < a) × (length (left_by h) < 16))
  -- a removal is refused 16 exactly where the number is not held, and else made
  pub absent_refused : (h : List Change) (a : ℕ) → (answer_after h (removal a) ≡ refused 16) ↔ (¬ Memᴰ a (left_by h))
  pub else_removed : (h : List Change) (a : ℕ) → (answer_after h (removal a) ≡ given tt) ↔ Memᴰ a (left_by h)
