-- Changes of a plain list of generators, and the list that a history of changes leaves. Assumes nothing: these are definitions.
use Rattle.std.specs.Prelude.{ℕ, cond, List, [], ◌∷◌, ◌++◌, eqb, ltb, length}
use Rattle.semigroups.specs.Lists.{member_of}
use Rattle.answers.specs.Answers.{Answer, refused, given, ask}

-- ---- one change

-- a change: a number is added, or removed
pub data Change : Type 0 where
  addition : ℕ → Change
  removal : ℕ → Change

-- l without the first of its members that is a
unfoldable pub without_first : ℕ → List ℕ → List ℕ
without_first a [] = []
without_first a (x ∷ l) = cond (eqb x a) l (x ∷ without_first a l)

-- what a change makes of a list: an added number is the last, and of a removed one the first is taken out
unfoldable pub applied : Change → List ℕ → List ℕ
applied (addition a) l = l ++ a ∷ []
applied (removal a) l = without_first a l

-- the same after its questions. Of an addition: 7, is the number at least 1; 15, are fewer than sixteen held. Of a removal: 16, is it held
unfoldable pub list_change : Change → List ℕ → Answer (List ℕ)
list_change (addition a) l = ask (ltb 0 a) (refused 7) (ask (ltb (length l) 16) (refused 15) (given (applied (addition a) l)))
list_change (removal a) l = ask (member_of l a) (refused 16) (given (applied (removal a) l))

-- ---- histories

-- what there is after a change of x: what is given, and x where the change is refused
unfoldable pub afterwards : {A : Type 0} → A → Answer A → A
afterwards x (refused n) = x
afterwards x (given y) = y

-- the list that a history leaves of l, its refused changes left out
unfoldable pub left_of : List ℕ → List Change → List ℕ
left_of l [] = l
left_of l (c ∷ h) = left_of (afterwards l (list_change c l)) h

-- and that it leaves from an empty start
abbrev pub left_by : List Change → List ℕ
left_by h = left_of [] h

-- ---- the same in two steps: first the refused changes are left out, and then no question is asked

-- c in front of a history, where it is not refused
unfoldable pub keep_made : Answer (List ℕ) → Change → List Change → List Change
keep_made (refused n) c h = h
keep_made (given k) c h = c ∷ h

-- a history of l, its refused changes left out
unfoldable pub made_of : List ℕ → List Change → List Change
made_of l [] = []
made_of l (c ∷ h) = keep_made (list_change c l) c (made_of (afterwards l (list_change c l)) h)

-- all changes of a history applied to l, one after the other
unfoldable pub applied_all : List Change → List ℕ → List ℕ
applied_all [] l = l
applied_all (c ∷ h) l = applied_all h (applied c l)
