-- What the private functions of the crate compute: places of a list, and a state with the answer of its bytes. Assumes nothing: these are
-- definitions.
use Rattle.std.specs.Prelude.{ℕ, suc, ◌+◌, cond, List, [], ◌∷◌, ◌++◌, eqb, ltb, take, drop}
use Rattle.sums.specs.WordFrom.{word_from_of}
use Rattle.changes.specs.States.{State}

-- the place of the first member that is a, or the length where there is none
unfoldable pub first_place : ℕ → List ℕ → ℕ
first_place a [] = 0
first_place a (x ∷ l) = cond (eqb x a) 0 (suc (first_place a l))

-- l without the member at a place
unfoldable pub without_place : ℕ → List ℕ → List ℕ
without_place place l = take place l ++ drop (suc place) l

-- the place i of a list without one place, as a place of the whole list
abbrev pub skipping : ℕ → ℕ → ℕ
skipping i place = cond (ltb i place) i (i + 1)

-- the state with these places, of which the first n are held, and with their answer
unfoldable pub with_answer : List ℕ → ℕ → State
with_answer bytes n = record { bytes = bytes; length = n; answer = word_from_of (take n bytes) }
