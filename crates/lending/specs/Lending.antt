-- Words put into a lent list, as far as there is room. Assumes nothing: these are definitions.
use Rattle.std.specs.Prelude.{ℕ, ◌+◌, ◌%◌, ◌^◌, cond, List, [], ◌∷◌, map, length, nat_lt, slice_set, Result, Ok, Err}
use Rattle.semigroups.specs.Positions.{positions}
use Rattle.lending.specs.declared.NoRoom.{NoRoom}

-- the lent list, and its next place or, where it is full, the word that found no room
abbrev pub Lent : Type 0
Lent = List ℕ × Result ℕ NoRoom

-- x put at the next place; where the list does not have it, x is the word that finds no room, and no later one is put
unfoldable pub put_one : ℕ → Lent → Lent
put_one x (o, Err e) = (o, Err e)
put_one x (o, Ok at) = cond (nat_lt at (length o)) (slice_set o at x, Ok (at + 1)) (o, Err record { next = x })

-- each of a list put
unfoldable pub put_all : List ℕ → Lent → Lent
put_all [] t = t
put_all (x ∷ l) t = put_all l (put_one x t)

-- each bit of a number added to a word, the lowest first; as words of 64 bits
unfoldable pub with_each : ℕ → ℕ → List ℕ
with_each w bits = map (λ i. (w + 2 ^ i) % 2 ^ 64) (positions bits)
