-- Known histories, computed from the definitions. Assumes nothing.
use Prim.Native.Nat.{ℕ}
use mathlib.Core.Path.{◌≡◌, refl}
use mathlib.Core.Bool.{true, false}
use mathlib.Core.List.{List, [], ◌∷◌, map}
use lib.ListN.{replicate}
use Rattle.semigroups.specs.Lists.{run, keep, keep_if, every, member_of, fronted}
use Rattle.semigroups.specs.Sets.{gaps_to}
use Rattle.semigroups.specs.Words.{word_of}
use Rattle.answers.specs.Answers.{refused, given}
use Rattle.sums.specs.Divisors.{euclid, gcd, gcd_of}
use Rattle.sums.specs.Sums.{further, sums_down, spans}
use Rattle.sums.specs.WordFrom.{few_gaps, word_from_of}
use Rattle.changes.specs.Changes.{Change, addition, removal, without_first, applied, list_change, afterwards, left_of, left_by, keep_made, made_of}
use Rattle.changes.specs.States.{State, held, past, is_right, state_of, change_of}
use Rattle.changes.specs.Histories.{state_from, state_after}

-- 6, 10 and 6 are added and 6 is removed, which takes out the first 6; 0 is added and 7 removed, which are refused
abbrev h : List Change
h = addition 6 ∷ addition 10 ∷ addition 6 ∷ removal 6 ∷ addition 0 ∷ removal 7 ∷ []

-- what is left, and the history without its refused changes
pub known_left : (left_by h ≡ 10 ∷ 6 ∷ []) × (made_of [] h ≡ addition 6 ∷ addition 10 ∷ addition 6 ∷ removal 6 ∷ [])
unfolding every member_of without_first applied list_change afterwards left_of keep_made made_of
known_left = (refl, refl)

-- of twenty additions sixteen are held, in order of arrival
pub known_twenty : left_by (map addition (run 1 20)) ≡ run 1 16
unfolding run applied list_change afterwards left_of
known_twenty = refl

-- the questions of a full list: 0 is refused 7, another number 15; 0 is not held
pub known_full : map (λ c. list_change c (run 1 16)) (addition 0 ∷ addition 9 ∷ removal 0 ∷ removal 17 ∷ []) ≡ refused 7 ∷ refused 15 ∷ refused 16 ∷ refused 16 ∷ []
unfolding run every member_of applied list_change
known_full = refl

-- zeros
abbrev zeros_14 : List ℕ
zeros_14 = 0 ∷ 0 ∷ 0 ∷ 0 ∷ 0 ∷ 0 ∷ 0 ∷ 0 ∷ 0 ∷ 0 ∷ 0 ∷ 0 ∷ 0 ∷ 0 ∷ []

-- the state at the start: its answer is refused 8
abbrev start : State
start = record { bytes = 0 ∷ 0 ∷ zeros_14; length = 0; answer = refused 8 }

-- 10 and 6 are held, whose answer is refused 8 too
abbrev two : State
two = record { bytes = 10 ∷ 6 ∷ zeros_14; length = 2; answer = refused 8 }

-- the state at the start and after the history
pub known_states : (state_of [] ≡ start) × (state_after h ≡ two)
unfolding every member_of fronted euclid gcd gcd_of word_from_of without_first applied list_change held past is_right state_of change_of state_from
known_states = (refl, refl)

-- sixteen times 2 is held
abbrev full : State
full = record { bytes = replicate 16 2; length = 16; answer = refused 8 }

-- states that are right
pub known_right : map is_right (start ∷ two ∷ full ∷ []) ≡ true ∷ true ∷ true ∷ []
unfolding every euclid gcd gcd_of word_from_of held past is_right
known_right = refl

-- and states that are not: a length of 17, a held 0, a place past the length that is not 0, and answers that the bytes do not give
pub known_wrong : map is_right (record { bytes = full.bytes; length = 17; answer = refused 8 } ∷ record { bytes = two.bytes; length = 3; answer = refused 7 }
    ∷ record { bytes = two.bytes; length = 1; answer = refused 8 } ∷ record { bytes = two.bytes; length = 2; answer = refused 9 }
    ∷ record { bytes = two.bytes; length = 2; answer = given 8 } ∷ []) ≡ false ∷ false ∷ false ∷ false ∷ false ∷ []
unfolding every euclid gcd gcd_of word_from_of held past is_right
known_wrong = refl

-- with 15 they have a word
pub known_word : (state_from two (addition 15 ∷ [])).answer ≡ given 272971231
unfolding run keep keep_if every fronted gaps_to word_of euclid gcd gcd_of further sums_down spans few_gaps word_from_of applied list_change held past is_right state_of change_of state_from
known_word = refl
