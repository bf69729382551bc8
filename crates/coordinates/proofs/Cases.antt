-- Known coordinates, computed from the definitions. Assumes nothing.
use mathlib.Core.Path.{◌≡◌, refl}
use mathlib.Core.List.{[], ◌∷◌, map}
use Rattle.semigroups.specs.Lists.{run, keep, keep_if, every, sum_over, fronted}
use Rattle.semigroups.specs.Sets.{gaps_to, sum_of_two}
use Rattle.semigroups.specs.Words.{bit, set_of, gaps, genus, closed, word_of}
use Rattle.semigroups.specs.Elements.{multiplicity}
use Rattle.answers.specs.Answers.{refused, given, unchanged, giving}
use Rattle.words.specs.Looks.{ask_word, listed_into}
use Rattle.coordinates.specs.Coordinates.{apery, coordinate, kunz_coordinates, entry_at, inequality, inequalities, set_said, coordinates_of, word_from_coordinates_of}

-- the words 0, 1, 91 and 75; of 91 the least elements that leave 1 and 2 are 10 and 8
pub known_coordinates : (map kunz_coordinates (0 ∷ 1 ∷ 91 ∷ 75 ∷ []) ≡ [] ∷ (1 ∷ []) ∷ (3 ∷ 2 ∷ []) ∷ (3 ∷ 1 ∷ []) ∷ [])
    × (map (apery 91) (1 ∷ 2 ∷ []) ≡ 10 ∷ 8 ∷ [])
unfolding run keep keep_if bit set_of multiplicity apery coordinate kunz_coordinates
known_coordinates = (refl, refl)

-- the empty list; 1; 2, 1; 3, 2; 3, 1, which needs the 1 of the inequality; 1, 3, which fails at equal places
pub known_coordinate_words : map word_from_coordinates_of ([] ∷ (1 ∷ []) ∷ (2 ∷ 1 ∷ []) ∷ (3 ∷ 2 ∷ []) ∷ (3 ∷ 1 ∷ []) ∷ (1 ∷ 3 ∷ []) ∷ [])
    ≡ given 0 ∷ given 1 ∷ given 11 ∷ given 91 ∷ given 75 ∷ refused 13 ∷ []
unfolding run keep keep_if every sum_over gaps_to word_of entry_at inequality inequalities set_said word_from_coordinates_of
known_coordinate_words = refl

-- 32 is the largest sum; 0 is asked before the sum, and the sum before the inequalities
pub known_refusals : map word_from_coordinates_of ((32 ∷ []) ∷ (33 ∷ []) ∷ (255 ∷ 0 ∷ []) ∷ (1 ∷ 255 ∷ []) ∷ [])
    ≡ given 6148914691236517205 ∷ refused 12 ∷ refused 11 ∷ refused 12 ∷ []
unfolding run keep keep_if every sum_over gaps_to word_of entry_at inequality inequalities set_said word_from_coordinates_of
known_refusals = refl

-- the coordinates of 91 into a list of three places, where the last stays, and into one of one, which is refused; those of 0 into none;
-- those of 13, which is not closed
pub known_coordinate_listings : (coordinates_of 91 (7 ∷ 7 ∷ 7 ∷ []) ≡ giving 2 (3 ∷ 2 ∷ 7 ∷ []))
    × (coordinates_of 91 (7 ∷ []) ≡ unchanged (7 ∷ []) 6) × (coordinates_of 0 [] ≡ giving 0 [])
    × (coordinates_of 13 [] ≡ unchanged [] 2)
unfolding run keep keep_if every sum_of_two bit set_of gaps genus closed multiplicity apery coordinate kunz_coordinates fronted ask_word listed_into coordinates_of
known_coordinate_listings = (refl, refl, refl, refl)
