-- The known generators, computed from the definitions. Assumes nothing.
use mathlib.Core.Path.{◌≡◌, refl}
use mathlib.Core.List.{[], ◌∷◌, ◌++◌, map}
use Rattle.semigroups.specs.Lists.{run, keep, keep_if, every, last_or, fronted}
use Rattle.semigroups.specs.Sets.{sum_of_two, gaps_to}
use Rattle.semigroups.specs.Words.{bit, set_of, gaps, genus, largest_gap, conductor, closed, word_of}
use Rattle.semigroups.specs.Elements.{multiplicity, generator}
use Rattle.answers.specs.Answers.{given, unchanged, giving}
use Rattle.words.specs.Looks.{ask_word, listed_into}
use Rattle.sums.specs.Divisors.{euclid, gcd, gcd_of}
use Rattle.sums.specs.Sums.{further, sums_down, spans}
use Rattle.sums.specs.WordFrom.{few_gaps, word_from_of}
use Rattle.sums.proofs.Cases.{A, B}
use Rattle.generators.specs.Generators.{minimal_generators, generators_of}
use Rattle.generators.specs.Joining.{reduced_by, reduced, in_stages}

-- the words 0 and 91
pub known_generators : map minimal_generators (0 ∷ 91 ∷ []) ≡ (1 ∷ []) ∷ (3 ∷ 8 ∷ 10 ∷ []) ∷ []
unfolding run keep keep_if every last_or sum_of_two bit set_of gaps largest_gap conductor multiplicity generator minimal_generators
known_generators = refl

-- the generators of 91 into a list of four places, where the last stays, and into one of two, which is refused; those of 13, which is not closed
pub known_listings : (generators_of 91 (1 ∷ 2 ∷ 4 ∷ 7 ∷ []) ≡ giving 3 (3 ∷ 8 ∷ 10 ∷ 7 ∷ []))
    × (generators_of 91 (1 ∷ 2 ∷ []) ≡ unchanged (1 ∷ 2 ∷ []) 6) × (generators_of 13 [] ≡ unchanged [] 2)
unfolding run keep keep_if every last_or sum_of_two bit set_of gaps genus largest_gap conductor closed multiplicity generator minimal_generators fronted ask_word listed_into generators_of
known_listings = (refl, refl, refl)

-- ---- joined lists

-- A is 3, 8, 10 and B is 7, 3. A has the word 91; with B it has 27, in either order and by the minimal generators of 91; with itself it has 91
pub known_joins : (word_from_of A ≡ given 91) × (word_from_of (A ++ B) ≡ given 27) × (word_from_of (B ++ A) ≡ given 27)
    × (word_from_of (minimal_generators 91 ++ B) ≡ given 27) × (word_from_of (A ++ A) ≡ given 91)
unfolding run keep keep_if every last_or sum_of_two bit set_of gaps largest_gap conductor multiplicity generator minimal_generators word_of euclid gcd gcd_of further sums_down spans gaps_to few_gaps word_from_of
known_joins = (refl, refl, refl, refl, refl)

-- 6 and 10, which are refused 8, then 55, with which they are refused 9, then 15: reduced to 6, 10 and 15; then 4 and 255: reduced to 4, 6, 15
pub known_stages : (in_stages [] ((6 ∷ 10 ∷ []) ∷ (55 ∷ []) ∷ (15 ∷ []) ∷ []) ≡ 6 ∷ 10 ∷ 15 ∷ [])
    × (in_stages (6 ∷ 10 ∷ 15 ∷ []) ((4 ∷ 255 ∷ []) ∷ []) ≡ 4 ∷ 6 ∷ 15 ∷ [])
unfolding run keep keep_if every last_or sum_of_two bit set_of gaps largest_gap conductor multiplicity generator minimal_generators word_of euclid gcd gcd_of further sums_down spans gaps_to few_gaps word_from_of reduced_by reduced in_stages
known_stages = (refl, refl)
