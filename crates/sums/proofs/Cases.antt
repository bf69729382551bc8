-- Known sums, and known words of given generators, computed from the definitions. Assumes nothing.
use Prim.Native.Nat.{ℕ}
use mathlib.Core.Path.{◌≡◌, refl}
use mathlib.Core.List.{List, [], ◌∷◌, ◌++◌, map}
use Rattle.semigroups.specs.Lists.{run, keep, keep_if, every}
use Rattle.semigroups.specs.Sets.{gaps_to}
use Rattle.semigroups.specs.Words.{word_of}
use Rattle.answers.specs.Answers.{refused, given}
use Rattle.sums.specs.Divisors.{euclid, gcd, gcd_of}
use Rattle.sums.specs.Sums.{further, sums_down, spans}
use Rattle.sums.specs.WordFrom.{few_gaps, word_from_of}

-- 2 and 65; 2 and 67, which leave a gap at 65 too; 4 and 6; 3 and 0; none
pub known_words : map word_from_of ((2 ∷ 65 ∷ []) ∷ (2 ∷ 67 ∷ []) ∷ (4 ∷ 6 ∷ []) ∷ (3 ∷ 0 ∷ []) ∷ [] ∷ [])
    ≡ given 6148914691236517205 ∷ refused 9 ∷ refused 8 ∷ refused 7 ∷ refused 8 ∷ []
unfolding run keep keep_if every word_of euclid gcd gcd_of further sums_down spans gaps_to few_gaps word_from_of
known_words = refl

-- 1 alone and 0 with it: 0 is the sum of no members, so that their members are sums of each other's; but 0 is in one of them
pub known_with_zero : map word_from_of ((1 ∷ []) ∷ (0 ∷ 1 ∷ []) ∷ []) ≡ given 0 ∷ refused 7 ∷ []
unfolding run keep keep_if every word_of euclid gcd gcd_of further sums_down spans gaps_to few_gaps word_from_of
known_with_zero = refl

-- ---- joined lists

-- two lists that are joined
abbrev pub A : List ℕ
A = 3 ∷ 8 ∷ 10 ∷ []

abbrev pub B : List ℕ
B = 7 ∷ 3 ∷ []

-- the sums up to 10 of A joined with B, in either order
pub known_sums : map (λ l. keep (spans l) (run 0 11)) ((A ++ B) ∷ (B ++ A) ∷ []) ≡ (0 ∷ 3 ∷ 6 ∷ 7 ∷ 8 ∷ 9 ∷ 10 ∷ []) ∷ (0 ∷ 3 ∷ 6 ∷ 7 ∷ 8 ∷ 9 ∷ 10 ∷ []) ∷ []
unfolding run keep keep_if every further sums_down spans
known_sums = refl
