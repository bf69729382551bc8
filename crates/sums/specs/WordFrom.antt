-- The word of given generators. Assumes nothing: these are definitions.
use Rattle.std.specs.Prelude.{ℕ, Bool, List, eqb, ltb, leb, length}
use Rattle.semigroups.specs.Lists.{every}
use Rattle.semigroups.specs.Sets.{gaps_to}
use Rattle.semigroups.specs.Words.{word_of}
use Rattle.answers.specs.Answers.{Answer, refused, given, ask}
use Rattle.sums.specs.Divisors.{gcd_of}
use Rattle.sums.specs.Sums.{spans}

-- has the set of the sums at most 32 gaps: it has, where it has at most 32 up to 127
unfoldable pub few_gaps : List ℕ → Bool
few_gaps A = leb (length (gaps_to (spans A) 127)) 32

-- the word of the sums of the members of A: 7, are all at least 1; 8, is their greatest common divisor 1; 9, are there at most 32 gaps
unfoldable pub word_from_of : List ℕ → Answer ℕ
word_from_of A =
    ask (every (ltb 0) A) (refused 7) (ask (eqb (gcd_of A) 1) (refused 8) (ask (few_gaps A) (refused 9) (given (word_of (gaps_to (spans A) 64)))))
