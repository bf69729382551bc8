-- Gap words. Assumes nothing: these are definitions.
use Rattle.std.specs.Prelude.{ℕ, zero, suc, ◌+◌, ◌*◌, ◌-◌, ◌/◌, ◌%◌, ◌^◌, Bool, true, false, not, cond, List, [], ◌∷◌, eqb, ℤ, pos, negsuc, length}
use Rattle.semigroups.specs.Lists.{none, every, last_or}
use Rattle.semigroups.specs.Sets.{Set, gaps_to, sum_of_two}

-- bit i of w stands
unfoldable pub bit : ℕ → ℕ → Bool
bit w i = eqb (w / 2 ^ i % 2) 1

-- a bit as a number
unfoldable pub digit : Bool → ℕ
digit true = 1
digit false = 0

-- the number whose bits are those of the list
unfoldable pub of_bits : List Bool → ℕ
of_bits [] = 0
of_bits (b ∷ l) = digit b + of_bits l * 2

-- the set of w: 0, and each i + 1 whose bit i does not stand
unfoldable pub set_of : ℕ → Set
set_of w zero = true
set_of w (suc i) = not (bit w i)

-- the gaps of w, smallest first
unfoldable pub gaps : ℕ → List ℕ
unfolding gaps_to
gaps w = gaps_to (set_of w) 64

-- the word whose gaps are the numbers of l
unfoldable pub word_of : List ℕ → ℕ
word_of [] = 0
word_of (x ∷ l) = word_of l + 2 ^ (x - 1)

unfoldable pub genus : ℕ → ℕ
genus w = length (gaps w)

-- the largest gap, by which the conductor of source 000 is said: 0 where there is none (reported is the signed number below)
unfoldable pub largest_gap : ℕ → ℕ
largest_gap w = last_or 0 (gaps w)

-- the conductor of source 000, by which rows, tables, children and the walk are counted: the largest gap plus 1, and 1 where there is none
unfoldable pub conductor : ℕ → ℕ
conductor w = suc (largest_gap w)

-- the reported conductor, which a look and the listing tell, as other algebra packages have it: 0 where there is no gap, else that of
-- source 000
unfoldable pub reported_conductor : ℕ → ℕ
reported_conductor w = cond (none (gaps w)) 0 (conductor w)

-- the largest gap as it is reported, a signed number: -1, which is `negsuc 0`, where there is none
unfoldable pub signed_largest_gap : ℕ → ℤ
signed_largest_gap w = cond (none (gaps w)) (negsuc 0) (pos (largest_gap w))

-- no gap is a sum of two positive elements
unfoldable pub closed : ℕ → Bool
closed w = every (λ x. not (sum_of_two (set_of w) x)) (gaps w)

-- the word of the set of w without the element e
unfoldable pub child_word : ℕ → ℕ → ℕ
child_word w e = w + 2 ^ (e - 1)

-- the word of the set of w with its largest gap put in
unfoldable pub parent_word : ℕ → ℕ
parent_word w = w - 2 ^ (largest_gap w - 1)
