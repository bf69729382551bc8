-- Kunz coordinates by multiplicity: those of a word, the conditions on a list of them, the set that a list says, and what the two calls
-- answer. Assumes nothing: these are definitions.
use Rattle.std.specs.Prelude.{ℕ, suc, ◌+◌, ◌*◌, ◌-◌, ◌/◌, ◌%◌, ◌≤◌, ◌<◌, ◌≡◌, Bool, true, ◌&&◌, cond, eqb, ltb, leb, length, get_or}
use mathlib.Core.List.{List, ◌∷◌, map, Memᴰ}
use Rattle.semigroups.specs.Lists.{run, keep, every, sum_over}
use Rattle.semigroups.specs.Sets.{Set, gaps_to}
use Rattle.semigroups.specs.Words.{set_of, word_of}
use Rattle.semigroups.specs.Elements.{multiplicity}
use Rattle.answers.specs.Answers.{Answer, refused, given, ask, ListAnswer}
use Rattle.words.specs.Looks.{listed_into}

-- ---- the coordinates of a semigroup

-- x is the coordinate of S at i, by m: m x + i is the least element of S that leaves i on division by m
pub record CoordinateOf (S : Set) (m i x : ℕ) : Type 0 where
  pub element : S (m * x + i) ≡ true
  pub residue : (m * x + i) % m ≡ i
  pub least : (a : ℕ) → S a ≡ true → a % m ≡ i → m * x + i ≤ a

-- the least element of the set of w that leaves i on division by the multiplicity m (an Apéry element): the m numbers from 65 on are
-- elements, and one of them leaves i
unfoldable pub apery : ℕ → ℕ → ℕ
apery w i = get_or (keep (λ a. set_of w a && eqb (a % multiplicity w) i) (run 0 (65 + multiplicity w))) 0 0

-- the coordinate at i: the number x with m x + i that element
unfoldable pub coordinate : ℕ → ℕ → ℕ
coordinate w i = (apery w i - i) / multiplicity w

-- the coordinates at 1 to m - 1
unfoldable pub kunz_coordinates : ℕ → List ℕ
kunz_coordinates w = map (coordinate w) (run 1 (multiplicity w - 1))

-- ---- a list of coordinates

-- the m of a list of m - 1 entries
abbrev pub modulus : List ℕ → ℕ
modulus l = suc (length l)

-- the entry at i, for i from 1 to m - 1; 0 at 0, as 0 is the least multiple of m
unfoldable pub entry_at : List ℕ → ℕ → ℕ
entry_at l i = get_or (0 ∷ l) i 0

-- the inequality of the places i and j: where i + j is below m, the two entries together are at least the entry at i + j; where it is
-- above m, the two together and 1 are at least the entry at i + j - m; at m nothing is asked
unfoldable pub inequality : List ℕ → ℕ → ℕ → Bool
inequality l i j =
    cond (ltb (i + j) (modulus l)) (leb (entry_at l (i + j)) (entry_at l i + entry_at l j))
    (cond (ltb (modulus l) (i + j)) (leb (entry_at l (i + j - modulus l)) (entry_at l i + entry_at l j + 1)) true)

-- the inequalities of all places, equal ones too
unfoldable pub inequalities : List ℕ → Bool
inequalities l = every (λ i. every (inequality l i) (run 1 (length l))) (run 1 (length l))

-- the same as a statement
pub record InequalitiesHold (l : List ℕ) : Type 0 where
  pub below : (i j : ℕ) → 0 < i → 0 < j → i + j < modulus l → entry_at l (i + j) ≤ entry_at l i + entry_at l j
  pub beyond : (i j : ℕ) → i < modulus l → j < modulus l → modulus l < i + j → entry_at l (i + j - modulus l) ≤ entry_at l i + entry_at l j + 1

-- the set that a list says: m t + i, for i below m, is in it where t is at least the entry at i
unfoldable pub set_said : List ℕ → Set
set_said l x = leb (entry_at l (x % modulus l)) (x / modulus l)

-- l is accepted: every entry is at least 1, the sum is at most 32, and the inequalities hold
pub record AcceptedCoordinates (l : List ℕ) : Type 0 where
  pub positive : (x : ℕ) → Memᴰ x l → 1 ≤ x
  pub few : sum_over (λ x. x) l ≤ 32
  pub sums : InequalitiesHold l

-- ---- what the calls answer

-- the coordinates of w into the lent list: questions 1, 2 and 6
unfoldable pub coordinates_of : ℕ → List ℕ → ListAnswer
coordinates_of w lent = listed_into w (kunz_coordinates w) lent

-- the word of the set that l says: 11, are all entries at least 1; 12, is their sum at most 32; 13, do the inequalities hold
unfoldable pub word_from_coordinates_of : List ℕ → Answer ℕ
word_from_coordinates_of l =
    ask (every (ltb 0) l) (refused 11)
    (ask (leb (sum_over (λ x. x) l) 32) (refused 12) (ask (inequalities l) (refused 13) (given (word_of (gaps_to (set_said l) 64)))))
