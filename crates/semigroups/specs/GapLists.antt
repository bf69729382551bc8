-- Numerical semigroups by the lists of their gaps, of any genus: the gaps of a word with more behind them, which need not be the gaps of a
-- word of 64 bits. Assumes nothing: these are definitions.
use Rattle.std.specs.Prelude.{ℕ, ◌+◌, ◌*◌, ◌≡◌, Bool, not, eqb, length}
use mathlib.Core.List.{List, ◌++◌, map, Memᴰ}
use Rattle.semigroups.specs.Lists.{keep, every, Ordered}
use Rattle.semigroups.specs.Sets.{Set, sum_of_two, NumericalSemigroup, GapsOf}
use Rattle.semigroups.specs.Words.{gaps, genus, conductor}
use Rattle.semigroups.specs.GenusList.{risings, Before}

-- the set that misses the numbers of l and no other
unfoldable pub set_missing : List ℕ → Set
set_missing l x = every (λ y. not (eqb x y)) l

-- no number of l is a sum of two positive elements of that set
unfoldable pub closed_gaps : List ℕ → Bool
closed_gaps l = every (λ x. not (sum_of_two (set_missing l) x)) l

-- the gap lists, in list order, of the numerical semigroups that have r gaps more than w and whose smallest gaps are exactly the gaps of w:
-- behind these come r numbers from the conductor on, and no gap is above twice the genus
unfoldable pub extensions : ℕ → ℕ → List (List ℕ)
extensions r w = keep closed_gaps (map (λ l. gaps w ++ l) (risings r (conductor w) (2 * (genus w + r))))

-- S is a numerical semigroup with r gaps more than w, whose smallest gaps are exactly the gaps of w
abbrev pub Extends : ℕ → ℕ → Set → Type 0
Extends r w S = NumericalSemigroup S × ((more : List ℕ) × GapsOf S (gaps w ++ more) × (length more ≡ r))

-- l has the gap lists of all sets with P and no other, in list order, each exactly once
pub record AllGapLists (P : Set → Type 0) (l : List (List ℕ)) : Type 0 where
  pub only : (k : List ℕ) → Memᴰ k l → (S : Set) × P S × GapsOf S k
  pub all : (S : Set) → P S → (k : List ℕ) × GapsOf S k × Memᴰ k l
  pub ordered : Ordered Before l
  pub once : (k : List ℕ) (i j : Memᴰ k l) → i ≡ j
