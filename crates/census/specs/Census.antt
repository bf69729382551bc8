-- The census of a genus: how many semigroups it has of each multiplicity and reported conductor, the sum of these conductors, and what the
-- call answers. Assumes nothing: these are definitions.
use Rattle.std.specs.Prelude.{ℕ, Bool, ◌&&◌, List, map, eqb, leb, length}
use Rattle.semigroups.specs.Lists.{run, keep, joined, sum_over, fronted}
use Rattle.semigroups.specs.Sets.{Set, NumericalSemigroup, HasGenus, MultiplicityOf, ReportedConductorOf}
use Rattle.semigroups.specs.Words.{reported_conductor}
use Rattle.semigroups.specs.Elements.{multiplicity}
use Rattle.semigroups.specs.GenusList.{genus_list}
use Rattle.answers.specs.Answers.{ask, ListAnswer, unchanged, giving}

-- w has multiplicity m and reported conductor c
unfoldable pub counts_at : ℕ → ℕ → ℕ → Bool
counts_at m c w = eqb (multiplicity w) m && eqb (reported_conductor w) c

-- the words of the genus list of g that have these
unfoldable pub census_list : ℕ → ℕ → ℕ → List ℕ
census_list g m c = keep (counts_at m c) (genus_list g)

-- how many they are
unfoldable pub census_number : ℕ → ℕ → ℕ → ℕ
census_number g m c = length (census_list g m c)

-- these numbers in a row: for each multiplicity from 0 to 33 those of the conductors from 0 to 64, so that the number of m and c stands at
-- place 65 m + c of 2,210
unfoldable pub census_places : ℕ → List ℕ
census_places g = joined (λ m. map (census_number g m) (run 0 65)) (run 0 34)

-- the sum of the reported conductors of all semigroups of genus g
unfoldable pub conductor_sum : ℕ → ℕ
conductor_sum g = sum_over reported_conductor (genus_list g)

-- the census of genus g into the lent list: questions 3 and 6; the sum is given, and the places after the 2,210 are untouched
unfoldable pub census_of : ℕ → List ℕ → ListAnswer
census_of g lent =
    ask (leb g 32) (unchanged lent 3)
    (ask (leb 2210 (length lent)) (unchanged lent 6) (giving (conductor_sum g) (fronted (census_places g) lent)))

-- S has the multiplicity m and the reported conductor c
pub record MultiplicityAndConductor (m c : ℕ) (S : Set) : Type 0 where
  pub multiplicity : MultiplicityOf S m
  pub conductor : ReportedConductorOf S c

-- S is a numerical semigroup of genus g with multiplicity m and reported conductor c
abbrev pub InCensus : ℕ → ℕ → ℕ → Set → Type 0
InCensus g m c S = NumericalSemigroup S × HasGenus S g × MultiplicityAndConductor m c S
