-- Windows of multiplicities: the semigroups of a genus whose multiplicity lies between two bounds, and the first of them. Assumes
-- nothing: these are definitions.
use Rattle.std.specs.Prelude.{ℕ, suc, ◌%◌, ◌≤◌, min, Bool, not, ◌&&◌, List, eqb, leb, take}
use Rattle.semigroups.specs.Lists.{run, keep}
use Rattle.semigroups.specs.Sets.{Set, NumericalSemigroup, HasGenus, MultiplicityOf}
use Rattle.semigroups.specs.Words.{genus, closed}
use Rattle.semigroups.specs.Elements.{multiplicity}
use Rattle.semigroups.specs.GenusList.{genus_list, AllOf}

-- m is from lo to hi
unfoldable pub within : ℕ → ℕ → ℕ → Bool
within lo hi m = leb lo m && leb m hi

-- w is accepted, and has genus g and a multiplicity from lo to hi
abbrev pub holds : ℕ → ℕ → ℕ → ℕ → Bool
holds g lo hi w = leb (genus w) 32 && closed w && eqb (genus w) g && within lo hi (multiplicity w)

-- the words of the genus list of g whose multiplicity is from lo to hi, in list order
unfoldable pub window_list : ℕ → ℕ → ℕ → List ℕ
window_list g lo hi = keep (λ w. within lo hi (multiplicity w)) (genus_list g)

-- S has a multiplicity from lo to hi
pub record MultiplicityWithin (lo hi : ℕ) (S : Set) : Type 0 where
  pub m : ℕ
  pub least : MultiplicityOf S m
  pub lowest_le : lo ≤ m
  pub le_highest : m ≤ hi

-- S is a numerical semigroup of genus g with a multiplicity from lo to hi
abbrev pub InWindow : ℕ → ℕ → ℕ → Set → Type 0
InWindow g lo hi S = NumericalSemigroup S × HasGenus S g × MultiplicityWithin lo hi S

-- l has the words of all these and no other, in list order, each exactly once
abbrev pub AllInWindow : ℕ → ℕ → ℕ → List ℕ → Type 0
AllInWindow g lo hi = AllOf (InWindow g lo hi)

-- the least multiplicity that a semigroup of genus g can have; the largest is g + 1
abbrev pub least_multiplicity : ℕ → ℕ
least_multiplicity g = suc (min g 1)

-- the first g numbers from 1 on that m does not divide: for g at most 32 and m at least 2 they are among the first 64
unfoldable pub not_divided : ℕ → ℕ → List ℕ
not_divided g m = take g (keep (λ x. not (eqb (x % m) 0)) (run 1 64))
