-- Openings of a gap word: how many of its smallest gaps are enough not to be the gaps of a semigroup. Assumes nothing: these are definitions.
use Rattle.std.specs.Prelude.{ℕ, suc, ◌≤◌, ◌<◌, not, take}
use mathlib.Core.List.{List, head?}
use Rattle.std.proofs.Math.Option.{Option}
use Rattle.semigroups.specs.Lists.{run, keep}
use Rattle.semigroups.specs.Sets.{Set, NumericalSemigroup}
use Rattle.semigroups.specs.Words.{gaps, genus}
use Rattle.semigroups.specs.GapLists.{set_missing, closed_gaps}

-- the n smallest gaps of w: all of them where it has no more than n
unfoldable pub smallest_gaps : ℕ → ℕ → List ℕ
smallest_gaps n w = take n (gaps w)

-- the least n, of those from 0 to the number of gaps, such that the n smallest gaps of w are not the gaps of a semigroup, as one of them is a
-- sum of two positive elements of the set that misses them; or none
unfoldable pub opening_of : ℕ → Option ℕ
opening_of w = head? (keep (λ n. not (closed_gaps (smallest_gaps n w))) (run 0 (suc (genus w))))

-- the set whose gaps are the n smallest gaps of w: everything else is in it
abbrev pub opening_set : ℕ → ℕ → Set
opening_set n w = set_missing (smallest_gaps n w)

-- the shortest impossible opening of w has n gaps: their set is no semigroup, and that of fewer is one
pub record ShortestImpossible (w n : ℕ) : Type 0 where
  pub has : n ≤ genus w
  pub no_semigroup : NumericalSemigroup (opening_set n w) → ⊥
  pub shorter : (k : ℕ) → k < n → NumericalSemigroup (opening_set k w)
