-- Known censuses: those of genus 3 and 0, in any list that is long enough, and the order of the refusals. Assumes nothing.
use Prim.Native.Nat.{ℕ, ◌+◌, ◌*◌, ◌≤◌, ◌<◌}
use mathlib.Core.Path.{◌≡◌, refl, sym, ap, ap₂, ◌∙◌}
use mathlib.Core.List.{List, [], ◌∷◌, map}
use native.Mathlib.Omega.{arith}
use lib.ListN.{length, get_or}
use Rattle.semigroups.specs.Lists.{none, run, keep, keep_if, last_or, sum_over, fronted}
use Rattle.semigroups.specs.Words.{bit, set_of, gaps, largest_gap, conductor, reported_conductor}
use Rattle.semigroups.specs.Elements.{multiplicity}
use Rattle.semigroups.proofs.Cases.{known_lists, known_list}
use Rattle.answers.specs.Answers.{unchanged, giving}
use Rattle.census.specs.Census.{conductor_sum, census_of}
use Rattle.census.specs.Private.{census_place, blank, tallied}
use Rattle.census.proofs.Places.{census_tallied}
use Rattle.census.proofs.Theorems.{census_given}

module _ (lent : List ℕ) (room : 2210 ≤ length lent) where
  -- the census of a genus whose list is known
  by_list : (g : ℕ) → g < 5
      → census_of g lent ≡ giving (sum_over reported_conductor (get_or known_lists g [])) (tallied (map census_place (get_or known_lists g [])) (fronted (blank 2210) lent))
  unfolding conductor_sum
  by_list g h =
      census_given g lent (omega arith) room
      ∙ ap₂ giving (ap (sum_over reported_conductor) (known_list g h))
      (sym (census_tallied g (omega arith) lent room) ∙ ap (λ (l : List ℕ). tallied (map census_place l) (fronted (blank 2210) lent)) (known_list g h))

  -- genus 3 has one semigroup each with multiplicity 4 and conductor 4, with 3 and 5, with 3 and 6, and with 2 and 6, and no others; genus 0
  -- has the word 0 alone, with multiplicity 1 and reported conductor 0
  pub known_censuses : (census_of 3 lent ≡ giving 21 (tallied ((65 * 4 + 4) ∷ (65 * 3 + 5) ∷ (65 * 3 + 6) ∷ (65 * 2 + 6) ∷ []) (fronted (blank 2210) lent)))
      × (census_of 0 lent ≡ giving 0 (tallied ((65 * 1 + 0) ∷ []) (fronted (blank 2210) lent)))
  unfolding none run keep keep_if last_or sum_over bit set_of gaps largest_gap conductor reported_conductor multiplicity census_place
  known_censuses = (by_list 3 (omega arith), by_list 0 (omega arith))

-- a genus above 32 is refused first, then a list that is too short
pub known_refusals : (census_of 33 [] ≡ unchanged [] 3) × (census_of 32 [] ≡ unchanged [] 6)
unfolding census_of
known_refusals = (refl, refl)
