-- Known semigroups: the genus lists of genus 0 to 4 and the numbers of semigroups of genus 0 to 8, computed by the tree, cuts of a genus list,
-- and of any words the conductors, multiplicities and openings, computed from the definitions. Assumes nothing.
use Prim.Native.Nat.{ℕ, ◌+◌, ◌^◌, ◌<◌}
use mathlib.Core.Path.{◌≡◌, refl, sym, ◌∙◌, ap}
use mathlib.Core.Bool.{true}
use mathlib.Core.List.{List, [], ◌∷◌, map}
use mathlib.Core.Option as option
use native.Mathlib.Omega.{arith}
use native.Mathlib.Nat.{zero-add}
use lib.ListN.{length, get_or}
use Rattle.semigroups.specs.Lists.{run, keep, keep_if, every, joined, last_or, begins}
use Rattle.semigroups.specs.Sets.{sum_of_two}
use Rattle.semigroups.specs.Words.{bit, set_of, gaps, genus, largest_gap, conductor, closed, child_word}
use Rattle.semigroups.specs.Elements.{multiplicity, generator, right_generators}
use Rattle.semigroups.specs.GenusList.{genus_list, descendants}
use Rattle.semigroups.specs.GapLists.{set_missing, closed_gaps}
use Rattle.semigroups.specs.GapSums.{gap_sums, least_gap_sum}
use Rattle.semigroups.specs.Openings.{smallest_gaps, opening_of}
use Rattle.semigroups.specs.Tree.{leaves}
use Rattle.semigroups.specs.Relatives.{comes_before, words_before, words_after}
use Rattle.semigroups.proofs.Lists.{map_run, get_d_map_run}
use Rattle.semigroups.proofs.Leaves.{genus_list_leaves}
use Rattle.semigroups.proofs.Closure.{closed_iff}
use Rattle.semigroups.proofs.GapSums.{least_gap_sum_is}
use Rattle.semigroups.proofs.Openings.{opening_none, opening_least}

-- the genus lists of genus 0 to 4
abbrev pub known_lists : List (List ℕ)
known_lists = (0 ∷ []) ∷ (1 ∷ []) ∷ (3 ∷ 5 ∷ []) ∷ (7 ∷ 11 ∷ 19 ∷ 21 ∷ []) ∷ (15 ∷ 23 ∷ 39 ∷ 71 ∷ 27 ∷ 75 ∷ 85 ∷ []) ∷ []

-- and the numbers of semigroups of genus 0 to 8
pub known_lists_are : (map genus_list (0 ∷ 1 ∷ 2 ∷ 3 ∷ 4 ∷ []) ≡ known_lists)
    × (map (λ g. length (genus_list g)) (0 ∷ 1 ∷ 2 ∷ 3 ∷ 4 ∷ 5 ∷ 6 ∷ 7 ∷ 8 ∷ []) ≡ 1 ∷ 1 ∷ 2 ∷ 4 ∷ 7 ∷ 12 ∷ 23 ∷ 39 ∷ 67 ∷ [])
unfolding run keep every joined last_or sum_of_two bit set_of gaps largest_gap conductor child_word multiplicity generator right_generators leaves
known_lists_are = (
  map_run genus_list (λ g. leaves g 0) 0 0 5 (λ g l. genus_list_leaves (0 + g) (omega arith)),
  map_run (λ g. length (genus_list g)) (λ g. length (leaves g 0)) 0 0 9 (λ g l. ap length (genus_list_leaves (0 + g) (omega arith))),
)

-- the genus list of a genus up to 4
pub known_list : (g : ℕ) → g < 5 → genus_list g ≡ get_or known_lists g []
unfolding run
known_list g h = sym (get_d_map_run genus_list [] 0 5 g h ∙ ap genus_list (zero-add g)) ∙ ap (λ (l : List (List ℕ)). get_or l g []) known_lists_are.0

-- genus 4 cut by the word 11, whose gaps are 1, 2 and 4: the words before it, its two descendants and the word after it; and by the word 19,

-- whose gaps are 1, 2 and 5 and which has no descendant there
pub known_stretches : map (λ w. words_before 4 w ∷ descendants 4 w ∷ words_after 4 w ∷ []) (11 ∷ 19 ∷ [])
    ≡ ((15 ∷ 23 ∷ 39 ∷ 71 ∷ []) ∷ (27 ∷ 75 ∷ []) ∷ (85 ∷ []) ∷ []) ∷ ((15 ∷ 23 ∷ 39 ∷ 71 ∷ 27 ∷ 75 ∷ []) ∷ [] ∷ (85 ∷ []) ∷ []) ∷ []
unfolding run keep begins bit set_of gaps descendants comes_before words_before words_after
known_stretches = rw (known_list 4 (omega arith)) refl

-- the conductors and the multiplicities of words of which only the first is accepted: 0, 2, 13, the largest without the gap 64, that of

-- the gap 64 alone, and that of all gaps up to 64
pub known_conductors_and_multiplicities : let words : List ℕ = 0 ∷ 2 ∷ 13 ∷ 9223372036854775807 ∷ 9223372036854775808 ∷ 18446744073709551615 ∷ [] in
    (map conductor words ≡ 1 ∷ 3 ∷ 5 ∷ 64 ∷ 65 ∷ 65 ∷ []) × (map multiplicity words ≡ 1 ∷ 1 ∷ 2 ∷ 64 ∷ 1 ∷ 65 ∷ [])
unfolding run keep last_or bit set_of gaps largest_gap conductor multiplicity
known_conductors_and_multiplicities = (refl, refl)

-- the shortest impossible openings of 13, 2 and 0, and of 77, of whose gaps 1, 3, 4 and 7 the last two are sums, 2 + 2 and 2 + 5
pub known_openings : map opening_of (13 ∷ 2 ∷ 0 ∷ 77 ∷ []) ≡ option.some 3 ∷ option.some 1 ∷ option.none ∷ option.some 3 ∷ []
unfolding run keep keep_if every sum_of_two bit set_of gaps genus set_missing closed_gaps smallest_gaps opening_of
known_openings = refl

-- and with more than 32 gaps: of the gaps 1 to 64 and of the gaps 1 to 33 and 64, whose sets are closed under addition, and of the gaps 1 to 64

-- without 20 and 21, of which 40, 41 and 42 are sums of these
pub known_long_openings : (opening_of 18446744073709551615 ≡ option.none) × (opening_of 9223372045444710399 ≡ option.none)
    × (opening_of 18446744073707978751 ≡ option.some 38)
unfolding run keep keep_if every sum_of_two bit set_of gaps genus closed gap_sums least_gap_sum
known_long_openings = (
  closed_opening 18446744073709551615 (omega arith) refl,
  closed_opening 9223372045444710399 (omega arith) refl,
  opening_least 18446744073707978751 (omega arith) 40 (least_gap_sum_is 18446744073707978751 (omega arith) refl),
)
  where
    closed_opening : (w : ℕ) → w < 2 ^ 64 → closed w ≡ true → opening_of w ≡ option.none
    closed_opening w fits c = (opening_none w fits).1 ((closed_iff w fits).0 c)
