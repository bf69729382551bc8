-- Known searches: of genus 0, 4 and 5, and above genus 32. Assumes nothing.
use Prim.Native.Nat.{ℕ, ◌≤◌}
use mathlib.Core.Path.{◌≡◌, refl, ap, ◌∙◌}
use mathlib.Core.List.{List, [], ◌∷◌, head?}
use mathlib.Core.Option.{none, some}
use native.Mathlib.Omega.{arith}
use lib.IntN.{ℤ, pos, negsuc}
use Rattle.semigroups.specs.Lists.{none as empty, run, keep, keep_if, every, joined, last_or}
use Rattle.semigroups.specs.Sets.{gaps_to, sum_of_two}
use Rattle.semigroups.specs.Words.{bit, set_of, gaps, largest_gap, conductor, signed_largest_gap, child_word}
use Rattle.semigroups.specs.Elements.{multiplicity, generator, right_generators}
use Rattle.semigroups.specs.GenusList.{genus_list}
use Rattle.semigroups.specs.Tree.{leaves}
use Rattle.semigroups.proofs.Cases.{known_list}
use Rattle.semigroups.proofs.Leaves.{genus_list_leaves}
use Rattle.answers.specs.Answers.{refused, given}
use Rattle.search.specs.Wanted.{has_numbers, wanted_list, find_of}
use Rattle.search.proofs.Wanted.{find_refused, find_given}
use Rattle.search.proofs.Possible.{zero_found}

-- the first of those of the genus list that have the numbers
in_list : (g : ℕ) (f : ℤ) (m : ℕ) → g ≤ 32 → find_of g f m ≡ given (head? (keep (has_numbers f m) (genus_list g)))
unfolding wanted_list
in_list = find_given

-- the word 0 for genus 0, largest gap -1 and multiplicity 1
pub known_zero : find_of 0 (negsuc 0) 1 ≡ given (some 0)
known_zero = find_given 0 (negsuc 0) 1 (omega arith) ∙ ap given (zero_found (negsuc 0) 1 refl refl)

-- of genus 4, where no two have the same numbers: three that are found, and two that there are none of
pub known_searches : (find_of 4 (pos 5) 4 ≡ given (some 23)) × (find_of 4 (pos 7) 2 ≡ given (some 85)) × (find_of 4 (pos 7) 3 ≡ given (some 75))
    × (find_of 4 (pos 6) 2 ≡ given none) × (find_of 4 (negsuc 0) 1 ≡ given none)
unfolding has_numbers empty run keep keep_if last_or gaps_to bit set_of gaps largest_gap signed_largest_gap multiplicity
known_searches = (of_four (pos 5) 4, of_four (pos 7) 2, of_four (pos 7) 3, of_four (pos 6) 2, of_four (negsuc 0) 1)
  where
    of_four : (f : ℤ) (m : ℕ) → find_of 4 f m ≡ given (head? (keep (has_numbers f m) (15 ∷ 23 ∷ 39 ∷ 71 ∷ 27 ∷ 75 ∷ 85 ∷ [])))
    of_four f m = in_list 4 f m (omega arith) ∙ ap (λ (l : List ℕ). given (head? (keep (has_numbers f m) l))) (known_list 4 (omega arith))

-- of genus 5, the first of two: 87 and 103 have largest gap 7 and multiplicity 4
pub known_first : find_of 5 (pos 7) 4 ≡ given (some 87)
unfolding has_numbers empty run keep keep_if every joined last_or gaps_to sum_of_two bit set_of gaps largest_gap signed_largest_gap conductor child_word multiplicity generator right_generators leaves
known_first = in_list 5 (pos 7) 4 (omega arith) ∙ ap (λ (l : List ℕ). given (head? (keep (has_numbers (pos 7) 4) l))) (genus_list_leaves 5 (omega arith))

-- refused above genus 32
pub known_refusal : find_of 33 (pos 5) 5 ≡ refused 3
known_refusal = find_refused 33 (pos 5) 5 (omega arith)
