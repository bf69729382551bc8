-- Semigroups with wanted numbers, a genus, a largest gap and a multiplicity, and the first of them in list order. Assumes nothing: these
-- are definitions.
use Rattle.std.specs.Prelude.{ℕ, Bool, false, ◌&&◌, eqb, leb, ℤ, pos, negsuc}
use mathlib.Core.List.{List, head?}
use Rattle.std.proofs.Math.Option.{Option}
use Rattle.semigroups.specs.Lists.{keep}
use Rattle.semigroups.specs.Sets.{Set, NumericalSemigroup, HasGenus, MultiplicityOf, SignedLargestGapOf}
use Rattle.semigroups.specs.Words.{signed_largest_gap}
use Rattle.semigroups.specs.Elements.{multiplicity}
use Rattle.semigroups.specs.GenusList.{genus_list}
use Rattle.answers.specs.Answers.{Answer, refused, given, ask}

-- S has the largest gap f, which is -1 where it has no gaps, and the multiplicity m
pub record WantedNumbers (f : ℤ) (m : ℕ) (S : Set) : Type 0 where
  pub largest_gap_is : SignedLargestGapOf S f
  pub multiplicity : MultiplicityOf S m

-- S is a numerical semigroup of genus g that has both
abbrev pub Wanted : ℕ → ℤ → ℕ → Set → Type 0
Wanted g f m S = NumericalSemigroup S × HasGenus S g × WantedNumbers f m S

-- are two signed numbers the same (`negsuc n` is -(n + 1))
abbrev pub eq_z : ℤ → ℤ → Bool
eq_z (pos a) (pos b) = eqb a b
eq_z (pos a) (negsuc b) = false
eq_z (negsuc a) (pos b) = false
eq_z (negsuc a) (negsuc b) = eqb a b

-- has the word w the largest gap f and the multiplicity m
unfoldable pub has_numbers : ℤ → ℕ → ℕ → Bool
has_numbers f m w = eq_z (signed_largest_gap w) f && eqb (multiplicity w) m

-- the words of the genus list of g that have both, in list order
unfoldable pub wanted_list : ℕ → ℤ → ℕ → List ℕ
wanted_list g f m = keep (has_numbers f m) (genus_list g)

-- the first of them, or none: question 3
unfoldable pub find_of : ℕ → ℤ → ℕ → Answer (Option ℕ)
find_of g f m = ask (leb g 32) (refused 3) (given (head? (wanted_list g f m)))
