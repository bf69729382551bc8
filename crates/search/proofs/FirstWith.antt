-- The wanted words of a genus g of at least 1 from the first node of their multiplicity m on: the one word where m is g + 1, and else those
-- below its later offsets. Assumes nothing.
use Prim.Native.Nat.{ℕ, ◌+◌, ◌-◌, ◌^◌, ◌≤◌}
use mathlib.Core.Path.{◌≡◌, sym, ap, ◌∙◌}
use mathlib.Core.Logic.{◌≢◌}
use mathlib.Core.List.{[], ◌∷◌, head?}
use mathlib.Core.Option.{none, some}
use native.Mathlib.Omega.{arith}
use lib.Dec.{eqb}
use lib.IntN.{pos}
use borrow.Author.Tests.{eq-eqb, ne_eqb}
use Rattle.semigroups.specs.Lists.{keep, keep_if}
use Rattle.semigroups.specs.Words.{largest_gap, conductor}
use Rattle.semigroups.specs.Elements.{multiplicity}
use Rattle.semigroups.specs.GenusList.{genus_list}
use Rattle.semigroups.proofs.First.{first_conductor}
use Rattle.nodes.specs.Branches.{branches}
use Rattle.search.specs.Wanted.{wanted_list}
use Rattle.search.specs.Private.{with_largest_gap}
use Rattle.search.proofs.Possible.{wanted_of}
use Rattle.search.proofs.OfMultiplicity.{of_multiplicity, of_largest_multiplicity}

-- ---- multiplicity g + 1

module _ (g f m : ℕ) (some_gap : 1 ≤ g) (range : g ≤ 32) (most : m ≡ g + 1) where
  -- there is one word
  one_word : wanted_list g (pos f) m ≡ with_largest_gap f ((2 ^ (m - 1) - 1) ∷ [])
  one_word =
      let less : g ≡ m - 1 = omega arith in
      wanted_of g some_gap f m
      ∙ ap (with_largest_gap f) (ap (λ (k : ℕ). keep (λ w. eqb (multiplicity w) k) (genus_list g)) most ∙ of_largest_multiplicity g range
      ∙ ap (λ (k : ℕ). (2 ^ k - 1) ∷ []) less)

  -- with the largest gap g
  one_gap : largest_gap (2 ^ (m - 1) - 1) ≡ g
  unfolding conductor
  one_gap = omega (arith, first_conductor m (omega arith) (omega arith))

  -- so that it is found for g
  pub one_found : f ≡ g → head? (wanted_list g (pos f) m) ≡ some (2 ^ (m - 1) - 1)
  unfolding with_largest_gap keep keep_if
  one_found e = ap head? one_word ∙ rw (eq-eqb (largest_gap (2 ^ (m - 1) - 1)) f (one_gap ∙ sym e))

  -- and for no other
  pub one_none : f ≢ g → head? (wanted_list g (pos f) m) ≡ none
  unfolding with_largest_gap keep keep_if
  one_none other = ap head? one_word ∙ rw (ne_eqb (largest_gap (2 ^ (m - 1) - 1)) f (λ e. other (sym e ∙ one_gap)))

-- ---- a smaller multiplicity

-- the wanted words are below the later offsets of the first node
pub wanted_below : (g f m : ℕ) → g ≤ 32 → 2 ≤ m → m ≤ g → wanted_list g (pos f) m ≡ with_largest_gap f (branches (g - m) (2 ^ (m - 1) - 1) (2 ^ m - 2))
wanted_below g f m range low high = wanted_of g (omega arith) f m ∙ ap (with_largest_gap f) (of_multiplicity g m range low high)
