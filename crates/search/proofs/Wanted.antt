-- What the search answers, of all sets: the word of the first numerical semigroup in list order with the wanted numbers, or none exactly
-- when there is no such semigroup. Assumes nothing.
use Prim.Native.Nat.{ℕ, ◌^◌, ◌≤◌, ◌<◌}
use mathlib.Core.Path.{◌≡◌, ap, ◌∙◌, subst}
use mathlib.Core.Logic.{◌↔◌}
use mathlib.Core.Bool.{true, and-eq-true_iff, false≢true}
use mathlib.Core.List.{head?}
use mathlib.Core.Option.{Option, none, some}
use native.Mathlib.Omega.{arith}
use lib.Dec.{eqb}
use lib.IntN.{ℤ, pos, negsuc, pos-ne-negsuc}
use borrow.Author.Tests.{eqb-true, eq-eqb, le-leb, lt-leb}
use Rattle.semigroups.specs.Sets.{Set, MultiplicityOf, SignedLargestGapOf}
use Rattle.semigroups.specs.Words.{set_of, signed_largest_gap}
use Rattle.semigroups.specs.Elements.{multiplicity}
use Rattle.semigroups.specs.GenusList.{AllOf, FirstInOrder}
use Rattle.semigroups.proofs.Sets.{multiplicity_unique}
use Rattle.semigroups.proofs.Elements.{set_multiplicity}
use Rattle.semigroups.proofs.Reported.{largest_unique, signed_largest_gap_of}
use Rattle.semigroups.proofs.GenusList.{kept_all}
use Rattle.semigroups.proofs.Heads.{none_of_all, first_of_all}
use Rattle.answers.specs.Answers.{refused, given}
use Rattle.search.specs.Wanted.{WantedNumbers, Wanted, eq_z, has_numbers, wanted_list, find_of}

-- the test decides whether two signed numbers are the same
pub eq_z_iff : (a b : ℤ) → (eq_z a b ≡ true) ↔ (a ≡ b)
eq_z_iff (pos a) (pos b) = (λ e. ap pos (eqb-true a b e), λ q. eq-eqb a b (cc))
eq_z_iff (pos a) (negsuc b) = (λ e. absurd (false≢true e), λ q. absurd (pos-ne-negsuc a b q))
eq_z_iff (negsuc a) (pos b) = (λ e. absurd (false≢true e), λ q. let z : ◌≡◌ {A = ℕ} 0 1 = cc in absurd (omega arith))
eq_z_iff (negsuc a) (negsuc b) = (λ e. ap negsuc (eqb-true a b e), λ q. eq-eqb a b (cc))

-- a word passes where its set has the numbers
numbers_iff : (f : ℤ) (m w : ℕ) → w < 2 ^ 64 → (has_numbers f m w ≡ true) ↔ WantedNumbers f m (set_of w)
unfolding has_numbers
numbers_iff f m w fits =
    let both = and-eq-true_iff (eq_z (signed_largest_gap w) f) (eqb (multiplicity w) m) in
    let largest = signed_largest_gap_of w fits in
    let least = set_multiplicity w fits in (
      λ e.
          let (p, q) = both.0 e in
          record {
            largest_gap_is = subst (SignedLargestGapOf (set_of w)) ((eq_z_iff (signed_largest_gap w) f).0 p) largest;
            multiplicity = subst (MultiplicityOf (set_of w)) (eqb-true _ m q) least;
          },
      λ n.
          both.1 (
            (eq_z_iff (signed_largest_gap w) f).1 (largest_unique (set_of w) (signed_largest_gap w) f largest n.largest_gap_is),
            eq-eqb _ _ (multiplicity_unique (set_of w) _ _ least n.multiplicity),
          ),
    )

module _ (g : ℕ) (f : ℤ) (m : ℕ) where
  -- refused above genus 32
  pub find_refused : 32 < g → find_of g f m ≡ refused 3
  unfolding find_of
  find_refused h = simp (lt-leb g 32 h)

  module _ (h : g ≤ 32) where
    -- the wanted list has the words of all semigroups with the numbers and no other, in list order, each once
    pub wanted_all : AllOf (Wanted g f m) (wanted_list g f m)
    unfolding wanted_list
    wanted_all = kept_all g h (WantedNumbers f m) (has_numbers f m) (numbers_iff f m)

    -- up to it, the first of the wanted list
    pub find_given : find_of g f m ≡ given (head? (wanted_list g f m))
    unfolding find_of
    find_given = simp (le-leb g 32 h)

    -- so that the answer and the first of the list tell each other
    find_iff : (o : Option ℕ) → (find_of g f m ≡ given o) ↔ (head? (wanted_list g f m) ≡ o)
    find_iff o = (λ e. cc find_given, λ e. find_given ∙ ap given e)

    -- none exactly when no numerical semigroup has genus g, largest gap f and multiplicity m
    pub find_none_iff : (find_of g f m ≡ given none) ↔ ((S : Set) → Wanted g f m S → ⊥)
    find_none_iff =
        let all = none_of_all (wanted_list g f m) wanted_all in
        (λ e. all.0 ((find_iff none).0 e), λ nowhere. (find_iff none).1 (all.1 nowhere))

    -- a word exactly when it is that of the first semigroup in list order that has them
    pub find_first_iff : (w : ℕ) → (find_of g f m ≡ given (some w)) ↔ FirstInOrder (Wanted g f m) w
    find_first_iff w =
        let all = first_of_all (wanted_list g f m) wanted_all w in
        (λ e. all.0 ((find_iff (some w)).0 e), λ first. (find_iff (some w)).1 (all.1 first))
