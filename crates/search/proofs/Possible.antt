-- Bounds on the largest gap and the multiplicity of a semigroup of a genus, and the wanted words of genus 0 and of the others. Assumes nothing.
use Prim.Native.Nat.{ℕ, ◌+◌, ◌*◌, ◌%◌, ◌≤◌, ◌<◌}
use mathlib.Core.Path.{◌≡◌, refl, sym, ap, ◌∙◌, subst₂}
use mathlib.Core.Logic.{◌≢◌}
use mathlib.Core.Bool.{true, false, ◌&&◌, and_comm, and-eq-true_iff}
use mathlib.Core.List.{[], head?}
use mathlib.Core.Option.{none, some}
use native.Mathlib.Omega.{arith}
use lib.Dec.{eqb}
use lib.IntN.{ℤ, pos, negsuc}
use lib.Signed.{lt_z}
use borrow.Author.Tests.{eqb-true, ltb-true}
use Rattle.semigroups.specs.Lists.{run, keep, keep_if}
use Rattle.semigroups.specs.Words.{bit, set_of, largest_gap, conductor}
use Rattle.semigroups.specs.Elements.{multiplicity}
use Rattle.semigroups.specs.GenusList.{genus_list}
use Rattle.semigroups.specs.Tree.{leaves}
use Rattle.semigroups.proofs.Booleans.{is_false}
use Rattle.semigroups.proofs.Lists.{nothing, keep_mem}
use Rattle.semigroups.proofs.Kept.{keep_same, keep_none, keep_both}
use Rattle.semigroups.proofs.Elements.{largest_gap_is, largest_gap_pos, multiplicity_le_genus, genus_lt_conductor}
use Rattle.semigroups.proofs.Reported.{no_gap_reported, largest_gaps_agree}
use Rattle.semigroups.proofs.Closure.{conductor_bound, gap_no_multiple, multiplicity_from_two}
use Rattle.semigroups.proofs.GenusList.{WordOfGenus, word_nonzero, genus_list_mem}
use Rattle.semigroups.proofs.Leaves.{genus_list_leaves}
use Rattle.search.specs.Wanted.{eq_z, has_numbers, wanted_list}
use Rattle.search.specs.Private.{with_largest_gap}
use Rattle.search.proofs.Wanted.{eq_z_iff}

-- what is known of the largest gap f and the multiplicity m of a semigroup of genus g, which is 1 or more
pub record Possible (g f m : ℕ) : Type 0 where
  pub lowest : 2 ≤ m
  pub highest : m ≤ g + 1
  pub from_genus : g ≤ f
  pub below_twice : f < 2 * g
  pub no_multiple : f % m ≢ 0

module _ (g : ℕ) (some_gap : 1 ≤ g) where
  -- the largest gap and the multiplicity of every word of genus g are possible
  pub possible : (w : ℕ) → WordOfGenus g w → Possible g (largest_gap w) (multiplicity w)
  unfolding conductor
  possible w o =
      let nonzero = word_nonzero o some_gap in
      record {
        lowest = multiplicity_from_two w o.fits o.closed nonzero;
        highest = omega (arith, multiplicity_le_genus w o.fits, o.gapped);
        from_genus = omega (arith, genus_lt_conductor w o.fits, o.gapped);
        below_twice = omega (arith, conductor_bound w o.fits o.closed, o.gapped);
        no_multiple = gap_no_multiple w o.fits o.closed (largest_gap w) (largest_gap_is w (largest_gap_pos w o.fits nonzero));
      }

  -- the wanted words are those of the multiplicity that have the largest gap
  pub wanted_of : (f m : ℕ) → wanted_list g (pos f) m ≡ with_largest_gap f (keep (λ w. eqb (multiplicity w) m) (genus_list g))
  unfolding wanted_list with_largest_gap has_numbers
  wanted_of f m =
      keep_same _ _ (genus_list g) (λ w i.
      let o = genus_list_mem g i in
      ap (λ (z : ℤ). eq_z z (pos f) && eqb (multiplicity w) m) (largest_gaps_agree w o.fits (word_nonzero o some_gap))
      ∙ and_comm (eqb (largest_gap w) f) (eqb (multiplicity w) m))
      ∙ sym (keep_both (λ v. eqb (largest_gap v) f) (λ w. eqb (multiplicity w) m) (genus_list g))

  -- numbers that are not possible are those of none
  pub none_wanted : (f m : ℕ) → (Possible g f m → ⊥) → head? (wanted_list g (pos f) m) ≡ none
  unfolding with_largest_gap
  none_wanted f m never =
      ap head? (wanted_of f m ∙ nothing _ (λ w i.
      let (j, e) = keep_mem _ (keep (λ w. eqb (multiplicity w) m) (genus_list g)) i in
      let (k, d) = keep_mem _ (genus_list g) j in
      never (subst₂ (Possible g) (eqb-true (largest_gap w) f e) (eqb-true (multiplicity w) m d) (possible w (genus_list_mem g k)))))

  -- and so are negative ones
  pub none_negative : (z : ℤ) (m : ℕ) → lt_z z (pos 0) ≡ true → head? (wanted_list g z m) ≡ none
  unfolding wanted_list has_numbers
  none_negative (pos f) m e = absurd (omega (arith, ltb-true f 0 e))
  none_negative (negsuc n) m e =
      ap head? (keep_none _ (genus_list g) (λ w i.
      let o = genus_list_mem g i in
      ap (λ (z : ℤ). eq_z z (negsuc n) && eqb (multiplicity w) m) (largest_gaps_agree w o.fits (word_nonzero o some_gap))))

-- ---- genus 0

module _ (f : ℤ) (m : ℕ) where
  -- there is the word 0, with the largest gap -1 and the multiplicity 1
  wanted_zero : wanted_list 0 f m ≡ keep_if (eq_z (negsuc 0) f && eqb 1 m) 0 []
  unfolding wanted_list has_numbers keep keep_if leaves run bit set_of multiplicity
  wanted_zero =
      ap (keep (has_numbers f m)) (genus_list_leaves 0 (omega arith))
      ∙ ap (λ (z : ℤ). keep_if (eq_z z f && eqb (multiplicity 0) m) 0 []) (no_gap_reported refl).1

  -- it is found for these
  pub zero_found : f ≡ negsuc 0 → m ≡ 1 → head? (wanted_list 0 f m) ≡ some 0
  unfolding keep_if
  zero_found e d = ap head? wanted_zero ∙ rw (e, d)

  -- and none for others
  pub zero_none : (f ≡ negsuc 0 → m ≡ 1 → ⊥) → head? (wanted_list 0 f m) ≡ none
  unfolding keep_if
  zero_none other =
      let fails : (eq_z (negsuc 0) f && eqb 1 m) ≡ false = is_false _ (λ e.
      let (p, q) = (and-eq-true_iff (eq_z (negsuc 0) f) (eqb 1 m)).0 e in
      other (sym ((eq_z_iff (negsuc 0) f).0 p)) (sym (eqb-true 1 m q))) in
      ap head? wanted_zero ∙ rw fails
