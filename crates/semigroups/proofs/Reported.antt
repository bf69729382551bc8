-- The reported conductor and the largest gap as a signed number: what they are of any set, how they go with the conductor of source 000, and
-- that those of a word are those of its set. Assumes nothing.
use Prim.Native.Nat.{ℕ, zero, suc, ◌^◌, ◌≤◌, ◌<◌}
use mathlib.Core.Path.{◌≡◌, refl, sym, ap, subst, ◌∙◌}
use mathlib.Core.Logic.{◌≢◌, ◌↔◌, ⊎_elim}
use mathlib.Core.Bool.{Bool, true, false, cond}
use native.Mathlib.Omega.{arith}
use native.Mathlib.Nat.{le_antisymm, lt_of_not-le, eq-or-lt_of_le}
use native.Mathlib.Decide.{ℕ_discrete}
use lib.IntN.{ℤ, pos, negsuc, ◌-ℤ◌, -ℤ_one}
use Rattle.semigroups.specs.Lists.{none, run, keep, keep_if}
use Rattle.semigroups.specs.Sets.{Set, LargestGapOf, SignedLargestGapOf, ReportedConductorOf}
use Rattle.semigroups.specs.Words.{bit, set_of, gaps, largest_gap, conductor, reported_conductor, signed_largest_gap}
use Rattle.semigroups.proofs.Booleans.{not_both, is_false}
use Rattle.semigroups.proofs.Lists.{last_some}
use Rattle.semigroups.proofs.Words.{set_zero}
use Rattle.semigroups.proofs.Elements.{largest_gap_pos, largest_gap_of}

-- ---- of any set

module _ (S : Set) where
  -- c is the reported conductor just where c less 1 is the largest gap
  pub reported_iff : (c : ℕ) → ReportedConductorOf S c ↔ SignedLargestGapOf S (pos c -ℤ pos 1)
  reported_iff zero = (λ h x. h.on x (omega arith), λ all. record { on = λ x l. all x; least = λ n h. omega arith })
  reported_iff (suc f) = subst (λ (z : ℤ). ReportedConductorOf S (suc f) ↔ SignedLargestGapOf S z) (sym (-ℤ_one (pos (suc f)))) (there, back)
    where
      -- if f belonged to S, all from f on would
      there : ReportedConductorOf S (suc f) → LargestGapOf S f
      there h =
          let on_from_split : S f ≡ true → (x : ℕ) → f ≤ x → S x ≡ true =
          λ e x l. ⊎_elim (λ (same : f ≡ x). ap S (sym same) ∙ e) (h.on x) (eq-or-lt_of_le l) in
          record { gap = is_false (S f) (λ e. omega (arith, h.least f (on_from_split e))); largest = h.on }

      back : LargestGapOf S f → ReportedConductorOf S (suc f)
      back g = record { on = g.largest; least = λ n h. lt_of_not-le (λ l. not_both (h f l) g.gap) }

  -- a set has one reported conductor
  pub reported_unique : (c d : ℕ) → ReportedConductorOf S c → ReportedConductorOf S d → c ≡ d
  reported_unique c d p q = le_antisymm (p.least d q.on) (q.least c p.on)

  -- and one largest gap
  pub largest_unique : (y z : ℤ) → SignedLargestGapOf S y → SignedLargestGapOf S z → y ≡ z
  largest_unique (pos f) (pos g) p q = ap pos (le_antisymm (not_above f g p q) (not_above g f q p))
    where
      not_above : (f g : ℕ) → LargestGapOf S f → LargestGapOf S g → f ≤ g
      not_above f g p q = omega (arith, lt_of_not-le (λ (l : g < f). not_both (q.largest f l) p.gap))
  largest_unique (pos f) (negsuc zero) p q = absurd (not_both (q f) p.gap)
  largest_unique (negsuc zero) (pos g) p q = absurd (not_both (p g) q.gap)
  largest_unique (negsuc zero) (negsuc zero) p q = refl
  largest_unique (pos f) (negsuc (suc _)) p q = elim q [ ]
  largest_unique (negsuc zero) (negsuc (suc _)) p q = elim q [ ]
  largest_unique (negsuc (suc _)) z p q = elim p [ ]

-- ---- of a word

-- the largest gap of every word is its reported conductor less 1
pub signed_largest_gap_is : (w : ℕ) → signed_largest_gap w ≡ pos (reported_conductor w) -ℤ pos 1
unfolding signed_largest_gap reported_conductor conductor
signed_largest_gap_is w = by_gaps (none (gaps w))
  where
    by_gaps : (b : Bool) → cond b (negsuc 0) (pos (largest_gap w)) ≡ pos (cond b 0 (suc (largest_gap w))) -ℤ pos 1
    by_gaps true = refl
    by_gaps false = sym (-ℤ_one (pos (suc (largest_gap w))))

-- the reported conductor of every word is at most its conductor
pub reported_le : (w : ℕ) → reported_conductor w ≤ conductor w
unfolding reported_conductor
reported_le w = by_gaps (none (gaps w))
  where
    by_gaps : (b : Bool) → cond b 0 (conductor w) ≤ conductor w
    by_gaps true = omega arith
    by_gaps false = omega arith

-- the word 0 has no gap: its reported conductor is 0 and its largest gap -1
pub no_gap_reported : {w : ℕ} → w ≡ 0 → (reported_conductor w ≡ 0) × (signed_largest_gap w ≡ negsuc 0)
unfolding run keep keep_if none bit set_of gaps reported_conductor signed_largest_gap
no_gap_reported e = (ap reported_conductor e, ap signed_largest_gap e)

module _ (w : ℕ) (fits : w < 2 ^ 64) where
  -- all other words have one
  some_gap : w ≢ 0 → none (gaps w) ≡ false
  unfolding largest_gap
  some_gap nonzero = last_some 0 (gaps w) (largest_gap_pos w fits nonzero)

  -- for every word but 0 both conductors agree
  pub conductors_agree : w ≢ 0 → reported_conductor w ≡ conductor w
  unfolding reported_conductor
  conductors_agree nonzero = rw (some_gap nonzero)

  -- and the largest gap as a signed number is the largest gap
  pub largest_gaps_agree : w ≢ 0 → signed_largest_gap w ≡ pos (largest_gap w)
  unfolding signed_largest_gap
  largest_gaps_agree nonzero = rw (some_gap nonzero)

  -- the largest gap is that of the set: every number above it belongs to the set and it does not, or there is none and it is -1
  pub signed_largest_gap_of : SignedLargestGapOf (set_of w) (signed_largest_gap w)
  signed_largest_gap_of = elim (ℕ_discrete w 0) [
    | yes e ↦ subst (SignedLargestGapOf (set_of w)) (sym (no_gap_reported e).1) (λ x. ap (λ (v : ℕ). set_of v x) e ∙ set_zero x)
    | no nonzero ↦ subst (SignedLargestGapOf (set_of w)) (sym (largest_gaps_agree nonzero)) (largest_gap_of w fits nonzero)
  ]

  -- and so is the reported conductor
  pub reported_conductor_of : ReportedConductorOf (set_of w) (reported_conductor w)
  reported_conductor_of =
      (reported_iff (set_of w) (reported_conductor w)).1 (subst (SignedLargestGapOf (set_of w)) (signed_largest_gap_is w) signed_largest_gap_of)
