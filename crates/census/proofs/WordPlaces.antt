-- The place of a word in a census: where the word 0 counts, the place of a child, and that it is one of the 2,210 for every word of a genus up
-- to 32. Assumes nothing.
use Prim.Native.Nat.{ℕ, suc, ◌+◌, ◌*◌, ◌≤◌, ◌<◌}
use mathlib.Core.Path.{◌≡◌, refl, ap, ◌∙◌}
use mathlib.Core.Bool.{true, false}
use mathlib.Core.Logic.{◌≢◌}
use mathlib.Core.List.{Memᴰ}
use native.Mathlib.Omega.{arith}
use Rattle.semigroups.specs.Lists.{none, run, keep, keep_if, last_or}
use Rattle.semigroups.specs.Words.{bit, set_of, gaps, genus, largest_gap, conductor, reported_conductor, child_word}
use Rattle.semigroups.specs.Elements.{multiplicity}
use Rattle.semigroups.specs.Children.{Child}
use Rattle.semigroups.specs.Tree.{leaves}
use Rattle.semigroups.proofs.Words.{genus_zero}
use Rattle.semigroups.proofs.Elements.{multiplicity_le_genus}
use Rattle.semigroups.proofs.Closure.{conductor_le_64}
use Rattle.semigroups.proofs.GenusList.{WordOfGenus}
use Rattle.semigroups.proofs.Reported.{reported_le, conductors_agree}
use Rattle.nodes.specs.Levels.{Levels}
use Rattle.nodes.proofs.Branches.{leaf_descendant}
use Rattle.census.specs.Census.{counts_at}
use Rattle.census.specs.Private.{census_place}

-- the word 0 counts at its multiplicity 1 and its reported conductor 0, and not at the conductor 1 of source 000
pub zero_counts_at : (counts_at 1 0 0 ≡ true) × (counts_at 1 1 0 ≡ false)
unfolding none run keep keep_if last_or bit set_of gaps largest_gap conductor reported_conductor multiplicity counts_at
zero_counts_at = (refl, refl)

-- the place of a child: its conductor is one more than its new gap
pub child_place : (w x : ℕ) → Child w x → census_place (child_word w x) ≡ 65 * multiplicity (child_word w x) + suc x
unfolding census_place
child_place w x v = ap (λ (k : ℕ). 65 * multiplicity (child_word w x) + k) (conductors_agree (child_word w x) v.fits nonzero ∙ v.new_conductor)
  where
    nonzero : child_word w x ≢ 0
    nonzero e = omega (arith, ap genus e, genus_zero, v.new_genus)

-- a word of a genus up to 32 has a multiplicity up to 33 and a conductor up to 64
pub word_bounds : (g w : ℕ) → g ≤ 32 → WordOfGenus g w → (multiplicity w ≤ 33) × (reported_conductor w ≤ 64)
word_bounds g w h o = (
  omega (arith, multiplicity_le_genus w o.fits, o.gapped),
  omega (arith, reported_le w, conductor_le_64 w o.fits o.closed (omega (arith, o.gapped))),
)

-- so that its place is one of the 2,210
pub place_below_2210 : (g w : ℕ) → g ≤ 32 → WordOfGenus g w → census_place w < 2210
unfolding census_place
place_below_2210 g w h o = omega (arith, word_bounds g w h o)

-- and so is that of each word below another
pub leaf_place : (r w : ℕ) → Levels r w → {v : ℕ} → Memᴰ v (leaves r w) → census_place v < 2210
leaf_place r w at {v} m = place_below_2210 (genus w + r) v at.few (leaf_descendant r w at m).word
