-- Known windows of genus 4. Assumes nothing.
use Prim.Native.Nat.{ℕ}
use mathlib.Core.Path.{◌≡◌, ap}
use mathlib.Core.List.{List, [], ◌∷◌, map}
use native.Mathlib.Omega.{arith}
use Rattle.semigroups.specs.Lists.{run, keep, keep_if}
use Rattle.semigroups.specs.Words.{bit, set_of}
use Rattle.semigroups.specs.Elements.{multiplicity}
use Rattle.semigroups.specs.GenusList.{genus_list}
use Rattle.semigroups.proofs.Cases.{known_list}
use Rattle.windows.specs.Windows.{within, window_list}

-- the windows of one multiplicity, from 0 to 6, and some others: from 3 to 4, the whole, from 0 to 255, and one whose lowest is above its
-- highest
pub known_windows : (map (λ m. window_list 4 m m) (0 ∷ 1 ∷ 2 ∷ 3 ∷ 4 ∷ 5 ∷ 6 ∷ []) ≡ [] ∷ [] ∷ (85 ∷ []) ∷ (27 ∷ 75 ∷ []) ∷ (23 ∷ 39 ∷ 71 ∷ []) ∷ (15 ∷ []) ∷ [] ∷ [])
    × (window_list 4 3 4 ≡ 23 ∷ 39 ∷ 71 ∷ 27 ∷ 75 ∷ [])
    × (window_list 4 1 33 ≡ 15 ∷ 23 ∷ 39 ∷ 71 ∷ 27 ∷ 75 ∷ 85 ∷ [])
    × (window_list 4 0 255 ≡ 15 ∷ 23 ∷ 39 ∷ 71 ∷ 27 ∷ 75 ∷ 85 ∷ [])
    × (window_list 4 4 3 ≡ [])
unfolding run keep keep_if bit set_of multiplicity within window_list
known_windows = (
  ap (λ (l : List ℕ). map (λ m. keep (λ w. within m m (multiplicity w)) l) (0 ∷ 1 ∷ 2 ∷ 3 ∷ 4 ∷ 5 ∷ 6 ∷ [])) (known_list 4 (omega arith)),
  of_four 3 4,
  of_four 1 33,
  of_four 0 255,
  of_four 4 3,
)
  where
    of_four : (lo hi : ℕ) → keep (λ w. within lo hi (multiplicity w)) (genus_list 4) ≡ keep (λ w. within lo hi (multiplicity w)) (15 ∷ 23 ∷ 39 ∷ 71 ∷ 27 ∷ 75 ∷ 85 ∷ [])
    of_four lo hi = ap (keep (λ w. within lo hi (multiplicity w))) (known_list 4 (omega arith))
