-- The multiplicities of the words of a genus: they do not rise along list order, and only genus 0 has 1.
-- Assumes nothing.
use Prim.Native.Nat.{ℕ, zero, suc, ◌^◌, ◌≤◌, ◌<◌}
use mathlib.Core.Path.{refl, sym, ◌∙◌}
use mathlib.Core.Logic.{inl, inr, ⊎_elim}
use mathlib.Core.List.Memᴰ
use mathlib.Core.List.{List, [], ◌∷◌, Memᴰ}
use native.Mathlib.Omega.{arith}
use native.Mathlib.Nat.{lt_of_not-le, le_of_suc-le-suc}
use Rattle.semigroups.specs.Lists.{Ordered}
use Rattle.semigroups.specs.Words.{gaps}
use Rattle.semigroups.specs.Elements.{multiplicity}
use Rattle.semigroups.specs.GenusList.{Before, Earlier}
use Rattle.semigroups.proofs.Booleans.{not_both}
use Rattle.semigroups.proofs.Words.{gaps_list, gaps_mem, mem_gaps, gap_pos}
use Rattle.semigroups.proofs.Closure.{multiplicity_from_two}
use Rattle.semigroups.proofs.Elements.{multiplicity_in, multiplicity_pos, gap_below_multiplicity}
use Rattle.semigroups.proofs.GenusList.{WordOfGenus, word_nonzero}
use Rattle.windows.specs.Windows.{least_multiplicity}

-- in order, none is below the head
head_le : {x y : ℕ} {l : List ℕ} → Ordered ◌<◌ (y ∷ l) → Memᴰ x (y ∷ l) → y ≤ x
unfolding Ordered
head_le {x} o m = ⊎_elim (λ e. omega arith) (λ i. omega (arith, o.0 x i)) (Memᴰ.cases_cons m)

-- in order, k is not before l where l has some m that k lacks, and all that k has below m
not_before : (m : ℕ) (k l : List ℕ) → Ordered ◌<◌ k → Ordered ◌<◌ l → Memᴰ m l → (Memᴰ m k → ⊥)
    → ((x : ℕ) → Memᴰ x k → x < m → Memᴰ x l) → Before k l → ⊥
unfolding Ordered Before
not_before m [] l o p i lacks below b = b
not_before m (x ∷ k) [] o p i lacks below b = b
not_before m (x ∷ k) (y ∷ l) o p i lacks below (inl h) =
    omega (arith, head_le p (below x (Memᴰ.head refl) (omega (arith, head_le p i))))
not_before m (x ∷ k) (y ∷ l) o p i lacks below (inr (e, b)) =
    not_before m k l o.1 p.1
    (⊎_elim (λ q. absurd (lacks (Memᴰ.head (q ∙ sym e)))) (λ j. j) (Memᴰ.cases_cons i))
    (λ j. lacks (Memᴰ.tail j))
    (λ z j h. ⊎_elim (λ q. absurd (omega (arith, o.0 z j))) (λ n. n) (Memᴰ.cases_cons (below z (Memᴰ.tail j) h)))
    b

-- along list order the multiplicity does not rise
pub earlier_multiplicity : (v w : ℕ) → v < 2 ^ 64 → w < 2 ^ 64 → Earlier v w → multiplicity w ≤ multiplicity v
earlier_multiplicity v w fits other b =
    le_of_suc-le-suc (lt_of_not-le λ h.
    not_before (multiplicity v) (gaps v) (gaps w) (gaps_list v).ordered (gaps_list w).ordered
    (mem_gaps w (multiplicity v) other (gap_below_multiplicity w other (multiplicity v) (multiplicity_pos v fits) h))
    (λ m. not_both (multiplicity_in v fits) (gaps_mem v m))
    (λ x m l. mem_gaps w x other (gap_below_multiplicity w other x (gap_pos v x (gaps_mem v m)) (omega arith)))
    b)

-- only genus 0 has multiplicity 1
pub multiplicity_low : (g w : ℕ) → WordOfGenus g w → least_multiplicity g ≤ multiplicity w
multiplicity_low zero w o = omega (arith, multiplicity_pos w o.fits)
multiplicity_low (suc g) w o = omega (arith, multiplicity_from_two w o.fits o.closed (word_nonzero o (omega arith)))
