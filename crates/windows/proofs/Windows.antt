-- What a window holds, that it is one stretch of the genus list, and that the genus list is the windows of its multiplicities, the largest
-- first. Assumes nothing.
use Prim.Native.Nat.{ℕ, zero, suc, ◌+◌, ◌-◌, ◌^◌, ◌≤◌, ◌<◌, min}
use mathlib.Core.Path.{◌≡◌, refl, sym, ◌∙◌, ap, ap₂, subst}
use mathlib.Core.Logic.{◌⊎◌, inl, ◌↔◌, ⊎_elim}
use mathlib.Core.Bool.{Bool, true, false, ◌||◌, and-eq-true_iff, and-true, or-false}
use mathlib.Core.List.Memᴰ
use mathlib.Core.List.{List, [], ◌∷◌, ◌++◌, append_assoc, append-nil, map-id, Memᴰ}
use native.Mathlib.Omega.{arith}
use native.Mathlib.Nat.{le_of_eq}
use native.Mathlib.Decide.{dec_le}
use lib.Dec.{leb}
use lib.ListN.{get_or}
use borrow.Author.Tests.{leb-true, leb-false, le-leb, lt-leb}
use Rattle.semigroups.specs.Lists.{run, keep, joined, on_from, Ordered}
use Rattle.semigroups.specs.Sets.{Set}
use Rattle.semigroups.specs.Words.{set_of}
use Rattle.semigroups.specs.Elements.{multiplicity}
use Rattle.semigroups.specs.GenusList.{genus_list, Earlier}
use Rattle.semigroups.proofs.Booleans.{by_value, is_false}
use Rattle.semigroups.proofs.Lists.{nothing, keep_mem, mem_keep, ordered_keep, ordered_map, ordered_parts, mem_split, on_from_split}
use Rattle.semigroups.proofs.Kept.{keep_same, keep_all, keep_apart, on_from_keep}
use Rattle.semigroups.proofs.Sets.{multiplicity_unique}
use Rattle.semigroups.proofs.Elements.{multiplicity_pos, multiplicity_le_genus, set_multiplicity}
use Rattle.semigroups.proofs.ListOrder.{earlier_asym}
use Rattle.semigroups.proofs.GenusList.{WordOfGenus, genus_list_mem, mem_genus_list, genus_list_ordered, kept_all}
use Rattle.windows.specs.Windows.{within, window_list, least_multiplicity, MultiplicityWithin, InWindow, AllInWindow}
use Rattle.windows.proofs.Multiplicities.{earlier_multiplicity, multiplicity_low}

-- the test of a window
abbrev inside : ℕ → ℕ → ℕ → Bool
inside lo hi w = within lo hi (multiplicity w)

module _ (lo hi : ℕ) where
  -- the test decides
  pub within_iff : (m : ℕ) → (within lo hi m ≡ true) ↔ ((lo ≤ m) × (m ≤ hi))
  unfolding within
  within_iff m = (
    λ e. let (p, q) = (and-eq-true_iff (leb lo m) (leb m hi)).0 e in (leb-true lo m p, leb-true m hi q),
    λ (p, q). (and-eq-true_iff (leb lo m) (leb m hi)).1 (le-leb lo m p, le-leb m hi q),
  )

  -- for a word it is a test of the multiplicity of its set
  inside_iff : (w : ℕ) → w < 2 ^ 64 → (inside lo hi w ≡ true) ↔ MultiplicityWithin lo hi (set_of w)
  inside_iff w fits = (
    λ e.
        let (p, q) = (within_iff (multiplicity w)).0 e in
        record { m = multiplicity w; least = set_multiplicity w fits; lowest_le = p; le_highest = q },
    λ h.
        let same = multiplicity_unique (set_of w) h.m (multiplicity w) h.least (set_multiplicity w fits) in
        (within_iff (multiplicity w)).1 (omega (arith, h.lowest_le, h.le_highest)),
  )

-- ---- what a window holds

module _ (g lo hi : ℕ) where
  -- the words of the genus with a multiplicity in it, and no other
  pub window_mem : {w : ℕ} → Memᴰ w (window_list g lo hi) → WordOfGenus g w × (lo ≤ multiplicity w) × (multiplicity w ≤ hi)
  unfolding window_list
  window_mem {w} m =
      let (i, e) = keep_mem (inside lo hi) (genus_list g) m in
      let (p, q) = (within_iff lo hi (multiplicity w)).0 e in
      (genus_list_mem g i, p, q)

  -- and all of them
  pub mem_window : (w : ℕ) → WordOfGenus g w → lo ≤ multiplicity w → multiplicity w ≤ hi → Memᴰ w (window_list g lo hi)
  unfolding window_list
  mem_window w h p q = mem_keep (inside lo hi) (genus_list g) (mem_genus_list g w h) ((within_iff lo hi (multiplicity w)).1 (p, q))

  -- in list order
  pub window_ordered : Ordered Earlier (window_list g lo hi)
  unfolding window_list
  window_ordered = ordered_keep Earlier (inside lo hi) (genus_list g) (genus_list_ordered g)

  -- its first word, or 0 where there is none, is one of 64 bits
  pub first_fits : get_or (window_list g lo hi) 0 0 < 2 ^ 64
  first_fits = of (window_list g lo hi) (λ x m. (window_mem m).0.fits)
    where
      of : (l : List ℕ) → ((x : ℕ) → Memᴰ x l → x < 2 ^ 64) → get_or l 0 0 < 2 ^ 64
      of [] h = omega arith
      of (x ∷ l) h = h x (Memᴰ.head refl)

  -- the window has all semigroups of the genus with a multiplicity in it, as sets of whole numbers, and no other, each once
  pub window_all : g ≤ 32 → AllInWindow g lo hi (window_list g lo hi)
  unfolding window_list
  window_all h = kept_all g h (MultiplicityWithin lo hi) (inside lo hi) (inside_iff lo hi)

  -- a window is empty exactly when no semigroup of the genus has a multiplicity in it
  pub window_empty_iff : g ≤ 32 → (window_list g lo hi ≡ []) ↔ ((S : Set) → InWindow g lo hi S → ⊥)
  window_empty_iff h = (
    λ e S s. let (w, same, m) = (window_all h).all S s in Memᴰ.not-nil (subst (Memᴰ w) e m),
    λ none. nothing (window_list g lo hi) (λ w m. none (set_of w) ((window_all h).only w m)),
  )

  -- a window whose lowest is above its highest, or above what a semigroup of genus g can have, or whose highest is below it, holds none
  pub window_none : (min hi (g + 1) < lo) ⊎ (min hi (g + 1) < least_multiplicity g) → window_list g lo hi ≡ []
  window_none h =
      nothing (window_list g lo hi) (λ v i.
      let (o, low, high) = window_mem i in
      let most = multiplicity_le_genus v o.fits in
      ⊎_elim (λ k. omega (arith, o.gapped)) (λ k. omega (arith, o.gapped, multiplicity_low g v o)) h)

  -- a window from 1 or 0 to g + 1 or more is the genus list
  window_full : lo ≤ 1 → suc g ≤ hi → window_list g lo hi ≡ genus_list g
  unfolding window_list
  window_full h k =
      keep_all (inside lo hi) (genus_list g)
      (λ w m.
      let c = genus_list_mem g m in
      (within_iff lo hi (multiplicity w)).1 (omega (arith, multiplicity_pos w c.fits, multiplicity_le_genus w c.fits)))

-- the window from 1 to 33 is the genus list
pub window_whole : (g : ℕ) → g ≤ 32 → window_list g 1 33 ≡ genus_list g
window_whole g h = window_full g 1 33 (omega arith) (omega arith)

-- ---- the parts of a window

-- along the genus list multiplicities do not rise: it is ordered by any R that holds of v and w where that of w is not the larger
falls : (g : ℕ) (R : ℕ → ℕ → Type 0) → ((v w : ℕ) → multiplicity w ≤ multiplicity v → R v w) → Ordered R (genus_list g)
falls g R h =
    subst (Ordered R) (map-id (genus_list g))
    (ordered_map Earlier R (λ w. w) (genus_list g) (genus_list_ordered g)
    (λ v w m n b. h v w (earlier_multiplicity v w (genus_list_mem g m).fits (genus_list_mem g n).fits b)))

-- with x from lo to m and y not above it, y is not from m + 1 on
within_apart : (lo hi m x y : ℕ) → y ≤ x → within lo m x ≡ true → within (suc m) hi y ≡ false
within_apart lo hi m x y h e = is_false (within (suc m) hi y) (λ f. omega (arith, (within_iff lo m x).0 e, (within_iff (suc m) hi y).0 f))

-- from lo to hi is from m + 1 to hi, or from lo to m
within_either : (lo hi m x : ℕ) → lo ≤ suc m → m ≤ hi → within lo hi x ≡ (within (suc m) hi x || within lo m x)
unfolding within
within_either lo hi m x low high =
    by_value (leb x m)
    (λ e. let h = leb-true x m e in rw (e, le-leb x hi (omega arith), lt-leb (suc m) x (omega arith)))
    (λ e. let h = leb-false x m e in rw (e, le-leb lo x (omega arith), le-leb (suc m) x (omega arith)) (sym (or-false (leb x hi))))

-- a window falls apart at any multiplicity in it: the larger ones come first
pub window_parts : (g lo hi m : ℕ) → lo ≤ suc m → m ≤ hi → window_list g lo hi ≡ window_list g (suc m) hi ++ window_list g lo m
unfolding window_list
window_parts g lo hi m low high =
    keep_apart (inside (suc m) hi) (inside lo m) (inside lo hi) (genus_list g)
    (λ w. within_either lo hi m (multiplicity w) low high)
    (λ w. within_apart lo hi m (multiplicity w) (multiplicity w) (omega arith))
    (falls g _ (λ v w. within_apart lo hi m (multiplicity v) (multiplicity w)))

-- the genus list is the windows of one multiplicity each, in falling order from g + 1 to 1
pub by_multiplicity : (g : ℕ) → genus_list g ≡ joined (λ i. window_list g (suc g - i) (suc g - i)) (run 0 (suc g))
unfolding joined run
by_multiplicity g = sym (window_full g 1 (suc g) (omega arith) (omega arith)) ∙ from 0 (suc g) (omega arith)
  where
    from : (i n : ℕ) → i + n ≡ suc g → window_list g 1 n ≡ joined (λ i. window_list g (suc g - i) (suc g - i)) (run i n)
    from i zero e = window_none g 1 0 (inl (omega arith))
    from i (suc n) e =
        let here : suc n ≡ suc g - i = omega arith in
        window_parts g 1 (suc n) n (omega arith) (omega arith)
        ∙ ap₂ ◌++◌ (ap (λ (k : ℕ). window_list g k k) here) (from (suc i) n (omega arith))

-- a window is one stretch of the genus list
pub one_stretch : (g lo hi : ℕ) → (k l : List ℕ) × (k ++ window_list g lo hi ++ l ≡ genus_list g)
one_stretch g lo hi = split lo
  where
    larger : List ℕ
    larger = window_list g (suc hi) (hi + suc g)

    whole : larger ++ window_list g 0 hi ≡ genus_list g
    whole = sym (window_parts g 0 (hi + suc g) hi (omega arith) (omega arith)) ∙ window_full g 0 (hi + suc g) (omega arith) (omega arith)

    split : (lo : ℕ) → (k l : List ℕ) × (k ++ window_list g lo hi ++ l ≡ genus_list g)
    split zero = (larger, [], append-nil (larger ++ window_list g 0 hi) ∙ whole)
    split (suc m) =
        elim (dec_le m hi) [
          | yes h ↦ (larger, window_list g 0 m, rw (append_assoc, ← window_parts g 0 hi m (omega arith) h) whole)
          | no h ↦ ([], genus_list g, ap (λ (t : List ℕ). t ++ genus_list g) (window_none g (suc m) hi (inl (omega arith))))
        ]

-- ---- a window from a word on

-- no word from x on has a larger multiplicity
from_falls : (g x : ℕ) {y : ℕ} → Memᴰ x (genus_list g) → Memᴰ y (on_from x (genus_list g)) → multiplicity y ≤ multiplicity x
unfolding Ordered
from_falls g x {y} m n =
    let (k, t, e) = mem_split (genus_list g) m in
    let Falling : ℕ → ℕ → Type 0 = λ v w. multiplicity w ≤ multiplicity v in
    let o : Ordered Earlier (k ++ x ∷ t) = rw e (genus_list_ordered g) in
    let here : on_from x (genus_list g) ≡ x ∷ t = ap (on_from x) (sym e) ∙ on_from_split Earlier (λ v b. earlier_asym v v b b) k t x o in
    let falling = (ordered_parts Falling k (x ∷ t) (rw e (falls g Falling (λ v w h. h)))).0.0 y in
    ⊎_elim (λ q. le_of_eq (ap multiplicity q)) falling (Memᴰ.cases_cons (rw here at n))

-- from one of its words on, the window is what the genus list has from it on with a multiplicity of at least the lowest
pub window_on_from : (g lo hi x : ℕ) → Memᴰ x (window_list g lo hi)
    → on_from x (window_list g lo hi) ≡ keep (λ v. leb lo (multiplicity v)) (on_from x (genus_list g))
unfolding window_list within
window_on_from g lo hi x m =
    let (i, e) = keep_mem (inside lo hi) (genus_list g) m in
    let high = ((within_iff lo hi (multiplicity x)).0 e).1 in
    on_from_keep (inside lo hi) x (genus_list g) e
    ∙ keep_same (inside lo hi) (λ v. leb lo (multiplicity v)) (on_from x (genus_list g))
    (λ y n. rw (le-leb (multiplicity y) hi (omega (arith, from_falls g x i n))) (and-true (leb lo (multiplicity y))))
