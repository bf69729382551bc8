-- The genus list of g holds the words of the numerical semigroups of genus g, each once and in list order. Assumes nothing.
use Prim.Native.Nat.{ℕ, zero, suc, ◌-◌, ◌^◌, ◌≤◌, ◌<◌}
use mathlib.Core.Path.{◌≡◌, refl, sym, ◌∙◌, ap, subst, subst₂, fun_ext}
use mathlib.Core.Logic.{◌≢◌, ◌↔◌, inl}
use mathlib.Core.Bool.{Bool, true}
use mathlib.Core.List.Memᴰ
use mathlib.Core.List.{List, [], ◌∷◌, map, Memᴰ}
use native.Mathlib.Omega.{arith}
use native.Mathlib.Nat.{ℕ_set}
use lib.ListN.{length}
use Rattle.semigroups.specs.Lists.{run, keep, Ordered}
use Rattle.semigroups.specs.Sets.{Set, NumericalSemigroup, GapsOf, HasGenus}
use Rattle.semigroups.specs.Words.{set_of, gaps, genus, word_of, closed}
use Rattle.semigroups.specs.GenusList.{risings, genus_list, Before, Earlier, AllOf, AllOfGenus}
use Rattle.semigroups.proofs.Lists.{Rising, rising_nil, rising_cons, rising_tail, run_mem, mem_run, keep_mem, mem_keep, joined_mem, mem_joined, ordered_run, ordered_one, ordered_keep, ordered_joined, ordered_map, ordered_once, ordered_unique}
use Rattle.semigroups.proofs.Sets.{gap_positive, gaps_unique, same_of_gaps}
use Rattle.semigroups.proofs.Words.{GapList, gaps_of, word_genus, word_lt, same_set, word_gaps, gaps_of_word, gaps_list, word_of_gaps, genus_zero}
use Rattle.semigroups.proofs.ListOrder.{ordered_behind, earlier_asym}
use Rattle.semigroups.proofs.Counting.{gap_bound}
use Rattle.semigroups.proofs.Closure.{closed_iff, closed_semigroup}

-- ---- risings r lo hi holds the lists of r numbers from lo to hi, in order

-- l lists r numbers from lo to hi, in order
abbrev pub Chosen : ℕ → ℕ → ℕ → List ℕ → Type 0
Chosen r lo hi l = Rising lo (suc hi) l × (length l ≡ r)

-- it holds only these
pub risings_mem : (r lo hi : ℕ) {l : List ℕ} → Memᴰ l (risings r lo hi) → Chosen r lo hi l
unfolding risings
risings_mem zero lo hi m = subst (Chosen 0 lo hi) (sym (Memᴰ.eq_of_singleton m)) (rising_nil, refl)
risings_mem (suc r) lo hi m =
    let (x, i, k) = joined_mem _ (run lo (suc hi - lo)) m in
    let (t, j, e) = Memᴰ.of_map (λ t. x ∷ t) (risings r (suc x) hi) k in
    let b = run_mem lo (suc hi - lo) i in
    let h = risings_mem r (suc x) hi j in
    subst (Chosen (suc r) lo hi) e (rising_cons b.0 (omega arith) h.0, ap suc h.1)

-- and all of them
pub mem_risings : (r lo hi : ℕ) (l : List ℕ) → Chosen r lo hi l → Memᴰ l (risings r lo hi)
unfolding risings
mem_risings zero lo hi [] c = Memᴰ.head refl
mem_risings zero lo hi (x ∷ l) c = absurd (omega arith)
mem_risings (suc r) lo hi [] c = absurd (omega arith)
mem_risings (suc r) lo hi (x ∷ l) c =
    let b = c.0.within x (Memᴰ.head refl) in
    mem_joined _ (run lo (suc hi - lo)) (mem_run lo (suc hi - lo) b.0 (omega arith))
    (Memᴰ.map (λ t. x ∷ t) (mem_risings r (suc x) hi l (rising_tail c.0, omega arith)))

-- ---- what the genus list holds

-- a word of 64 bits whose set is closed, with g gaps
pub record WordOfGenus (g w : ℕ) : Type 0 where
  pub fits : w < 2 ^ 64
  pub closed : closed w ≡ true
  pub gapped : genus w ≡ g

-- of genus 1 and up it is not the word 0
pub word_nonzero : {g w : ℕ} → WordOfGenus g w → 1 ≤ g → w ≢ 0
word_nonzero o h e = omega (arith, o.gapped, ap genus e, genus_zero)

-- the list holds just these words
pub genus_list_mem : (g : ℕ) {w : ℕ} → Memᴰ w (genus_list g) → WordOfGenus g w
unfolding genus_list genus
genus_list_mem g {w} m =
    let (k, c) = keep_mem closed (map word_of (risings g 1 64)) m in
    let (l, i, e) = Memᴰ.of_map word_of (risings g 1 64) k in
    let h = risings_mem g 1 64 i in
    record {
      fits = subst (λ (v : ℕ). v < 2 ^ 64) e (word_lt l h.0);
      closed = c;
      gapped = subst (λ (v : ℕ). length (gaps v) ≡ g) e (ap length (gaps_of_word l h.0) ∙ h.1);
    }

pub mem_genus_list : (g w : ℕ) → WordOfGenus g w → Memᴰ w (genus_list g)
unfolding genus_list genus
mem_genus_list g w h =
    mem_keep closed (map word_of (risings g 1 64))
    (Memᴰ.cast (sym (word_of_gaps w h.fits)) (Memᴰ.map word_of (mem_risings g 1 64 (gaps w) (gaps_list w, h.gapped))))
    h.closed

-- each word of the list is a 64-bit word of a numerical semigroup of genus g
pub genus_list_sound : (g : ℕ) {w : ℕ} → Memᴰ w (genus_list g) → (w < 2 ^ 64) × NumericalSemigroup (set_of w) × HasGenus (set_of w) g
genus_list_sound g {w} m =
    let h = genus_list_mem g m in
    (h.fits, closed_semigroup w h.fits h.closed, subst (HasGenus (set_of w)) h.gapped (word_genus w h.fits))

-- each 64-bit word of a numerical semigroup of genus g is in the list
pub genus_list_word : (g w : ℕ) → w < 2 ^ 64 → NumericalSemigroup (set_of w) → HasGenus (set_of w) g → Memᴰ w (genus_list g)
unfolding genus
genus_list_word g w h s (l, o, e) = mem_genus_list g w record {
  fits = h;
  closed = (closed_iff w h).1 s.closed;
  gapped = ap length (gaps_unique (set_of w) (gaps w) l (gaps_of w h) o) ∙ e;
}

-- the gaps of a numerical semigroup of genus 32 at most are from 1 to 64
gaps_within : (S : Set) (l : List ℕ) (g : ℕ) → NumericalSemigroup S → GapsOf S l → length l ≡ g → g ≤ 32 → GapList 1 l
gaps_within S l g s o e h = record {
  ordered = o.rising;
  within = λ x m. (gap_positive S s.zero_in x (o.missed x m), let b = gap_bound S l g s o e x m in omega arith);
}

-- each numerical semigroup of genus 32 at most is the set of a word of the list
pub genus_list_complete : (S : Set) (g : ℕ) → NumericalSemigroup S → HasGenus S g → g ≤ 32
    → (w : ℕ) × (w < 2 ^ 64) × ((x : ℕ) → set_of w x ≡ S x) × Memᴰ w (genus_list g)
genus_list_complete S g s (l, o, e) h =
    let w = word_of l in
    let i = gaps_within S l g s o e h in
    let same = same_of_gaps (set_of w) S l (word_gaps l i) o in
    (w, word_lt l i, same, genus_list_word g w (word_lt l i) (subst NumericalSemigroup (sym (fun_ext same)) s) (l, word_gaps l i, e))

-- ---- the order of the genus list

-- rising lists are in list order
pub risings_ordered : (r lo hi : ℕ) → Ordered Before (risings r lo hi)
unfolding risings Before
risings_ordered zero lo hi = ordered_one Before []
risings_ordered (suc r) lo hi =
    ordered_joined ◌<◌ Before _ (run lo (suc hi - lo)) (ordered_run lo (suc hi - lo))
    (λ x m. ordered_behind x (risings r (suc x) hi) (risings_ordered r (suc x) hi))
    (λ x y i j h k l m n. first h (Memᴰ.of_map (λ t. x ∷ t) (risings r (suc x) hi) m) (Memᴰ.of_map (λ t. y ∷ t) (risings r (suc y) hi) n))
  where
    first : {x y : ℕ} {k l : List ℕ} → x < y → (t : List ℕ) × Memᴰ t (risings r (suc x) hi) × ((x ∷ t) ≡ k)
        → (t : List ℕ) × Memᴰ t (risings r (suc y) hi) × ((y ∷ t) ≡ l) → Before k l
    first {x} {y} h (t, m, e) (u, n, f) = subst₂ Before e f (inl h)

-- the genus list is in list order, each word before all later ones
pub genus_list_ordered : (g : ℕ) → Ordered Earlier (genus_list g)
unfolding genus_list
genus_list_ordered g =
    ordered_keep Earlier closed (map word_of (risings g 1 64))
    (ordered_map Before Earlier word_of (risings g 1 64) (risings_ordered g 1 64)
    (λ k l m n b. subst₂ Before (sym (gaps_of_word k (risings_mem g 1 64 m).0)) (sym (gaps_of_word l (risings_mem g 1 64 n).0)) b))

-- so it holds each word once
pub genus_list_once : (g w : ℕ) (m k : Memᴰ w (genus_list g)) → m ≡ k
genus_list_once g = ordered_once Earlier earlier_asym ℕ_set (genus_list g) (genus_list_ordered g)

-- ---- the genus list is the list of all numerical semigroups of its genus

pub genus_list_all : (g : ℕ) → g ≤ 32 → AllOfGenus g (genus_list g)
genus_list_all g h = record {
  fits = λ w m. (genus_list_sound g m).0;
  only = λ w m. let (fits, s, o) = genus_list_sound g m in (s, o);
  all = λ S (s, o). let (w, fits, same, m) = genus_list_complete S g s o h in (w, same, m);
  ordered = genus_list_ordered g;
  once = genus_list_once g;
}

-- a list of all sets with P has the word of each
all_mem : {P : Set → Type 0} {l : List ℕ} → AllOf P l → (w : ℕ) → w < 2 ^ 64 → P (set_of w) → Memᴰ w l
all_mem a w fits h =
    let (v, same, n) = a.all (set_of w) h in
    Memᴰ.cast (same_set w v fits (a.fits v n) (λ x. sym (same x))) n

-- so that there is one such list
pub all_unique : (P : Set → Type 0) (k l : List ℕ) → AllOf P k → AllOf P l → k ≡ l
all_unique P k l a b =
    ordered_unique Earlier earlier_asym k l a.ordered b.ordered
    (λ w m. all_mem b w (a.fits w m) (a.only w m))
    (λ w m. all_mem a w (b.fits w m) (b.only w m))

-- and any list of all semigroups of the genus is the genus list
pub genus_list_unique : (g : ℕ) (l : List ℕ) → AllOfGenus g l → l ≡ genus_list g
genus_list_unique g l a =
    ordered_unique Earlier earlier_asym l (genus_list g) a.ordered (genus_list_ordered g)
    (λ w m. let (s, o) = a.only w m in genus_list_word g w (a.fits w m) s o)
    (λ w m. let (fits, s, o) = genus_list_sound g m in all_mem a w fits (s, o))

-- those of its words that pass a test of what P says are the list of all that have P too
pub kept_all : (g : ℕ) → g ≤ 32 → (P : Set → Type 0) (p : ℕ → Bool) → ((w : ℕ) → w < 2 ^ 64 → (p w ≡ true) ↔ P (set_of w))
    → AllOf (λ S. NumericalSemigroup S × HasGenus S g × P S) (keep p (genus_list g))
kept_all g h P p test =
    let ordered = ordered_keep Earlier p (genus_list g) (genus_list_ordered g) in
    record {
      fits = λ w m. (genus_list_sound g (keep_mem p (genus_list g) m).0).0;
      only = λ w m.
          let (i, t) = keep_mem p (genus_list g) m in
          let (fits, s, o) = genus_list_sound g i in
          (s, o, (test w fits).0 t);
      all = λ S (s, o, e).
          let (w, fits, same, i) = genus_list_complete S g s o h in
          (w, same, mem_keep p (genus_list g) i ((test w fits).1 (subst P (sym (fun_ext same)) e)));
      ordered = ordered;
      once = ordered_once Earlier earlier_asym ℕ_set (keep p (genus_list g)) ordered;
    }
