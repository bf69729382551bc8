-- Laws of gap words: their sets and their gaps, the word of a list of gaps, and the word without an element. Assumes nothing.
use Prim.Native.Nat.{ℕ, zero, suc, ◌+◌, ◌-◌, ◌^◌, ◌≤◌, ◌<◌}
use mathlib.Core.Path.{◌≡◌, refl, sym, ◌∙◌, ap, subst, fun_ext}
use mathlib.Core.Logic.{⊎_elim}
use mathlib.Core.Bool.{true, false, not, not-not}
use mathlib.Core.List.Memᴰ
use mathlib.Core.List.{List, [], ◌∷◌, ◌++◌, Memᴰ}
use native.Mathlib.Omega.{arith}
use native.Mathlib.Nat.{zero-add, lt_of_not-le, le_of_suc-le-suc, lt_irrefl}
use lib.Dec.{eqb, eqb-zero-suc, eqb-suc-suc}
use lib.Bits.{bit_or, or_disjoint}
use lib.ListN.{length}
use borrow.Author.Tests.{not-true}
use Rattle.semigroups.specs.Lists.{every, Ordered}
use Rattle.semigroups.specs.Sets.{Set, without, gaps_to, GapsOf, HasGenus}
use Rattle.semigroups.specs.Words.{bit, set_of, gaps, word_of, genus, closed, child_word}
use Rattle.semigroups.proofs.Booleans.{not_both, is_true, not_or}
use Rattle.semigroups.proofs.Lists.{Rising, rising_nil, rising_tail}
use Rattle.semigroups.proofs.Bits.{bit_past, bit_zero, bits_decide, clear_disjoint, bit_set, bit_set_lt}
use Rattle.semigroups.proofs.Sets.{gaps_without, gaps_unique, same_of_gaps, gap_positive, gaps_to_mem, gaps_to_ordered, gaps_to_all}

-- ---- sets and gaps

-- each number above the width belongs to the set
pub element_past : (w n x : ℕ) → w < 2 ^ n → n < x → set_of w x ≡ true
unfolding set_of
element_past w n zero h k = refl
element_past w n (suc i) h k = ap not (bit_past w n i h (omega arith))

pub gap_pos : (w x : ℕ) → set_of w x ≡ false → 0 < x
unfolding set_of
gap_pos w = gap_positive (set_of w) refl

-- the word 0 has no gap
pub set_zero : (x : ℕ) → set_of 0 x ≡ true
unfolding set_of
set_zero zero = refl
set_zero (suc i) = ap not (bit_zero i)

-- no gap of a word of 64 bits is above 64
pub gap_le_64 : (w x : ℕ) → w < 2 ^ 64 → set_of w x ≡ false → x ≤ 64
gap_le_64 w x h e = le_of_suc-le-suc (lt_of_not-le λ l. not_both (element_past w 64 x h l) e)

-- the gaps of a word of 64 bits are the gaps of its set
pub gaps_of : (w : ℕ) → w < 2 ^ 64 → GapsOf (set_of w) (gaps w)
unfolding gaps set_of
gaps_of w h = gaps_to_all (set_of w) 64 refl (λ x e. gap_le_64 w x h e)

pub gaps_mem : {x : ℕ} (w : ℕ) → Memᴰ x (gaps w) → set_of w x ≡ false
unfolding gaps
gaps_mem w m = (gaps_to_mem (set_of w) 64 m).2

pub mem_gaps : (w x : ℕ) → w < 2 ^ 64 → set_of w x ≡ false → Memᴰ x (gaps w)
mem_gaps w x h e = (gaps_of w h).all x e

-- two words of 64 bits with the same set are equal
pub same_set : (v w : ℕ) → v < 2 ^ 64 → w < 2 ^ 64 → ((x : ℕ) → set_of v x ≡ set_of w x) → v ≡ w
unfolding set_of
same_set v w h k e = bits_decide 64 v w h k λ i l. sym (not-not (bit v i)) ∙ ap not (e (suc i)) ∙ not-not (bit w i)

-- l lists numbers from lo to 64, in order
abbrev pub GapList : ℕ → List ℕ → Type 0
GapList lo = Rising lo 65

-- the gaps of a set up to n, which is at most 64
pub gaps_to_list : (S : Set) (n : ℕ) → n ≤ 64 → GapList 1 (gaps_to S n)
gaps_to_list S n h = record { ordered = gaps_to_ordered S n; within = λ x m. let (low, high, e) = gaps_to_mem S n m in (low, omega arith) }

-- the gaps of a word are from 1 to 64, in order
pub gaps_list : (w : ℕ) → GapList 1 (gaps w)
unfolding gaps
gaps_list w = gaps_to_list (set_of w) 64 (omega arith)

-- they rise from above 0
pub gaps_rise : (w : ℕ) → Ordered ◌<◌ (0 ∷ gaps w)
unfolding Ordered
gaps_rise w = (λ x m. ((gaps_list w).within x m).0, (gaps_list w).ordered)

-- the genus of a word is the genus of its set
pub word_genus : (w : ℕ) → w < 2 ^ 64 → HasGenus (set_of w) (genus w)
unfolding genus
word_genus w h = (gaps w, gaps_of w h, refl)

-- ---- the word without an element

-- with bit k set, which did not stand, the set is without k + 1
set_without : (w k : ℕ) → bit w k ≡ false → (x : ℕ) → set_of (w + 2 ^ k) x ≡ without (suc k) (set_of w) x
unfolding set_of
set_without w k h zero = rw eqb-zero-suc
set_without w k h (suc i) = rw (eqb-suc-suc, bit_set w k i h) (not_or (eqb i k) (bit w i))

module _ (w e : ℕ) (positive : 0 < e) (element : set_of w e ≡ true) where
  same : suc (e - 1) ≡ e
  same = omega arith

  clear : bit w (e - 1) ≡ false
  unfolding set_of
  clear = not-true (bit w (e - 1)) (ap (set_of w) same ∙ element)

  -- its set is that of w without e
  pub child_set : (x : ℕ) → set_of (child_word w e) x ≡ without e (set_of w) x
  unfolding child_word
  child_set x = set_without w (e - 1) clear x ∙ ap (λ (y : ℕ). without y (set_of w) x) same

  -- it has the bit of e besides those of w
  pub child_or : bit_or w (2 ^ (e - 1)) ≡ child_word w e
  unfolding child_word
  child_or = or_disjoint w (2 ^ (e - 1)) (clear_disjoint w (e - 1) clear)

  -- it is a word of 64 bits, where e is at most 64
  pub child_lt : w < 2 ^ 64 → e ≤ 64 → child_word w e < 2 ^ 64
  unfolding child_word
  child_lt fits h = bit_set_lt 64 w (e - 1) fits (omega arith) clear

-- ---- the word of a list of gaps

pub word_append : (k l : List ℕ) → word_of (k ++ l) ≡ word_of k + word_of l
unfolding word_of
word_append [] l = sym (zero-add (word_of l))
word_append (x ∷ k) l = omega (arith, word_append k l)

-- a number below all gaps is an element
front_in : {S : Set} (y : ℕ) (l : List ℕ) → Ordered ◌<◌ (y ∷ l) → GapsOf S l → S y ≡ true
unfolding Ordered
front_in {S} y l o g = is_true (S y) (λ e. lt_irrefl _ (o.0 y (g.all y e)))

-- the word of a list in order lists its gaps
pub word_gaps : {lo : ℕ} (l : List ℕ) → GapList (suc lo) l → GapsOf (set_of (word_of l)) l
unfolding word_of Ordered child_word
word_gaps [] g = record { rising = tt; missed = λ x m. absurd (Memᴰ.not-nil m); all = λ x e. absurd (not_both (set_zero x) e) }
word_gaps (y ∷ l) g =
    let rest = word_gaps l (rising_tail g) in
    let in-set = child_set (word_of l) y (omega (arith, (g.within y (Memᴰ.head refl)).0)) (front_in y l g.ordered rest) in
    subst (λ (S : Set). GapsOf S (y ∷ l)) (sym (fun_ext in-set))
    (gaps_without (set_of (word_of l)) y l (y ∷ l) rest g.ordered (λ x. (Memᴰ.cases_cons, ⊎_elim Memᴰ.head Memᴰ.tail)))

pub word_lt : {lo : ℕ} (l : List ℕ) → GapList (suc lo) l → word_of l < 2 ^ 64
unfolding word_of child_word
word_lt [] g = omega arith
word_lt (y ∷ l) g =
    let (h, k) = g.within y (Memᴰ.head refl) in
    child_lt (word_of l) y (omega arith) (front_in y l g.ordered (word_gaps l (rising_tail g))) (word_lt l (rising_tail g)) (omega arith)

-- where no gap of S is above 64, the word of its gaps has the set S
pub word_of_set : (S : Set) → S 0 ≡ true → ((x : ℕ) → S x ≡ false → x ≤ 64)
    → (word_of (gaps_to S 64) < 2 ^ 64) × ((x : ℕ) → set_of (word_of (gaps_to S 64)) x ≡ S x)
word_of_set S zero_in within =
    let listed = gaps_to_list S 64 (omega arith) in (
      word_lt (gaps_to S 64) listed,
      same_of_gaps (set_of (word_of (gaps_to S 64))) S (gaps_to S 64) (word_gaps (gaps_to S 64) listed) (gaps_to_all S 64 zero_in within),
    )

pub gaps_of_word : (l : List ℕ) → GapList 1 l → gaps (word_of l) ≡ l
gaps_of_word l g = gaps_unique (set_of (word_of l)) (gaps (word_of l)) l (gaps_of (word_of l) (word_lt l g)) (word_gaps l g)

-- a word of 64 bits is the word of its gaps
pub word_of_gaps : (w : ℕ) → w < 2 ^ 64 → word_of (gaps w) ≡ w
word_of_gaps w h =
    same_set (word_of (gaps w)) w (word_lt (gaps w) (gaps_list w)) h
    (same_of_gaps (set_of (word_of (gaps w))) (set_of w) (gaps w) (word_gaps (gaps w) (gaps_list w)) (gaps_of w h))

-- two words of 64 bits with the same gaps are equal
pub same_gaps : (v w : ℕ) → v < 2 ^ 64 → w < 2 ^ 64 → gaps v ≡ gaps w → v ≡ w
same_gaps v w h k e = sym (word_of_gaps v h) ∙ ap word_of e ∙ word_of_gaps w k

pub gaps_zero : gaps 0 ≡ []
unfolding word_of
gaps_zero = gaps_of_word [] rising_nil

pub genus_zero : genus 0 ≡ 0
unfolding genus
genus_zero = ap length gaps_zero

pub closed_zero : closed 0 ≡ true
unfolding closed every
closed_zero = ap (every _) gaps_zero
