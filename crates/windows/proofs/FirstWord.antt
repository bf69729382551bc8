-- The first word of a window: its gaps are the first numbers that the window's largest multiplicity does not divide. Assumes nothing.
use Prim.Native.Nat.{ℕ, zero, suc, ◌+◌, ◌%◌, ◌≤◌, ◌<◌, min}
use mathlib.Core.Path.{◌≡◌, refl, sym, ◌∙◌, ap, subst}
use mathlib.Core.Logic.{◌⊎◌, ⊎_elim}
use mathlib.Core.Bool.{Bool, true, not}
use mathlib.Core.List.{List, [], ◌∷◌, Memᴰ}
use native.Mathlib.Omega.{arith}
use native.Mathlib.Nat.{le_antisymm, lt_of_not-le}
use lib.ListN.{length, take}
use borrow.Author.Tests.{ne_eqb, le-leb, lt-leb}
use mathlib.Core.Option.{none, some}
use Rattle.semigroups.specs.Lists.{run, keep}
use Rattle.semigroups.specs.Words.{gaps, genus, word_of}
use Rattle.semigroups.specs.Elements.{multiplicity}
use Rattle.semigroups.specs.GenusList.{Before, Earlier}
use Rattle.semigroups.proofs.Booleans.{not_both, by_value}
use Rattle.semigroups.proofs.Lists.{keep_in, keep_out, Rising, rising_cons, rising_tail, rising_from}
use Rattle.semigroups.proofs.Kept.{ordered_first}
use Rattle.semigroups.proofs.Words.{gaps_list, gaps_mem, gaps_of_word}
use Rattle.semigroups.proofs.Closure.{gap_no_multiple}
use Rattle.semigroups.proofs.Elements.{multiplicity_le_genus}
use Rattle.answers.specs.Answers.{refused, given}
use Rattle.windows.specs.Windows.{window_list, least_multiplicity, not_divided}
use Rattle.windows.specs.Answers.{first_word_of}
use Rattle.windows.proofs.Multiplicities.{earlier_multiplicity}
use Rattle.windows.proofs.Windows.{window_mem, mem_window, window_ordered, window_none}
use Rattle.windows.proofs.NotDivided.{undivided, undivided_to, divided_list, divided_fits, divided_genus, divided_multiplicity, enough_for}

-- no rising list of numbers that pass a test comes before as many of the first that pass
first_kept : (p : ℕ → Bool) {hi : ℕ} (a n : ℕ) (l : List ℕ) → Rising a hi l → ((x : ℕ) → Memᴰ x l → p x ≡ true)
    → Before l (take (length l) (keep p (run a n))) → ⊥
unfolding Before run keep
first_kept p a n [] r h b = b
first_kept p a zero (x ∷ l) r h b = b
first_kept p a (suc n) (x ∷ l) r h b =
    let (low, high) = r.within x (Memᴰ.head refl) in
    by_value (p a)
    (λ e.
    ⊎_elim (λ k. omega arith)
    (λ (k, c). first_kept p (suc a) n l (rising_from (omega arith) (rising_tail r)) (λ y m. h y (Memᴰ.tail m)) c)
    (subst (λ (k : List ℕ). Before (x ∷ l) (take (length (x ∷ l)) k)) (keep_in p a (run (suc a) n) e) b))
    (λ e.
    first_kept p (suc a) n (x ∷ l) (rising_cons (above low (λ k. not_both (ap p k ∙ h x (Memᴰ.head refl)) e)) high (rising_tail r)) h
    (subst (λ (k : List ℕ). Before (x ∷ l) (take (length (x ∷ l)) k)) (keep_out p a (run (suc a) n) e) b))
  where
    above : {y z : ℕ} → y ≤ z → (y ≡ z → ⊥) → y < z
    above h k = lt_of_not-le (λ l. k (le_antisymm h l))

-- the first word of a window: of the words with its largest multiplicity m, none has gaps before the first numbers that m does not divide
pub window_first : (g lo hi m : ℕ) → g ≤ 32 → m ≡ min hi (g + 1) → lo ≤ m → least_multiplicity g ≤ m → (l : List ℕ) × (window_list g lo hi ≡ word_of (not_divided g m) ∷ l)
unfolding not_divided genus
window_first g lo hi m h e low two =
    let (k, enough) = enough_for g m h two (omega arith) in
    let w : ℕ = word_of (not_divided g m) in
    let same = divided_multiplicity g m k enough in
    ordered_first Earlier (window_list g lo hi) (window_ordered g lo hi)
    (mem_window g lo hi w (divided_genus g m k enough) (omega arith) (omega arith))
    (λ v i b.
    let (o, from, to) = window_mem g lo hi i in
    let most : multiplicity v ≡ m = omega (arith, multiplicity_le_genus v o.fits, o.gapped, earlier_multiplicity v w o.fits (divided_fits g m k enough) b) in
    first_kept (undivided m) 1 64 (gaps v) (gaps_list v) (λ x j. ap not (ne_eqb (x % m) 0 (λ z. gap_no_multiple v o.fits o.closed x (gaps_mem v j) (ap (λ (n : ℕ). x % n) most ∙ z))))
    (subst (Before (gaps v)) (gaps_of_word (not_divided g m) (divided_list g m k enough) ∙ ap (λ (n : ℕ). take n (undivided_to m 64)) (sym o.gapped)) b))

-- ---- what the call answers

-- refused above genus 32
pub first_refused : (g lo hi : ℕ) → 32 < g → first_word_of g lo hi ≡ refused 3
unfolding first_word_of
first_refused g lo hi h = simp (lt-leb g 32 h)

-- a window that holds none
pub first_none : (g lo hi : ℕ) → g ≤ 32 → (min hi (g + 1) < lo) ⊎ (min hi (g + 1) < least_multiplicity g) → first_word_of g lo hi ≡ given none
unfolding first_word_of
first_none g lo hi h k = simp (le-leb g 32 h, window_none g lo hi k)

-- a window that holds a word
pub first_given : (g lo hi m : ℕ) → g ≤ 32 → m ≡ min hi (g + 1) → lo ≤ m → least_multiplicity g ≤ m
    → first_word_of g lo hi ≡ given (some (word_of (not_divided g m)))
unfolding first_word_of
first_given g lo hi m h e low two = let (l, s) = window_first g lo hi m h e low two in simp (le-leb g 32 h, s)

-- of genus 0 that is the word 0
pub no_gaps : (m : ℕ) → word_of (not_divided 0 m) ≡ 0
unfolding not_divided word_of
no_gaps m = refl
