-- How many numbers below a bound pass a test; and by counting, that the gaps of a numerical semigroup of genus g are below 2 g.
-- Assumes nothing.
use Prim.Native.Nat.{ℕ, zero, suc, ◌+◌, ◌*◌, ◌-◌, ◌≤◌, ◌<◌}
use mathlib.Core.Path.{◌≡◌, refl, sym, ◌∙◌, ap, ap₂, subst}
use mathlib.Core.Logic.{◌≢◌, ⊎_elim}
use mathlib.Core.Bool.{Bool, true, false, not, false≢true}
use mathlib.Core.List.Memᴰ
use mathlib.Core.List.{List, [], ◌∷◌, ◌++◌, Memᴰ}
use native.Mathlib.Omega.{arith}
use native.Mathlib.Nat.{suc-sub-suc, sub-zero, le_dest, lt_of_not-le, le_antisymm, eq-or-lt_of_le, le_of_suc-le-suc}
use native.Mathlib.Decide.{ℕ_discrete}
use lib.ListN.{length, get_or, length-append}
use lib.Seq.{get_or-append_seam}
use borrow.Author.Tests.{not-true}
use Rattle.semigroups.specs.Lists.{run, keep, Ordered}
use Rattle.semigroups.specs.Sets.{Set, without, gaps_to, ClosedUnderAddition, NumericalSemigroup, GapsOf}
use Rattle.semigroups.specs.Words.{digit}
use Rattle.semigroups.proofs.Booleans.{not_both, is_false, by_value}
use Rattle.semigroups.proofs.Lists.{mem_run, run_below, run_last, mem_keep, keep_in, keep_out, keep_append, rises, mem_split}
use Rattle.semigroups.proofs.Bits.{digit_lt}
use Rattle.semigroups.proofs.Sets.{in_without, without_in}

-- how many numbers below n pass p
unfoldable pub count_below : (ℕ → Bool) → ℕ → ℕ
count_below p zero = 0
count_below p (suc n) = digit (p n) + count_below p n

-- ---- one test

module _ (p : ℕ → Bool) where
  pub count_in : (n : ℕ) → p n ≡ true → count_below p (suc n) ≡ suc (count_below p n)
  unfolding count_below digit
  count_in n e = rw e (omega arith)

  pub count_out : (n : ℕ) → p n ≡ false → count_below p (suc n) ≡ count_below p n
  unfolding count_below digit
  count_out n e = rw e (omega arith)

  -- those below n, listed
  pub length_kept : (n : ℕ) → length (keep p (run 0 n)) ≡ count_below p n
  unfolding count_below run keep
  length_kept zero = refl
  length_kept (suc n) =
      let last : keep p (run 0 (suc n)) ≡ keep p (run 0 n) ++ keep p (n ∷ []) =
      ap (keep p) (run_last n) ∙ keep_append p (run 0 n) (n ∷ []) in
      let sum : length (keep p (run 0 (suc n))) ≡ length (keep p (run 0 n)) + length (keep p (n ∷ [])) =
      ap length last ∙ length-append (keep p (run 0 n)) (keep p (n ∷ [])) in
      by_value (p n)
      (λ e. omega (arith, length_kept n, count_in n e, ap length (keep_in p n [] e)))
      (λ e. omega (arith, length_kept n, count_out n e, ap length (keep_out p n [] e)))

  -- a larger bound counts no less
  pub count_up : {x y : ℕ} → x ≤ y → count_below p x ≤ count_below p y
  unfolding count_below
  count_up h = rises (count_below p) (λ n. omega arith) h

  -- of two elements the smaller has fewer below it
  pub count_lt : (x y : ℕ) → p x ≡ true → x < y → count_below p x < count_below p y
  count_lt x y e h = omega (arith, count_in x e, count_up h)

  pub count_le : (x y : ℕ) → p y ≡ true → count_below p x ≤ count_below p y → x ≤ y
  count_le x y e h = le_of_suc-le-suc (lt_of_not-le (λ l. omega (arith, count_lt y x e l)))

  pub count_inj : (x y : ℕ) → p x ≡ true → p y ≡ true → count_below p x ≡ count_below p y → x ≡ y
  count_inj x y e f h = le_antisymm (count_le x y f (omega arith)) (count_le y x e (omega arith))

  -- each count below that of n is that of one element below n
  pub of_count : (n i : ℕ) → i < count_below p n → (x : ℕ) × (x < n) × (p x ≡ true) × (count_below p x ≡ i)
  unfolding count_below
  of_count zero i h = absurd (omega arith)
  of_count (suc n) i h =
      let found : i < count_below p n → (x : ℕ) × (x < suc n) × (p x ≡ true) × (count_below p x ≡ i) =
      λ l. let (x, m, e, r) = of_count n i l in (x, omega arith, e, r) in
      by_value (p n)
      (λ e. ⊎_elim (λ q. (n, omega arith, e, sym q)) found (eq-or-lt_of_le (omega (arith, count_in n e))))
      (λ e. found (omega (arith, count_out n e)))

  -- the list of those below n has x at the index that counts those below x
  pub at_count : (n x : ℕ) → x < n → p x ≡ true → get_or (keep p (run 0 n)) (count_below p x) 0 ≡ x
  unfolding run
  at_count n x h e =
      let (r, q) = le_dest h in
      let parts : n ≡ x + suc r = omega arith in
      let split : keep p (run 0 n) ≡ keep p (run 0 x) ++ x ∷ keep p (run (suc x) r) =
      ap (keep p) (ap (run 0) parts ∙ run_below x (suc r)) ∙ keep_append p (run 0 x) (x ∷ run (suc x) r)
      ∙ ap (λ (l : List ℕ). keep p (run 0 x) ++ l) (keep_in p x (run (suc x) r) e) in
      ap₂ (λ (l : List ℕ) (i : ℕ). get_or l i 0) split (sym (length_kept x)) ∙ get_or-append_seam (keep p (run 0 x)) x (keep p (run (suc x) r)) 0

  -- where n passes there is a least number that does: the one with none below it
  pub least_of : (n : ℕ) → p n ≡ true → (k : ℕ) × (k ≤ n) × (p k ≡ true) × ((j : ℕ) → p j ≡ true → k ≤ j)
  least_of n e =
      let (k, low, f, none) = of_count (suc n) 0 (omega (arith, count_in n e)) in
      (k, omega arith, f, λ j g. count_le k j g (omega arith))

-- ---- two tests

digit_mono : (a b : Bool) → (a ≡ true → b ≡ true) → digit a ≤ digit b
unfolding digit
digit_mono true true h = omega arith
digit_mono true false h = absurd (false≢true (h refl))
digit_mono false b h = omega arith

digit_not : (b : Bool) → digit b + digit (not b) ≡ 1
unfolding digit
digit_not true = refl
digit_not false = refl

-- a test that passes where another does counts no less
pub count_mono : (p q : ℕ → Bool) (n : ℕ) → ((i : ℕ) → i < n → p i ≡ true → q i ≡ true) → count_below p n ≤ count_below q n
unfolding count_below
count_mono p q zero h = omega arith
count_mono p q (suc n) h =
    let a = count_mono p q n (λ i k. h i (omega arith)) in
    let b = digit_mono (p n) (q n) (h n (omega arith)) in
    omega arith

-- tests that agree count the same
pub count_same : (p q : ℕ → Bool) (n : ℕ) → ((i : ℕ) → p i ≡ q i) → count_below p n ≡ count_below q n
unfolding count_below
count_same p q zero e = refl
count_same p q (suc n) e = ap₂ (λ (b : Bool) (k : ℕ). digit b + k) (e n) (count_same p q n e)

-- those that pass and those that fail are all
pub count_not : (p : ℕ → Bool) (n : ℕ) → count_below p n + count_below (λ i. not (p i)) n ≡ n
unfolding count_below
count_not p zero = refl
count_not p (suc n) = let a = count_not p n in let b = digit_not (p n) in omega arith

-- the count with the first number apart
pub count_first : (p : ℕ → Bool) (n : ℕ) → count_below p (suc n) ≡ digit (p 0) + count_below (λ i. p (suc i)) n
unfolding count_below
count_first p zero = refl
count_first p (suc n) = let a = count_first p n in omega arith

-- the range counted from its other end, with its first number apart
count_reverse_first : (p : ℕ → Bool) (x : ℕ)
    → count_below (λ i. p (suc x - i)) (suc (suc x)) ≡ digit (p (suc x)) + count_below (λ i. p (x - i)) (suc x)
count_reverse_first p x = count_first (λ i. p (suc x - i)) (suc x) ∙ simp (suc-sub-suc, sub-zero)

-- the range counted from its other end
pub count_reverse : (p : ℕ → Bool) (x : ℕ) → count_below (λ i. p (x - i)) (suc x) ≡ count_below p (suc x)
unfolding count_below
count_reverse p zero = refl
count_reverse p (suc x) =
    count_reverse_first p x ∙ ap (λ n. digit (p (suc x)) + n) (count_reverse p x)

-- one number less takes at most 1 off the count
count_without : (x : ℕ) (p : ℕ → Bool) (n : ℕ) → count_below p n ≤ suc (count_below (without x p) n)
unfolding count_below digit
count_without x p zero = omega arith
count_without x p (suc n) = go (ℕ_discrete n x) (count_without x p n)
  where
    go : Dec (n ≡ x) → count_below p n ≤ suc (count_below (without x p) n) → count_below p (suc n) ≤ suc (count_below (without x p) (suc n))
    go (yes e) h =
        let a = count_mono p (without x p) n (λ i k. in_without x p (omega arith)) in
        let b = digit_lt (p n) in
        omega arith
    go (no e) h = let b = digit_mono (p n) (without x p n) (in_without x p e) in omega arith

-- each of l is sent into k, and no two to the same: l is not longer than k
pub length_le_injected : {A B : Type 0} (f : A → B) (R : A → A → Type 0) (l : List A) (k : List B) → Ordered R l
    → ((x y : A) → Memᴰ x l → Memᴰ y l → R x y → f x ≡ f y → ⊥)
    → ((x : A) → Memᴰ x l → Memᴰ (f x) k) → length l ≤ length k
unfolding Ordered
length_le_injected f R [] k o differ held = omega arith
length_le_injected f R (x ∷ l) k o differ held =
    let (s, t, e) = mem_split k (held x (Memᴰ.head refl)) in
    omega (
      arith,
      ap length e,
      length-append s (f x ∷ t),
      length-append s t,
      length_le_injected f R l (s ++ t) o.1 (λ y z m n. differ y z (Memᴰ.tail m) (Memᴰ.tail n))
          (λ y m.
          ⊎_elim (Memᴰ.append_left t)
          (λ n.
          ⊎_elim (λ q. absurd (differ x y (Memᴰ.head refl) (Memᴰ.tail m) (o.0 y m) (sym q))) (Memᴰ.append_right s)
          (Memᴰ.cases_cons n))
          (Memᴰ.append_cases s (subst (Memᴰ (f y)) (sym e) (held y (Memᴰ.tail m))))),
    )

-- no list of different numbers below n that pass is longer than their number
pub length_le_count : (p : ℕ → Bool) (n : ℕ) (l : List ℕ) → Ordered ◌≢◌ l → ((x : ℕ) → Memᴰ x l → (x < n) × (p x ≡ true)) → length l ≤ count_below p n
length_le_count p n l o h =
    let held : (x : ℕ) → Memᴰ x l → Memᴰ x (keep p (run 0 n)) =
    λ x m. let (low, e) = h x m in mem_keep p (run 0 n) (mem_run 0 n (omega arith) (omega arith)) e in
    omega (arith, length_kept p n, length_le_injected (λ x. x) ◌≢◌ l (keep p (run 0 n)) o (λ x y m k differ. differ) held)

-- none passes
pub count_none : (p : ℕ → Bool) (n : ℕ) → ((i : ℕ) → p i ≡ true → ⊥) → count_below p n ≡ 0
unfolding count_below digit
count_none p zero h = refl
count_none p (suc n) h =
    let a = count_none p n h in
    let b : digit (p n) ≤ 0 = digit_mono (p n) false (λ t. absurd (h n t)) in
    omega arith

-- no more numbers pass than a list has that holds them all
pub count_le_length : (p : ℕ → Bool) (n : ℕ) (l : List ℕ) → ((i : ℕ) → p i ≡ true → Memᴰ i l) → count_below p n ≤ length l
count_le_length p n [] h = omega (arith, count_none p n λ i t. Memᴰ.not-nil (h i t))
count_le_length p n (x ∷ l) h =
    let a = count_without x p n in
    let b = count_le_length (without x p) n l behind in
    omega arith
  where
    behind : (i : ℕ) → without x p i ≡ true → Memᴰ i l
    behind i t = let r = without_in x p i t in ⊎_elim (λ e. absurd (r.0 e)) (λ m. m) (Memᴰ.cases_cons (h i r.1))

-- ---- the gaps

-- the gaps up to n are as many as the numbers below n + 1 that are gaps
pub gaps_to_count : (S : Set) → S 0 ≡ true → (n : ℕ) → length (gaps_to S n) ≡ count_below (λ x. not (S x)) (suc n)
unfolding gaps_to run
gaps_to_count S zero_in n = ap length (sym (keep_out (λ x. not (S x)) 0 (run 1 n) (ap not zero_in))) ∙ length_kept (λ x. not (S x)) (suc n)

-- Of a and x - a, with x a gap, one is a gap: so at least half of 0, .., x are gaps.
pub half_gaps : (S : Set) → ClosedUnderAddition S → (x : ℕ) → S x ≡ false → x + 1 ≤ 2 * count_below (λ i. not (S i)) (suc x)
half_gaps S sums x gap =
    let elements : count_below S (suc x) ≤ count_below (λ i. not (S (x - i))) (suc x) = count_mono S _ (suc x) other in
    let reversed = count_reverse (λ i. not (S i)) x in
    let all = count_not S (suc x) in
    omega arith
  where
    -- an element's partner is a gap
    other : (i : ℕ) → i < suc x → S i ≡ true → not (S (x - i)) ≡ true
    other i h t =
        let r : i + (x - i) ≡ x = omega arith in
        ap not (is_false (S (x - i)) λ p. not_both (rw r at (sums i (x - i) t p)) gap)

-- the gaps of a numerical semigroup of genus g are below 2 g
pub gap_bound : (S : Set) (l : List ℕ) (g : ℕ) → NumericalSemigroup S → GapsOf S l → length l ≡ g
    → (x : ℕ) → Memᴰ x l → x + 1 ≤ 2 * g
gap_bound S l g s gs e x m =
    let listed : count_below (λ i. not (S i)) (suc x) ≤ length l = count_le_length _ (suc x) l (λ i t. gs.all i (not-true (S i) t)) in
    omega (arith, half_gaps S s.closed x (gs.missed x m))
