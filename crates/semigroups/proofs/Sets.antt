-- Laws of sets: sums of two elements, a set without a number, and the list of gaps of a set. Assumes nothing.
use Prim.Native.Nat.{ℕ, zero, suc, ◌+◌, ◌*◌, ◌-◌, ◌≤◌, ◌<◌}
use mathlib.Core.Path.{◌≡◌, refl, sym, ◌∙◌, ap}
use mathlib.Core.Logic.{◌⊎◌, inl, inr, ◌≢◌, ◌↔◌, ⊎_elim}
use mathlib.Core.Bool.{true, false, not, ◌&&◌, and-false, and-eq-true_iff}
use mathlib.Core.List.{List, ◌++◌, Memᴰ}
use native.Mathlib.Omega.{arith}
use native.Mathlib.Nat.{lt_of_not-le, zero-add, add-zero, mul-zero, mul-suc}
use native.Mathlib.Decide.{ℕ_discrete}
use lib.Dec.{eqb}
use lib.ListN.{length}
use borrow.Author.Tests.{eqb-false, eq-eqb, ne_eqb, not-true, not-false}
use Rattle.semigroups.specs.Lists.{run, keep, every, Ordered}
use Rattle.semigroups.specs.Sets.{Set, without, gaps_to, sum_of_two, ClosedUnderAddition, NumericalSemigroup, GapsOf, HasGenus, MultiplicityOf}
use Rattle.semigroups.proofs.Booleans.{not_both, is_true, is_false, true_together}
use Rattle.semigroups.proofs.Lists.{run_mem, mem_run, keep_run, keep_mem, mem_keep, every_mem, mem_every, every_false, ordered_run, ordered_keep, ordered_unique}

-- ---- sums of two positive elements

-- n as a sum of two positive elements of S
pub record Sum (S : Set) (n : ℕ) : Type 0 where
  pub one : ℕ
  pub other : ℕ
  pub one_pos : 0 < one
  pub other_pos : 0 < other
  pub one_in : S one ≡ true
  pub other_in : S other ≡ true
  pub sum : one + other ≡ n

pub sum_of : (S : Set) (n : ℕ) → sum_of_two S n ≡ true → Sum S n
unfolding sum_of_two
sum_of S n e =
    let (x, m, f) = every_false _ (run 1 (n - 1)) (not-true _ e) in
    let (p, q) = (and-eq-true_iff (S x) (S (n - x))).0 (not-false _ f) in
    let (h, l) = run_mem 1 (n - 1) m in
    record { one = x; other = n - x; one_pos = h; other_pos = omega arith; one_in = p; other_in = q; sum = omega arith }

pub sum_found : (S : Set) (n x y : ℕ) → 0 < x → 0 < y → x + y ≡ n → S x ≡ true → S y ≡ true → sum_of_two S n ≡ true
unfolding sum_of_two
sum_found S n x y x_pos y-pos sum x-in y-in =
    let rest : n - x ≡ y = omega arith in
    ap not (is_false (every (λ a. not (S a && S (n - a))) (run 1 (n - 1)))
    (λ e. not_both ((and-eq-true_iff (S x) (S (n - x))).1 (x-in, ap S rest ∙ y-in))
    (not-true _ (every_mem _ (run 1 (n - 1)) e (mem_run 1 (n - 1) x_pos (omega arith))))))

-- where two elements of S add up to n, the first is one of T
abbrev pub Carries : Set → Set → ℕ → Type 0
Carries S T n = (x y : ℕ) → 0 < x → 0 < y → x + y ≡ n → S x ≡ true → S y ≡ true → T x ≡ true

pub sum_carried : (S T : Set) (n : ℕ) → Carries S T n → sum_of_two S n ≡ true → sum_of_two T n ≡ true
sum_carried S T n f e =
    let s = sum_of S n e in
    sum_found T n s.one s.other s.one_pos s.other_pos s.sum
    (f s.one s.other s.one_pos s.other_pos s.sum s.one_in s.other_in)
    (f s.other s.one s.other_pos s.one_pos (omega arith) s.other_in s.one_in)

-- sets that carry over to one another at n have the same sums n
pub same_sums : (S T : Set) (n : ℕ) → Carries S T n → Carries T S n → sum_of_two S n ≡ sum_of_two T n
same_sums S T n f g = true_together (sum_of_two S n) (sum_of_two T n) (sum_carried S T n f) (sum_carried T S n g)

-- a set is closed under addition where the sums of positive elements are elements
pub closed_of_positive : (S : Set) → ((a b : ℕ) → S (suc a) ≡ true → S (suc b) ≡ true → S (suc a + suc b) ≡ true) → ClosedUnderAddition S
closed_of_positive S sums zero b p q = rw zero-add q
closed_of_positive S sums (suc a) zero p q = rw add-zero p
closed_of_positive S sums (suc a) (suc b) p q = sums a b p q

-- ---- a set without a number

module _ (y : ℕ) (S : Set) where
  pub in_without : {x : ℕ} → x ≢ y → S x ≡ true → without y S x ≡ true
  in_without {x} h t = rw (ne_eqb x y h) t

  pub without_in : (x : ℕ) → without y S x ≡ true → (x ≢ y) × (S x ≡ true)
  without_in x t = let (p, q) = (and-eq-true_iff (not (eqb x y)) (S x)).0 t in (eqb-false x y (not-true _ p), q)

  pub without_out : without y S y ≡ false
  without_out = rw (eq-eqb y y refl)

  -- sums of two without it are sums of two
  pub sum_without : (n : ℕ) → sum_of_two (without y S) n ≡ true → sum_of_two S n ≡ true
  sum_without n = sum_carried (without y S) S n (λ a b a-pos b-pos sum a_in b-in. (without_in a a_in).1)

  -- up to it they are all
  pub sums_below : (n : ℕ) → n ≤ y → sum_of_two (without y S) n ≡ sum_of_two S n
  sums_below n h =
      true_together (sum_of_two (without y S) n) (sum_of_two S n) (sum_without n)
      (sum_carried S (without y S) n (λ a b a-pos b-pos sum a_in b-in. in_without (λ e. omega arith) a_in))

  -- a numerical semigroup stays one without a positive number that is no sum of two positive elements
  pub semigroup_without : NumericalSemigroup S → 0 < y → sum_of_two S y ≡ false → NumericalSemigroup (without y S)
  semigroup_without s h n = record {
    zero_in = in_without (λ e. omega arith) s.zero_in;
    closed = λ a b p q.
        let (a-other, a_in) = without_in a p in
        let (b-other, b-in) = without_in b q in
        in_without (λ e. not_both (sum_found S y a b (positive b a b-other (omega arith)) (positive a b a-other e) e a_in b-in) n) (s.closed a b a_in b-in);
    cofinite = (suc y + s.cofinite.0, λ x k. in_without (λ e. omega arith) (s.cofinite.1 x (omega arith)));
  }
    where
      -- of two that add up to y, one of which is not y, the other is positive
      positive : (a b : ℕ) → a ≢ y → a + b ≡ y → 0 < b
      positive a b other e = lt_of_not-le (λ l. other (omega arith))

-- the multiples of an element are elements
pub multiples_in : (S : Set) → S 0 ≡ true → ClosedUnderAddition S → (a : ℕ) → S a ≡ true → (k : ℕ) → S (a * k) ≡ true
multiples_in S zero_in sums a a_in zero = ap S (mul-zero a) ∙ zero_in
multiples_in S zero_in sums a a_in (suc k) = ap S (mul-suc a k) ∙ sums (a * k) a (multiples_in S zero_in sums a a_in k) a_in

-- ---- the list of gaps of a set

-- a list in order of a number and the gaps of S lists the gaps of S without the number
pub gaps_without : (S : Set) (y : ℕ) (k l : List ℕ) → GapsOf S k → Ordered ◌<◌ l
    → ((x : ℕ) → Memᴰ x l ↔ ((x ≡ y) ⊎ Memᴰ x k)) → GapsOf (without y S) l
gaps_without S y k l g o h = record {
  rising = o;
  missed = λ x m. ⊎_elim (λ e. rw (eq-eqb x y e)) (λ i. rw (g.missed x i) (and-false (not (eqb x y)))) ((h x).0 m);
  all = λ x t. (h x).1 (elim (ℕ_discrete x y) [ yes e ↦ inl e | no n ↦ inr (g.all x (rw (ne_eqb x y n) at t)) ]);
}

-- a set has one list of gaps
pub gaps_unique : (S : Set) (k l : List ℕ) → GapsOf S k → GapsOf S l → k ≡ l
gaps_unique S k l g h =
    ordered_unique ◌<◌ (λ x y p q. omega arith) k l g.rising h.rising
    (λ x m. h.all x (g.missed x m)) (λ x m. g.all x (h.missed x m))

-- and one genus
pub genus_unique : (S : Set) (g h : ℕ) → HasGenus S g → HasGenus S h → g ≡ h
genus_unique S g h (k, p, e) (l, q, f) = sym e ∙ ap length (gaps_unique S k l p q) ∙ f

-- and at most one multiplicity
pub multiplicity_unique : (S : Set) (m n : ℕ) → MultiplicityOf S m → MultiplicityOf S n → m ≡ n
multiplicity_unique S m n h k = omega (arith, h.least n k.positive k.element, k.least m h.positive h.element)

-- two sets with the same gaps are the same
pub same_of_gaps : (S T : Set) (l : List ℕ) → GapsOf S l → GapsOf T l → (x : ℕ) → S x ≡ T x
same_of_gaps S T l g h x =
    true_together (S x) (T x)
    (λ p. is_true (T x) λ q. not_both p (g.missed x (h.all x q)))
    (λ p. is_true (S x) λ q. not_both p (h.missed x (g.all x q)))

-- a set is closed under addition just where none of its gaps is a sum of two positive elements
module _ (S : Set) (l : List ℕ) (g : GapsOf S l) where
  sums_in : every (λ x. not (sum_of_two S x)) l ≡ true → ClosedUnderAddition S
  sums_in c =
      closed_of_positive S λ a b p q.
      let s : ℕ = suc a + suc b in
      is_true (S s) λ e. not_both (sum_found S s (suc a) (suc b) (omega arith) (omega arith) refl p q) (not-true _ (every_mem _ l c (g.all s e)))

  no_gap_is_sum : ClosedUnderAddition S → every (λ x. not (sum_of_two S x)) l ≡ true
  no_gap_is_sum s =
      mem_every _ l λ x m. ap not (is_false (sum_of_two S x) λ e.
      let t = sum_of S x e in
      not_both (rw t.sum at (s t.one t.other t.one_in t.other_in)) (g.missed x m))

  pub closed_by_gaps : (every (λ x. not (sum_of_two S x)) l ≡ true) ↔ ClosedUnderAddition S
  closed_by_gaps = (sums_in, no_gap_is_sum)

-- a gap is positive, where 0 is an element
pub gap_positive : (S : Set) → S 0 ≡ true → (x : ℕ) → S x ≡ false → 0 < x
gap_positive S zero_in zero e = absurd (not_both zero_in e)
gap_positive S zero_in (suc x) e = omega arith

-- the gaps up to a number
module _ (S : Set) where
  pub gaps_to_mem : {x : ℕ} (n : ℕ) → Memᴰ x (gaps_to S n) → (0 < x) × (x ≤ n) × (S x ≡ false)
  unfolding gaps_to
  gaps_to_mem {x} n m = let (i, e) = keep_mem _ (run 1 n) m in let h = run_mem 1 n i in (h.0, omega arith, not-true _ e)

  pub mem_gaps_to : (n x : ℕ) → 0 < x → x ≤ n → S x ≡ false → Memᴰ x (gaps_to S n)
  unfolding gaps_to
  mem_gaps_to n x pos h e = mem_keep _ (run 1 n) (mem_run 1 n pos (omega arith)) (ap not e)

  -- those up to n + k are those up to n, and those behind
  pub gaps_to_append : (n k : ℕ) → gaps_to S (n + k) ≡ gaps_to S n ++ keep (λ x. not (S x)) (run (1 + n) k)
  unfolding gaps_to
  gaps_to_append = keep_run (λ x. not (S x)) 1

  -- they rise
  pub gaps_to_ordered : (n : ℕ) → Ordered ◌<◌ (gaps_to S n)
  unfolding gaps_to
  gaps_to_ordered n = ordered_keep ◌<◌ _ (run 1 n) (ordered_run 1 n)

  -- where no gap is above n, they are all gaps
  pub gaps_to_all : (n : ℕ) → S 0 ≡ true → ((x : ℕ) → S x ≡ false → x ≤ n) → GapsOf S (gaps_to S n)
  gaps_to_all n zero_in within = record {
    rising = gaps_to_ordered n;
    missed = λ x m. (gaps_to_mem n m).2;
    all = λ x e. mem_gaps_to n x (gap_positive S zero_in x e) (within x e) e;
  }
