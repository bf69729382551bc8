-- Numbers by what they leave on division by m: the quotient and residue of m t + i, and counts by residue. Assumes nothing.
use Prim.Native.Nat.{ℕ, zero, suc, ◌+◌, ◌*◌, ◌/◌, ◌%◌, ◌<◌, min}
use mathlib.Core.Path.{◌≡◌, refl, sym, ap, ◌∙◌}
use mathlib.Core.Bool.{Bool, false, not, ◌&&◌, and-true, and-false}
use mathlib.Core.List.{[], ◌∷◌}
use native.Mathlib.Omega.{arith}
use native.Mathlib.Nat.{add-zero, mul-zero, mul-suc, mul-add-div, mul-add-mod_self_left, mod-eq_of_lt, div-eq_of_lt}
use lib.Dec.{eqb, leb}
use borrow.Author.Tests.{eq-eqb, ne_eqb, leb-true, leb-false}
use Rattle.semigroups.specs.Lists.{run, sum_over}
use Rattle.semigroups.specs.Words.{digit}
use Rattle.semigroups.proofs.Booleans.{not_both, by_value}
use Rattle.semigroups.proofs.Lists.{run_mem, run_last, sum_append, sum_none, sum_plus}
use Rattle.semigroups.proofs.Counting.{count_below, count_in, count_out, count_same, count_none}

-- ---- quotient and residue

-- m t + i, for i below m, has the quotient t
pub residue_div : (m t i : ℕ) → i < m → (m * t + i) / m ≡ t
residue_div m t i h = omega (arith, mul-add-div {m = m} (omega arith) t i, div-eq_of_lt h)

-- and leaves i
pub residue_mod : (m t i : ℕ) → i < m → (m * t + i) % m ≡ i
residue_mod m t i h = mul-add-mod_self_left m t i ∙ mod-eq_of_lt h

-- ---- counts by residue

module _ (p : ℕ → Bool) where
  -- m numbers more
  count_more : (a m : ℕ) → count_below p (a + m) ≡ sum_over (λ i. digit (p (a + i))) (run 0 m) + count_below p a
  unfolding sum_over run count_below
  count_more a zero = ap (count_below p) (add-zero a) ∙ omega arith
  count_more a (suc m) =
      let next : a + suc m ≡ suc (a + m) = omega arith in
      omega (
        arith,
        ap (count_below p) next,
        count_more a m,
        ap (sum_over (λ i. digit (p (a + i)))) (run_last m),
        sum_append (λ i. digit (p (a + i))) (run 0 m) (m ∷ []),
      )

  -- the numbers below m n that pass, by what they leave on division by m
  pub count_residues : (m n : ℕ) → count_below p (m * n) ≡ sum_over (λ i. count_below (λ t. p (m * t + i)) n) (run 0 m)
  unfolding count_below
  count_residues m zero = ap (count_below p) (mul-zero m) ∙ sym (sum_none (λ i. 0) (run 0 m) (λ i h. refl))
  count_residues m (suc n) =
      omega (
        arith,
        ap (count_below p) (mul-suc m n),
        count_more (m * n) m,
        count_residues m n,
        sum_plus (λ i. digit (p (m * n + i))) (λ i. count_below (λ t. p (m * t + i)) n) (run 0 m),
      )

-- p, of the multiples of m
abbrev multiple : (ℕ → Bool) → ℕ → ℕ → Bool
multiple p m j = p j && eqb (j % m) 0

module _ (p : ℕ → Bool) (m : ℕ) where
  -- at the multiples it is p
  multiple_at : (t : ℕ) → 0 < m → multiple p m (m * t + 0) ≡ p (m * t)
  multiple_at t h = rw (eq-eqb ((m * t + 0) % m) 0 (residue_mod m t 0 h), and-true, add-zero)

  -- and at no other number it passes
  no_multiple : (i t : ℕ) → 0 < i → i < m → multiple p m (m * t + i) ≡ false
  no_multiple i t pos h = rw (ne_eqb ((m * t + i) % m) 0 (λ z. omega (arith, residue_mod m t i h))) (and-false (p (m * t + i)))

  -- so that none of residue i > 0 is counted
  none_between : (n i : ℕ) → 0 < i → i < m → count_below (λ t. multiple p m (m * t + i)) n ≡ 0
  none_between n i pos h = count_none _ n (λ t e. not_both e (no_multiple i t pos h))

-- the multiples of m that pass
pub count_multiples : (p : ℕ → Bool) (m n : ℕ) → 0 < m → count_below (λ j. p j && eqb (j % m) 0) (m * n) ≡ count_below (λ t. p (m * t)) n
unfolding sum_over run
count_multiples p zero n h = absurd (omega arith)
count_multiples p (suc k) n h =
    omega (
      arith,
      count_residues (multiple p (suc k)) (suc k) n,
      count_same _ _ n (λ t. multiple_at p (suc k) t h),
      sum_none _ (run 1 k) (λ i l. let b = run_mem 1 k l in none_between p (suc k) n i b.0 (omega arith)),
    )

-- of the numbers below n, those below x
pub count_threshold : (x n : ℕ) → count_below (λ t. not (leb x t)) n ≡ min x n
unfolding count_below
count_threshold x zero = omega arith
count_threshold x (suc n) =
    by_value (leb x n)
    (λ e. omega (arith, leb-true x n e, count_out (λ t. not (leb x t)) n (ap not e), count_threshold x n))
    (λ e. omega (arith, leb-false x n e, count_in (λ t. not (leb x t)) n (ap not e), count_threshold x n))
