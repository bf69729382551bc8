-- The word of the first g numbers that m does not divide: as a difference of two sums of powers, and as the word of a semigroup of genus
-- g and multiplicity m. Assumes nothing.
use Prim.Native.Nat.{ℕ, zero, suc, ◌+◌, ◌-◌, ◌*◌, ◌/◌, ◌%◌, ◌^◌, ◌≤◌, ◌<◌}
use mathlib.Core.Path.{◌≡◌, refl, sym, ◌∙◌, ap, ap₂, subst}
use mathlib.Core.Bool.{Bool, true, false, not}
use mathlib.Core.List.{List, ◌++◌, Memᴰ}
use native.Mathlib.Omega.{arith}
use native.Mathlib.Nat.{zero-mod, mod-lt, mod_self, mod-eq_of_lt, add-mod, mul-add-mod_self_left, mul-mod_right, div-add-mod, mul-div-le, div-le_self, div-eq_of_eq-mul_left, mul-zero, zero-mul, mul-suc, suc-mul, add-mul, pow-suc, le_dest, le_antisymm, lt_of_not-le, le_of_suc-le-suc}
use lib.Dec.{eqb}
use lib.ListN.{length, take, length-append}
use lib.Pow.{pow-add, pow_mono, suc_ones}
use lib.Seq.{take_at}
use borrow.Author.Tests.{eq-eqb, ne_eqb, eqb-true, not-true}
use Rattle.semigroups.specs.Lists.{run, keep, Ordered}
use Rattle.semigroups.specs.Words.{set_of, genus, word_of}
use Rattle.semigroups.specs.Elements.{multiplicity}
use Rattle.semigroups.proofs.Booleans.{not_both, is_true, by_value}
use Rattle.semigroups.proofs.Lists.{run_mem, mem_run, ordered_run, length_run, keep_mem, mem_keep, keep_run, keep_more_out, ordered_keep}
use Rattle.semigroups.proofs.Kept.{keep_all}
use Rattle.semigroups.proofs.Words.{GapList, word_gaps, word_lt, word_append, gaps_of_word}
use Rattle.semigroups.proofs.Closure.{closed_iff}
use Rattle.semigroups.proofs.Elements.{multiplicity_in, multiplicity_pos, multiplicity_least}
use Rattle.semigroups.proofs.GenusList.{WordOfGenus}
use Rattle.semigroups.proofs.First.{word_of_run}
use Rattle.windows.specs.Windows.{least_multiplicity, not_divided}

-- m does not divide x
abbrev pub undivided : ℕ → ℕ → Bool
undivided m x = not (eqb (x % m) 0)

-- the numbers from 1 to k that m does not divide
abbrev pub undivided_to : ℕ → ℕ → List ℕ
undivided_to m k = keep (undivided m) (run 1 k)

-- 1 + 2 ^ m + .. + 2 ^ (m * (n - 1))
powers : ℕ → ℕ → ℕ
powers m zero = 0
powers m (suc n) = powers m n + 2 ^ (m * n)

-- ---- rows of numbers from m * n + 1 to m * (n + 1), where m = d + 1

module _ (d : ℕ) where
  -- m divides none of the first d of a row
  row : (n r : ℕ) → r ≤ d → keep (undivided (suc d)) (run (suc (suc d * n)) r) ≡ run (suc (suc d * n)) r
  row n r h =
      keep_all (undivided (suc d)) (run (suc (suc d * n)) r) (λ x m.
      let b = run_mem (suc (suc d * n)) r m in
      let (j, e) = le_dest b.0 in
      let place : x ≡ suc d * n + suc j = omega arith in
      let rest : x % suc d ≡ suc j = ap (λ (y : ℕ). y % suc d) place ∙ mul-add-mod_self_left (suc d) n (suc j) ∙ mod-eq_of_lt (omega arith) in
      ap not (ne_eqb (x % suc d) 0 (λ z. omega arith)))

  -- the numbers up to m * n + r that m does not divide
  kept_row : (n r : ℕ) → r ≤ d → undivided_to (suc d) (suc d * n + r) ≡ undivided_to (suc d) (suc d * n) ++ run (suc (suc d * n)) r
  kept_row n r h =
      let next : 1 + suc d * n ≡ suc (suc d * n) = omega arith in
      keep_run (undivided (suc d)) 1 (suc d * n) r
      ∙ ap (λ (l : List ℕ). undivided_to (suc d) (suc d * n) ++ l) (ap (λ (a : ℕ). keep (undivided (suc d)) (run a r)) next ∙ row n r h)

  -- the numbers up to m * (n + 1): m divides the last
  kept_next : (n : ℕ) → undivided_to (suc d) (suc d * suc n) ≡ undivided_to (suc d) (suc d * n) ++ run (suc (suc d * n)) d
  kept_next n =
      let more : suc d * suc n ≡ suc d * n + d + 1 = omega (arith, mul-suc (suc d) n) in
      let last : 1 + (suc d * n + d) ≡ suc d * suc n = omega arith in
      ap (undivided_to (suc d)) more
      ∙ keep_more_out (undivided (suc d)) 1 (suc d * n + d) (ap not (eq-eqb _ 0 (ap (λ (y : ℕ). y % suc d) last ∙ mul-mod_right (suc d) (suc n))))
      ∙ kept_row n d (omega arith)

  -- d for each row
  kept_length : (n : ℕ) → length (undivided_to (suc d) (suc d * n)) ≡ d * n
  unfolding run keep
  kept_length zero = ap (λ (k : ℕ). length (undivided_to (suc d) k)) (mul-zero (suc d)) ∙ sym (mul-zero d)
  kept_length (suc n) =
      omega (
        arith,
        ap length (kept_next n),
        length-append (undivided_to (suc d) (suc d * n)) (run (suc (suc d * n)) d),
        length_run (suc (suc d * n)) d,
        kept_length n,
        mul-suc d n,
      )

  -- their word: all bits below m * n but those of the multiples
  kept_word : (n : ℕ) → word_of (undivided_to (suc d) (suc d * n)) + powers (suc d) n * 2 ^ d + 1 ≡ 2 ^ (suc d * n)
  unfolding run keep word_of powers
  kept_word zero =
      let none : suc d * 0 ≡ 0 = mul-zero (suc d) in
      omega (arith, ap (λ (k : ℕ). word_of (undivided_to (suc d) k)) none, ap (λ (k : ℕ). 2 ^ k) none, zero-mul (2 ^ d))
  kept_word (suc n) =
      let a : ℕ = suc d * n in
      let next : suc d * suc n ≡ suc (a + d) = omega (arith, mul-suc (suc d) n) in
      omega (
        arith,
        ap word_of (kept_next n) ∙ word_append (undivided_to (suc d) a) (run (suc a) d),
        word_of_run a d,
        kept_word n,
        add-mul (powers (suc d) n) (2 ^ a) (2 ^ d),
        pow-add 2 a d,
        ap (λ (k : ℕ). 2 ^ k) next,
        pow-suc 2 (a + d),
      )

-- the sum of powers, times 2 ^ m - 1
powers_sum : (m n : ℕ) → powers m n * (2 ^ m - 1) + 1 ≡ 2 ^ (m * n)
unfolding powers
powers_sum m zero = omega (arith, zero-mul (2 ^ m - 1), ap (λ (k : ℕ). 2 ^ k) (mul-zero m))
powers_sum m (suc n) =
    omega (
      arith,
      powers_sum m n,
      add-mul (powers m n) (2 ^ (m * n)) (2 ^ m - 1),
      ap (λ (k : ℕ). 2 ^ k) (mul-suc m n) ∙ pow-add 2 (m * n) m ∙ ap (λ (k : ℕ). 2 ^ (m * n) * k) (sym (suc_ones m)) ∙ mul-suc (2 ^ (m * n)) (2 ^ m - 1),
    )

-- so that it is a quotient
powers_quotient : (m n : ℕ) → 0 < m → (2 ^ (m * n) - 1) / (2 ^ m - 1) ≡ powers m n
powers_quotient m n pos =
    let two : 2 ≤ 2 ^ m = pow_mono {i = 1} pos in
    div-eq_of_eq-mul_left {n = 2 ^ m - 1} (omega arith) (omega (arith, powers_sum m n))

-- ---- the first g + 1 numbers that m = d + 1 does not divide

module _ (g d : ℕ) (pos : 0 < d) where
  -- they are the first g / d rows and g % d + 1 numbers of the next
  last : suc g + g / d ≡ suc d * (g / d) + suc (g % d)
  last = omega (arith, suc-mul d (g / d), div-add-mod g d)

  parts : undivided_to (suc d) (suc g + g / d) ≡ undivided_to (suc d) (suc d * (g / d)) ++ run (suc (suc d * (g / d))) (suc (g % d))
  parts = ap (undivided_to (suc d)) last ∙ kept_row d (g / d) (suc (g % d)) (mod-lt g pos)

  -- they are g + 1
  parts_length : length (undivided_to (suc d) (suc g + g / d)) ≡ suc g
  parts_length =
      omega (
        arith,
        ap length parts,
        length-append (undivided_to (suc d) (suc d * (g / d))) (run (suc (suc d * (g / d))) (suc (g % d))),
        length_run (suc (suc d * (g / d))) (suc (g % d)),
        kept_length d (g / d),
        div-add-mod g d,
      )

  -- their word
  parts_word : word_of (undivided_to (suc d) (suc g + g / d)) + powers (suc d) (g / d) * 2 ^ d + 1 ≡ 2 ^ (suc g + g / d)
  parts_word =
      omega (
        arith,
        ap word_of parts ∙ word_append (undivided_to (suc d) (suc d * (g / d))) (run (suc (suc d * (g / d))) (suc (g % d))),
        word_of_run (suc d * (g / d)) (suc (g % d)),
        kept_word d (g / d),
        ap (λ (k : ℕ). 2 ^ k) last,
      )

-- ---- the word of the first numbers that m does not divide

-- k numbers are enough for g that m does not divide, and all below m are among them
pub record Enough (g m k : ℕ) : Type 0 where
  pub pos : 0 < m
  pub few : k ≤ 64
  pub all_below : m ≤ k + 1
  pub number : length (undivided_to m k) ≡ g

module _ (g m k : ℕ) (enough : Enough g m k) where
  -- the first g that m does not divide are those up to k
  passed : not_divided g m ≡ undivided_to m k
  unfolding not_divided
  passed =
      let (j, e) = le_dest enough.few in
      ap (λ (n : ℕ). take g (undivided_to m n)) (sym e)
      ∙ ap (take g) (keep_run (undivided m) 1 k j)
      ∙ take_at (undivided_to m k) (keep (undivided m) (run (1 + k) j)) g enough.number

  -- they are gaps in order
  pub divided_list : GapList 1 (not_divided g m)
  divided_list = record {
    ordered = subst (Ordered ◌<◌) (sym passed) (ordered_keep ◌<◌ (undivided m) (run 1 k) (ordered_run 1 k));
    within = λ x i.
        let b = run_mem 1 k (keep_mem (undivided m) (run 1 k) (subst (Memᴰ x) passed i)).0 in
        omega (arith, enough.few);
  }

  -- its word has 64 bits
  pub divided_fits : word_of (not_divided g m) < 2 ^ 64
  divided_fits = word_lt (not_divided g m) divided_list

  -- a gap of the word is at most k and no multiple of m
  gap_not : (x : ℕ) → set_of (word_of (not_divided g m)) x ≡ false → (x ≤ k) × (x % m ≡ 0 → ⊥)
  gap_not x e =
      let (i, t) = keep_mem (undivided m) (run 1 k) (subst (Memᴰ x) passed ((word_gaps {lo = 0} (not_divided g m) divided_list).all x e)) in
      let b = run_mem 1 k i in
      (omega arith, λ z. not_both (eq-eqb (x % m) 0 z) (not-true _ t))

  -- an element that is at most k is a multiple of m
  in_multiple : (x : ℕ) → x ≤ k → set_of (word_of (not_divided g m)) x ≡ true → x % m ≡ 0
  in_multiple zero h e = zero-mod m
  in_multiple (suc x) h e =
      by_value (eqb (suc x % m) 0) (eqb-true _ _)
      (λ f. absurd (not_both e ((word_gaps {lo = 0} (not_divided g m) divided_list).missed (suc x)
      (subst (Memᴰ (suc x)) (sym passed) (mem_keep (undivided m) (run 1 k) (mem_run 1 k (omega arith) (omega arith)) (ap not f))))))

  -- so that sums of elements are elements, and it is a word of genus g
  pub divided_genus : WordOfGenus g (word_of (not_divided g m))
  unfolding genus
  divided_genus = record {
    fits = divided_fits;
    closed = (closed_iff (word_of (not_divided g m)) divided_fits).1 (λ a b p q. is_true _ (λ e.
        let (h, n) = gap_not (a + b) e in
        n (add-mod a b m ∙ ap₂ (λ (x y : ℕ). (x + y) % m) (in_multiple a (omega arith) p) (in_multiple b (omega arith) q) ∙ zero-mod m)));
    gapped = ap length (gaps_of_word (not_divided g m) divided_list ∙ passed) ∙ enough.number;
  }

  -- and m is its multiplicity
  pub divided_multiplicity : multiplicity (word_of (not_divided g m)) ≡ m
  divided_multiplicity =
      let w : ℕ = word_of (not_divided g m) in
      le_antisymm (multiplicity_least w divided_fits m enough.pos (is_true _ (λ e. (gap_not m e).1 (mod_self m))))
      (le_of_suc-le-suc (lt_of_not-le (λ (l : multiplicity w < m).
      omega (arith, multiplicity_pos w divided_fits, in_multiple (multiplicity w) (omega (arith, enough.all_below)) (multiplicity_in w divided_fits), mod-eq_of_lt l))))

-- m = d + 1 passes over g / d multiples before the last of g + 1 numbers
enough_rows : (g d : ℕ) → g < 32 → 0 < d → d ≤ suc g → Enough (suc g) (suc d) (suc g + g / d)
enough_rows g d h pos high =
    record { pos = omega arith; few = omega (arith, div-le_self g d); all_below = omega arith; number = parts_length g d pos }

-- as many multiples of m lie below the last of g numbers that m does not divide
abbrev pub passed_over : ℕ → ℕ → ℕ
passed_over g m = (g - 1) / (m - 1)

-- the largest of them and the last number are small
pub passed_over_room : (g m : ℕ) → 1 ≤ g → g ≤ 32 → 2 ≤ m → (m * passed_over g m ≤ 62) × (g + passed_over g m ≤ 63)
passed_over_room g m low h two =
    let n : ℕ = passed_over g m in
    let most : suc (m - 1) ≡ m = omega arith in
    let sum : m * n ≡ (m - 1) * n + n = ap (λ (k : ℕ). k * n) (sym most) ∙ suc-mul (m - 1) n in
    omega (arith, mul-div-le (g - 1) (m - 1), div-le_self (g - 1) (m - 1))

-- the word of the first g numbers that m does not divide: the bits up to its largest gap without those of the multiples of m
pub not_divided_word : (g m : ℕ) → 1 ≤ g → g ≤ 32 → 2 ≤ m → m ≤ g + 1
    → word_of (not_divided g m) + (2 ^ (m * passed_over g m) - 1) / (2 ^ m - 1) * 2 ^ (m - 1) + 1 ≡ 2 ^ (g + passed_over g m)
not_divided_word zero m low h two high = absurd (omega arith)
not_divided_word (suc g) zero low h two high = absurd (omega arith)
not_divided_word (suc g) (suc d) low h two high =
    let less : (x : ℕ) → suc x - 1 ≡ x = λ x. omega arith in
    simp (less, powers_quotient (suc d) (g / d) (omega arith), passed (suc g) (suc d) (suc g + g / d) (enough_rows g d (omega arith) (omega arith) (omega arith)))
    (parts_word g d (omega arith))

-- for each multiplicity that a semigroup of genus g can have some number is enough
pub enough_for : (g m : ℕ) → g ≤ 32 → least_multiplicity g ≤ m → m ≤ g + 1 → (k : ℕ) × Enough g m k
unfolding run keep
enough_for zero m h low high = (0, record { pos = omega arith; few = omega arith; all_below = omega arith; number = refl })
enough_for (suc g) zero h low high = absurd (omega arith)
enough_for (suc g) (suc d) h low high = (suc g + g / d, enough_rows g d (omega arith) (omega arith) (omega arith))
