-- The sums of members of a list: that `spans` computes them, and that they are closed under addition. Assumes nothing.
use Prim.Native.Nat.{ℕ, zero, suc, ◌+◌, ◌-◌, ◌≤◌, ◌<◌, ◌∣◌}
use mathlib.Core.Path.{◌≡◌, refl, sym, ap, subst, ◌∙◌}
use mathlib.Core.Logic.{◌↔◌, ⊎_elim}
use mathlib.Core.Bool.{true, false, not}
use mathlib.Core.List.Memᴰ
use mathlib.Core.List.{List, [], ◌∷◌, ◌++◌, Memᴰ}
use native.Mathlib.Omega.{arith}
use native.Mathlib.Nat.{suc-sub-suc, sub-zero, add-zero, zero-add, dvd-zero, dvd-add}
use lib.ListN.{get_or}
use borrow.Author.Tests.{not-true, not-false}
use Rattle.semigroups.specs.Lists.{every, sum_over}
use Rattle.semigroups.specs.Sets.{Set, ClosedUnderAddition}
use Rattle.semigroups.proofs.Booleans.{not_both, is_false}
use Rattle.semigroups.proofs.Lists.{append_each, every_mem, every_false, sum_append}
use Rattle.sums.specs.Divisors.{gcd_of}
use Rattle.sums.specs.Sums.{SumOf, SumsOf, further, sums_down, spans}
use Rattle.sums.proofs.Divisors.{gcd_divides}

-- ---- sums

abbrev total : List ℕ → ℕ
total = sum_over (λ a. a)

module _ (A : List ℕ) where
  -- 0 is the sum of none
  pub sum_zero : SumOf A 0
  unfolding sum_over
  sum_zero = ([], λ a m. absurd (Memᴰ.not-nil m), refl)

  -- a member and a sum make a sum
  pub sum_more : {a : ℕ} (x : ℕ) → Memᴰ a A → SumOf A x → SumOf A (a + x)
  unfolding sum_over
  sum_more {a} x m (l, within, e) = (a ∷ l, λ b n. ⊎_elim (λ q. Memᴰ.cast q m) (within b) (Memᴰ.cases_cons n), ap (λ (y : ℕ). a + y) e)

  -- sums add up to a sum
  pub sum_add : {x y : ℕ} → SumOf A x → SumOf A y → SumOf A (x + y)
  sum_add (k, in-k, e) (l, in-l, f) = (k ++ l, append_each k l in-k in-l, omega (arith, sum_append (λ a. a) k l))

  -- a member is a sum
  pub sum_member : {a : ℕ} → Memᴰ a A → SumOf A a
  sum_member {a} m = subst (SumOf A) (add-zero a) (sum_more 0 m sum_zero)

  -- a positive sum is a positive member and a sum
  pub record Split (x : ℕ) : Type 0 where
    pub part : ℕ
    pub rest : ℕ
    pub part_pos : 0 < part
    pub part_in : Memᴰ part A
    pub rest_sum : SumOf A rest
    pub sum : part + rest ≡ x

  -- each positive sum splits so
  pub sum_split : (x : ℕ) → 0 < x → SumOf A x → Split x
  unfolding sum_over
  sum_split x pos (l, within, e) = go l within e
    where
      go : (l : List ℕ) → ((a : ℕ) → Memᴰ a l → Memᴰ a A) → total l ≡ x → Split x
      go [] within e = absurd (omega arith)
      go (zero ∷ l) within e = go l (λ a m. within a (Memᴰ.tail m)) (omega arith)
      go (suc b ∷ l) within e = record {
        part = suc b;
        rest = total l;
        part_pos = omega arith;
        part_in = within (suc b) (Memᴰ.head refl);
        rest_sum = (l, λ a m. within a (Memᴰ.tail m), refl);
        sum = e;
      }

  -- ---- the computed test

  -- entry i of the sums from n down tells whether n - i is one
  entry_sum : (n i : ℕ) → get_or (sums_down A n) i false ≡ true → (i ≤ n) × SumOf A (n - i)
  unfolding sums_down further
  entry_sum zero zero e = (omega arith, sum_zero)
  entry_sum zero (suc i) e = absurd (not_both e refl)
  entry_sum (suc n) zero e =
      let (a, m, f) = every_false (λ a. not (get_or (false ∷ sums_down A n) a false)) A (not-true _ e) in
      (omega arith, member (entry_sum n) a m (not-false _ f))
    where
      member : ((i : ℕ) → get_or (sums_down A n) i false ≡ true → (i ≤ n) × SumOf A (n - i))
          → (a : ℕ) → Memᴰ a A → get_or (false ∷ sums_down A n) a false ≡ true → SumOf A (suc n - 0)
      member before zero m f = absurd (not_both f refl)
      member before (suc b) m f =
          let (low, s) = before b f in
          let same : suc b + (n - b) ≡ suc n - 0 = omega arith in
          subst (SumOf A) same (sum_more (n - b) m s)
  entry_sum (suc n) (suc i) e = let (low, s) = entry_sum n i e in (omega arith, rw suc-sub-suc s)

  sum_entry : (n i x : ℕ) → i + x ≡ n → SumOf A x → get_or (sums_down A n) i false ≡ true
  unfolding sums_down further
  sum_entry zero zero x h s = refl
  sum_entry zero (suc i) x h s = absurd (omega arith)
  sum_entry (suc n) (suc i) x h s = sum_entry n i x (omega arith) s
  sum_entry (suc n) zero x h s =
      let t = sum_split x (omega arith) s in
      let a : ℕ = t.part in
      let same : suc (a - 1) ≡ a = omega (arith, t.part_pos) in
      let entry = sum_entry n (a - 1) t.rest (omega (arith, t.sum, t.part_pos)) t.rest_sum in
      let here : get_or (false ∷ sums_down A n) a false ≡ true = ap (λ (k : ℕ). get_or (false ∷ sums_down A n) k false) (sym same) ∙ entry in
      ap not (is_false (every (λ b. not (get_or (false ∷ sums_down A n) b false)) A) (λ e. not_both here (not-true _ (every_mem _ A e t.part_in))))

  -- the computed set is that of the sums
  pub spans_iff : (x : ℕ) → (spans A x ≡ true) ↔ SumOf A x
  unfolding spans
  spans_iff x = (λ e. subst (SumOf A) (sub-zero x) (entry_sum x 0 e).1, λ s. sum_entry x 0 x (zero-add x) s)

  -- 0 is in it
  pub spans_zero : spans A 0 ≡ true
  spans_zero = (spans_iff 0).1 sum_zero

  -- sums of sums are sums
  pub spans_closed : ClosedUnderAddition (spans A)
  spans_closed a b p q = (spans_iff (a + b)).1 (sum_add ((spans_iff a).0 p) ((spans_iff b).0 q))

  -- the sums belong to each set that holds 0 and the members and is closed under addition
  pub sum_in : (S : Set) → S 0 ≡ true → ClosedUnderAddition S → ((a : ℕ) → Memᴰ a A → S a ≡ true) → (x : ℕ) → SumOf A x → S x ≡ true
  unfolding sum_over
  sum_in S zero_in sums within x (l, members, e) = ap S (sym e) ∙ go l members
    where
      go : (l : List ℕ) → ((a : ℕ) → Memᴰ a l → Memᴰ a A) → S (total l) ≡ true
      go [] members = zero_in
      go (a ∷ l) members = sums a (total l) (within a (members a (Memᴰ.head refl))) (go l (λ b m. members b (Memᴰ.tail m)))

  -- what divides each member divides the sums
  pub divides_sum : (d : ℕ) → ((a : ℕ) → Memᴰ a A → d ∣ a) → (x : ℕ) → SumOf A x → d ∣ x
  unfolding sum_over
  divides_sum d divides x (l, members, e) = subst (λ (y : ℕ). d ∣ y) e (go l members)
    where
      go : (l : List ℕ) → ((a : ℕ) → Memᴰ a l → Memᴰ a A) → d ∣ total l
      go [] members = dvd-zero d
      go (a ∷ l) members = dvd-add _ (divides a (members a (Memᴰ.head refl))) (go l (λ b m. members b (Memᴰ.tail m)))

  -- so does the greatest common divisor
  pub gcd_divides_sum : (x : ℕ) → SumOf A x → gcd_of A ∣ x
  gcd_divides_sum x s = divides_sum (gcd_of A) (λ a m. gcd_divides A m) x s

-- members are sums: where B has all members of A, they are sums of B
pub sums_of_members : (A B : List ℕ) → ((a : ℕ) → Memᴰ a A → Memᴰ a B) → SumsOf A B
sums_of_members A B within a m = sum_member B (within a m)

-- sums of sums: where the members of A are sums of B, so are the sums of A
pub sums_of_sums : (A B : List ℕ) → SumsOf A B → (x : ℕ) → SumOf A x → SumOf B x
sums_of_sums A B there x s = (spans_iff B x).0 (sum_in A (spans B) (spans_zero B) (spans_closed B) (λ a m. (spans_iff B a).1 (there a m)) x s)
