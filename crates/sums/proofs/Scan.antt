-- Which numbers are sums, one after the other: the next by the last 64 and the members, and the gaps so far. Assumes nothing.
use Prim.Native.Nat.{ℕ, zero, suc, ◌+◌, ◌*◌, ◌-◌, ◌%◌, ◌^◌, ◌≤◌, ◌<◌, min}
use mathlib.Core.Path.{◌≡◌, refl, sym, ap, ap₂, subst, ◌∙◌}
use mathlib.Core.Logic.{◌≢◌, ⊎_elim}
use mathlib.Core.Bool.{Bool, true, false, not, ◌||◌, ◌&&◌, or-false, or-true, and-eq-true_iff}
use mathlib.Core.List.{List, [], ◌∷◌, ◌++◌, Memᴰ}
use native.Mathlib.Omega.{arith}
use native.Mathlib.Nat.{add_comm, zero-add, sub-zero, mod-lt, eq-zero-or-pos}
use native.Mathlib.Numerals.{add-one}
use lib.Dec.{eqb, leb, leb-zero, leb-suc-zero, leb-suc-suc, eqb-suc-zero}
use lib.Bits.{bit_and, bit_or, or_lt, or_zero_r, and_lt, or_disjoint}
use lib.Pow.{pow_pos}
use lib.ListN.{length, length-append}
use borrow.Author.Tests.{leb-true, leb-false, le-leb, eqb-false, ne_eqb, not-true}
use Rattle.semigroups.specs.Lists.{run, keep, member_of}
use Rattle.semigroups.specs.Sets.{Set, gaps_to}
use Rattle.semigroups.specs.Words.{bit, digit, set_of, word_of}
use Rattle.semigroups.specs.Positions.{bits_from}
use Rattle.semigroups.proofs.Booleans.{not_both, is_true, by_value, true_together}
use Rattle.semigroups.proofs.Lists.{keep_more_in, keep_more_out}
use Rattle.semigroups.proofs.Membership.{member_iff}
use Rattle.semigroups.proofs.Bits.{bit_of_and, bit_of_or, bit_zero, digit_lt, bit_pow, bit_shl, bit_shl_low, bit_mod, one_shl, clear_disjoint, bit_digit}
use Rattle.semigroups.proofs.Sets.{gaps_to_mem}
use Rattle.semigroups.proofs.Words.{GapList, gaps_to_list, word_gaps, word_append}
use Rattle.semigroups.proofs.StandingBits.{some_stands}
use Rattle.semigroups.proofs.BitSets.{bits_from_bit, bits_from_lt, bits_from_is}
use Rattle.sums.specs.Sums.{SumOf, spans, sums_down}
use Rattle.sums.proofs.Sums.{sum_more, sum_member, sum_split, spans_iff}

-- ---- the gaps, one number more

module _ (S : Set) (n : ℕ) where
  -- where n + 1 is no gap
  pub gaps_to_in : S (n + 1) ≡ true → gaps_to S (n + 1) ≡ gaps_to S n
  unfolding gaps_to
  gaps_to_in e = keep_more_out (λ x. not (S x)) 1 n (ap (λ (x : ℕ). not (S x)) (add_comm 1 n) ∙ ap not e)

  -- where n + 1 is a gap
  pub gaps_to_out : S (n + 1) ≡ false → gaps_to S (n + 1) ≡ gaps_to S n ++ (n + 1) ∷ []
  unfolding gaps_to
  gaps_to_out e =
      keep_more_in (λ x. not (S x)) 1 n (ap (λ (x : ℕ). not (S x)) (add_comm 1 n) ∙ ap not e)
      ∙ ap (λ (x : ℕ). gaps_to S n ++ x ∷ []) (add_comm 1 n)

-- a gap more in the word
pub word_out : (S : Set) (n : ℕ) → n < 64 → S (n + 1) ≡ false → bit_or (word_of (gaps_to S n)) (2 ^ n) ≡ word_of (gaps_to S (n + 1))
unfolding word_of set_of
word_out S n h e =
    let w : ℕ = word_of (gaps_to S n) in
    let listed : GapList 1 (gaps_to S n) = gaps_to_list S n (omega arith) in
    let clear : set_of w (suc n) ≡ true = is_true (set_of w (suc n)) (λ f. omega (arith, (gaps_to_mem S n ((word_gaps (gaps_to S n) listed).all (suc n) f)).1)) in
    let last : n + 1 - 1 ≡ n = omega arith in
    or_disjoint w (2 ^ n) (clear_disjoint w n (not-true _ clear))
    ∙ ap (λ (k : ℕ). w + 2 ^ k) (sym last) ∙ ap (λ (k : ℕ). w + k) (sym (zero-add (2 ^ (n + 1 - 1))))
    ∙ sym (word_append (gaps_to S n) ((n + 1) ∷ [])) ∙ ap word_of (sym (gaps_to_out S n e))

-- ---- the last 64 numbers

-- i numbers before k there is a number, and it is in S
unfoldable pub down_from : Set → ℕ → Set
down_from S k i = leb i k && S (k - i)

down_from_none : (S : Set) (k : ℕ) → down_from S k 0 ≡ S k
unfolding down_from
down_from_none S k = ap (λ (b : Bool). b && S (k - 0)) (leb-zero k) ∙ ap S (sub-zero k)

down_from_more : (S : Set) (k i : ℕ) → down_from S (k + 1) (suc i) ≡ down_from S k i
unfolding down_from
down_from_more S k i =
    let less : k + 1 - suc i ≡ k - i = omega arith in
    ap₂ ◌&&◌ (ap (leb (suc i)) (add-one k) ∙ leb-suc-suc i k) (ap S less)

-- the next number shifted in
pub shift_in : (S : Set) (k : ℕ) → bit_or (bits_from (down_from S k) 0 * 2 ^ 1 % 2 ^ 64) (digit (S (k + 1))) ≡ bits_from (down_from S (k + 1)) 0
shift_in S k =
    bits_from_is (down_from S (k + 1)) 0 (bit_or shifted_up (digit b))
    (or_lt 64 shifted_up (digit b) (mod-lt (bits_from (down_from S k) 0 * 2 ^ 1) (pow_pos 64)) (omega (arith, digit_lt b)))
    (λ j h. bit_of_or shifted_up (digit b) j ∙ ap₂ ◌||◌ (bit_mod (bits_from (down_from S k) 0 * 2 ^ 1) 64 j h) (bit_digit b j) ∙ at j h ∙ ap (down_from S (k + 1)) (sym (zero-add j)))
  where
    b : Bool
    b = S (k + 1)

    shifted_up : ℕ
    shifted_up = bits_from (down_from S k) 0 * 2 ^ 1 % 2 ^ 64

    at : (j : ℕ) → j < 64 → (bit (bits_from (down_from S k) 0 * 2 ^ 1) j || eqb j 0 && b) ≡ down_from S (k + 1) j
    at zero h = ap (λ (a : Bool). a || b) (bit_shl_low (bits_from (down_from S k) 0) 1 0 (omega arith)) ∙ sym (down_from_none S (k + 1))
    at (suc i) h =
        let next : suc i ≡ 1 + i = omega arith in
        ap₂ (λ (a c : Bool). a || c && b) (ap (bit (bits_from (down_from S k) 0 * 2 ^ 1)) next ∙ bit_shl (bits_from (down_from S k) 0) 1 i ∙ bits_from_bit (down_from S k) 0 i (omega arith) ∙ ap (down_from S k) (zero-add i)) (eqb-suc-zero i)
        ∙ or-false (down_from S k i) ∙ sym (down_from_more S k i)

-- ---- the next sum

module _ (A : List ℕ) (k : ℕ) (low : k < 127) where
  seen : ℕ
  seen = bits_from (down_from (spans A) k) 0

  members : ℕ
  members = bits_from (member_of A) 1

  seen_bit : (j : ℕ) → j < 64 → bit (bit_and seen members) j ≡ (down_from (spans A) k j && member_of A (suc j))
  unfolding seen members
  seen_bit j h =
      let next : 1 + j ≡ suc j = omega arith in
      bit_of_and seen members j
      ∙ ap₂ ◌&&◌ (bits_from_bit (down_from (spans A) k) 0 j h ∙ ap (down_from (spans A) k) (zero-add j)) (bits_from_bit (member_of A) 1 j h ∙ ap (member_of A) next)

  -- a sum of a member up to 64 and a sum shows in the bits
  low_member : (a x : ℕ) → 0 < a → a ≤ 64 → Memᴰ a A → SumOf A x → a + x ≡ k + 1 → bit_and seen members ≢ 0
  unfolding down_from
  low_member a x pos h m s e none =
      let j : ℕ = a - 1 in
      let next : a ≡ suc j = omega arith in
      let rest : x ≡ k - j = omega arith in
      not_both
      ((and-eq-true_iff (down_from (spans A) k j) (member_of A (suc j))).1 (
        (and-eq-true_iff (leb j k) (spans A (k - j))).1 (le-leb j k (omega arith), (spans_iff A (k - j)).1 (subst (SumOf A) rest s)),
        (member_iff A (suc j)).1 (subst (λ (y : ℕ). Memᴰ y A) next m),
      ))
      (sym (seen_bit j (omega arith)) ∙ ap (λ (y : ℕ). bit y j) none ∙ bit_zero j)

  high : Bool
  high = leb 64 k && bit (bits_from (member_of A) 65) (k - 64)

  -- bit k - 64 of the members from 65 on
  high_bit : 64 ≤ k → bit (bits_from (member_of A) 65) (k - 64) ≡ member_of A (k + 1)
  high_bit h =
      let same : 65 + (k - 64) ≡ k + 1 = omega arith in
      bits_from_bit (member_of A) 65 (k - 64) (omega arith) ∙ ap (member_of A) same

  shown : (not (eqb (bit_and seen members) 0) || high) ≡ true → spans A (k + 1) ≡ true
  unfolding high down_from seen members
  shown e =
      by_value (eqb (bit_and seen members) 0)
      (λ z.
      let (over, b) = (and-eq-true_iff (leb 64 k) (bit (bits_from (member_of A) 65) (k - 64))).0 (ap (λ (t : Bool). not t || high) (sym z) ∙ e) in
      (spans_iff A (k + 1)).1 (sum_member A ((member_iff A (k + 1)).0 (sym (high_bit (leb-true 64 k over)) ∙ b))))
      (λ f.
      let (j, h, b) = some_stands 64 (bit_and seen members) (and_lt 64 seen members (bits_from_lt (down_from (spans A) k) 0) (bits_from_lt (member_of A) 1)) (eqb-false _ 0 f) in
      let (p, m) = (and-eq-true_iff (down_from (spans A) k j) (member_of A (suc j))).0 (sym (seen_bit j h) ∙ b) in
      let (within, s) = (and-eq-true_iff (leb j k) (spans A (k - j))).0 p in
      let l = leb-true j k within in
      let whole : suc j + (k - j) ≡ k + 1 = omega arith in
      (spans_iff A (k + 1)).1 (subst (SumOf A) whole (sum_more A (k - j) ((member_iff A (suc j)).0 m) ((spans_iff A (k - j)).0 s))))

  shows : spans A (k + 1) ≡ true → (not (eqb (bit_and seen members) 0) || high) ≡ true
  unfolding high
  shows e =
      let t = sum_split A (k + 1) (omega arith) ((spans_iff A (k + 1)).0 e) in
      by_value (leb t.part 64)
      (λ l. by_low t.part t.rest t.part_pos (leb-true _ 64 l) t.part_in t.rest_sum t.sum)
      (λ l.
      let over = leb-false t.part 64 l in
      ⊎_elim
      (λ none.
      let alone : t.part ≡ k + 1 = omega (arith, t.sum) in
      let past : 64 ≤ k = omega (arith, t.sum) in
      ap (λ (b : Bool). not (eqb (bit_and seen members) 0) || b)
      (ap₂ ◌&&◌ (le-leb 64 k past) (high_bit past ∙ (member_iff A (k + 1)).1 (subst (λ (y : ℕ). Memᴰ y A) alone t.part_in))) ∙ or-true (not (eqb (bit_and seen members) 0)))
      (λ pos.
      let u = sum_split A t.rest pos t.rest_sum in
      by_low u.part (t.part + u.rest) u.part_pos (omega (arith, t.sum, u.sum)) u.part_in (sum_more A u.rest t.part_in u.rest_sum) (omega (arith, t.sum, u.sum)))
      (eq-zero-or-pos t.rest))
    where
      by_low : (a x : ℕ) → 0 < a → a ≤ 64 → Memᴰ a A → SumOf A x → a + x ≡ k + 1 → (not (eqb (bit_and seen members) 0) || high) ≡ true
      by_low a x pos h m s e = ap (λ (b : Bool). not b || high) (ne_eqb (bit_and seen members) 0 (low_member a x pos h m s e))

  -- k + 1 is a sum where it is a member from 65 on, or one of the last 64 numbers is a sum that is a member less than it
  pub next_sum : (not (eqb (bit_and (bits_from (down_from (spans A) k) 0) (bits_from (member_of A) 1)) 0) || leb 64 k && bit (bits_from (member_of A) 65) (k - 64)) ≡ spans A (k + 1)
  unfolding high seen members
  next_sum = true_together _ (spans A (k + 1)) shown shows

-- ---- the numbers up to k, one after the other

-- which of the last 64 numbers up to k are sums, the gaps up to 64 as a word, and the number of gaps
pub record Scanned (A : List ℕ) (k seen word count : ℕ) : Type 0 where
  pub last : seen ≡ bits_from (down_from (spans A) k) 0
  pub gaps : word ≡ word_of (gaps_to (spans A) (min k 64))
  pub many : count ≡ length (gaps_to (spans A) k)

-- at first only 0 is one
first_seen : (A : List ℕ) (j : ℕ) → eqb j 0 ≡ down_from (spans A) 0 j
unfolding down_from spans sums_down
first_seen A zero = refl
first_seen A (suc i) = eqb-suc-zero i ∙ ap (λ (b : Bool). b && spans A (0 - suc i)) (sym (leb-suc-zero i))

-- before the first number
pub scan_start : (A : List ℕ) → Scanned A 0 1 0 0
unfolding gaps_to run keep word_of
scan_start A = record {
  last = bits_from_is (down_from (spans A) 0) 0 1 (omega arith) (λ j h. bit_pow 0 j ∙ first_seen A j ∙ ap (down_from (spans A) 0) (sym (zero-add j)));
  gaps = refl;
  many = refl;
}

module _ {A : List ℕ} {k seen word count : ℕ} (s : Scanned A k seen word count) where
  -- the next number is a sum where the bits of the members show it
  pub scan_next : (low high : ℕ) → low ≡ bits_from (member_of A) 1 → high ≡ bits_from (member_of A) 65 → k < 127
      → (not (eqb (bit_and seen low) 0) || leb 64 k && bit high (k - 64)) ≡ spans A (k + 1)
  scan_next low high p q h = rw (s.last, p, q) (next_sum A k h)

  shifted : (b : Bool) → spans A (k + 1) ≡ b → bit_or (seen * 2 ^ 1 % 2 ^ 64) (digit b) ≡ bits_from (down_from (spans A) (k + 1)) 0
  shifted b e = ap₂ (λ (x : ℕ) (t : Bool). bit_or (x * 2 ^ 1 % 2 ^ 64) (digit t)) s.last (sym e) ∙ shift_in (spans A) k

  module _ (e : spans A (k + 1) ≡ true) where
    -- a sum more
    pub scan_sum : Scanned A (k + 1) (bit_or (seen * 2 ^ 1 % 2 ^ 64) 1) word count
    unfolding digit
    scan_sum = record {
      last = shifted true e;
      gaps = s.gaps ∙ ap word_of (by_value (leb 64 k)
          (λ t.
          let past = leb-true 64 k t in
          let same : min k 64 ≡ min (k + 1) 64 = omega arith in
          ap (gaps_to (spans A)) same)
          (λ t.
          let low = leb-false 64 k t in
          let here : min k 64 ≡ k = omega arith in
          let next : min (k + 1) 64 ≡ k + 1 = omega arith in
          ap (gaps_to (spans A)) here ∙ sym (gaps_to_in (spans A) k e) ∙ ap (gaps_to (spans A)) (sym next)));
      many = s.many ∙ ap length (sym (gaps_to_in (spans A) k e));
    }

  module _ (e : spans A (k + 1) ≡ false) where
    moved_out : seen * 2 ^ 1 % 2 ^ 64 ≡ bits_from (down_from (spans A) (k + 1)) 0
    unfolding digit
    moved_out = sym (or_zero_r (seen * 2 ^ 1 % 2 ^ 64)) ∙ shifted false e

    one_more : count + 1 ≡ length (gaps_to (spans A) (k + 1))
    one_more = ap (λ (n : ℕ). n + 1) s.many ∙ sym (length-append (gaps_to (spans A) k) ((k + 1) ∷ [])) ∙ ap length (sym (gaps_to_out (spans A) k e))

    -- a gap more, up to 64 and past it
    pub scan_gap : k < 64 → Scanned A (k + 1) (seen * 2 ^ 1 % 2 ^ 64) (bit_or word (1 * 2 ^ k % 2 ^ 64)) (count + 1)
    scan_gap h = record {
      last = moved_out;
      gaps =
          let here : min k 64 ≡ k = omega arith in
          let next : min (k + 1) 64 ≡ k + 1 = omega arith in
          ap₂ bit_or (s.gaps ∙ ap (λ (n : ℕ). word_of (gaps_to (spans A) n)) here) (one_shl k h) ∙ word_out (spans A) k h e ∙ ap (λ (n : ℕ). word_of (gaps_to (spans A) n)) (sym next);
      many = one_more;
    }

    -- past 64 the word stays
    pub scan_gap_past : 64 ≤ k → Scanned A (k + 1) (seen * 2 ^ 1 % 2 ^ 64) word (count + 1)
    scan_gap_past h = record {
      last = moved_out;
      gaps = let same : min k 64 ≡ min (k + 1) 64 = omega arith in s.gaps ∙ ap (λ (n : ℕ). word_of (gaps_to (spans A) n)) same;
      many = one_more;
    }
