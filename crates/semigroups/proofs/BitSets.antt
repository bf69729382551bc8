-- Sets of 64 numbers as bits. Assumes nothing.
use Prim.Native.Nat.{ℕ, suc, ◌+◌, ◌*◌, ◌-◌, ◌%◌, ◌^◌, ◌≤◌, ◌<◌}
use mathlib.Core.Path.{◌≡◌, sym, ap, ap₂, subst, ◌∙◌}
use mathlib.Core.Bool.{Bool, true, false, not, ◌||◌, ◌&&◌, not-not}
use mathlib.Core.List.Memᴰ
use mathlib.Core.List.{map}
use native.Mathlib.Omega.{arith}
use native.Mathlib.Nat.{mod-lt, mod-le, le_dest}
use lib.Dec.{eqb, ltb}
use lib.Bits.{bit_and, bit_or, or_lt, and_lt}
use lib.Count.{count_trailing_zeros, trailing_le}
use lib.Pow.{pow_pos, pow-lt}
use lib.ListN.{length-map}
use borrow.Author.Tests.{ltb-true, ltb-false, lt-ltb, le-ltb, eqb-true, eq-eqb, not-true, not-false}
use Rattle.semigroups.specs.Lists.{run, keep}
use Rattle.semigroups.specs.Sets.{Set, gaps_to}
use Rattle.semigroups.specs.Words.{bit, set_of, gaps, word_of}
use Rattle.semigroups.specs.Positions.{positions, bits_from}
use Rattle.semigroups.proofs.Booleans.{by_value, true_together}
use Rattle.semigroups.proofs.Lists.{run_mem, mem_run, keep_mem, mem_keep, ordered_run, ordered_keep, ordered_map, ordered_unique, length_run, get_d_map_run}
use Rattle.semigroups.proofs.Bits.{bit_of_and, bit_of_or, bit_not, bit_zero, bit_pow, bit_mod, bit_low, bit_shl, bit_shl_low, bits_decide, bit_of_bits, of_bits_lt}
use Rattle.semigroups.proofs.StandingBits.{trailing_below, trailing_stands}
use Rattle.semigroups.proofs.Sets.{gaps_to_mem, mem_gaps_to}
use Rattle.semigroups.proofs.Words.{gaps_to_list, word_gaps, word_lt, word_of_gaps}

module _ (S : Set) (first : ℕ) where
  pub bits_from_bit : (j : ℕ) → j < 64 → bit (bits_from S first) j ≡ S (first + j)
  unfolding bits_from
  bits_from_bit j h = bit_of_bits (map S (run first 64)) j ∙ get_d_map_run S false first 64 j h

  -- they make a number of 64 bits
  pub bits_from_lt : bits_from S first < 2 ^ 64
  unfolding bits_from
  bits_from_lt = subst (λ (n : ℕ). bits_from S first < 2 ^ n) (length-map (run first 64) S ∙ length_run first 64) (of_bits_lt (map S (run first 64)))

  -- the bits decide
  pub bits_from_is : (n : ℕ) → n < 2 ^ 64 → ((j : ℕ) → j < 64 → bit n j ≡ S (first + j)) → n ≡ bits_from S first
  bits_from_is n fits e = bits_decide 64 n (bits_from S first) fits bits_from_lt (λ j h. e j h ∙ sym (bits_from_bit j h))

  -- the numbers of the bits that stand
  pub bits_from_listed : map (λ d. first + d) (positions (bits_from S first)) ≡ keep S (run first 64)
  unfolding positions
  bits_from_listed =
      let n : ℕ = bits_from S first in
      ordered_unique ◌<◌ (λ x y p q. omega arith) (map (λ d. first + d) (keep (bit n) (run 0 64))) (keep S (run first 64))
      (ordered_map ◌<◌ ◌<◌ (λ d. first + d) (keep (bit n) (run 0 64)) (ordered_keep ◌<◌ (bit n) (run 0 64) (ordered_run 0 64)) (λ x y i j l. omega arith))
      (ordered_keep ◌<◌ S (run first 64) (ordered_run first 64))
      (λ x m.
      let (d, i, e) = Memᴰ.of_map (λ d. first + d) (keep (bit n) (run 0 64)) m in
      let (r, t) = keep_mem (bit n) (run 0 64) i in
      let h = (run_mem 0 64 r).1 in
      mem_keep S (run first 64) (mem_run first 64 (omega arith) (omega arith)) (ap S (sym e) ∙ sym (bits_from_bit d h) ∙ t))
      (λ x m.
      let (r, t) = keep_mem S (run first 64) m in
      let (l, h) = run_mem first 64 r in
      let (d, e) = le_dest l in
      let small : d < 64 = omega arith in
      Memᴰ.cast (sym e) (Memᴰ.map (λ d. first + d) (mem_keep (bit n) (run 0 64) (mem_run 0 64 (omega arith) small) (bits_from_bit d small ∙ ap S e ∙ t))))

  -- no bit stands where none is in S
  pub bits_from_none : ((x : ℕ) → first ≤ x → x < first + 64 → S x ≡ false) → 0 ≡ bits_from S first
  bits_from_none none = bits_from_is 0 (omega arith) (λ j h. bit_zero j ∙ sym (none (first + j) (omega arith) (omega arith)))

  -- the lowest bit that stands: no number before it is in S
  pub bits_from_before : (x : ℕ) → first ≤ x → x < first + count_trailing_zeros 64 (bits_from S first) → S x ≡ false
  bits_from_before x low high =
      let (j, e) = le_dest low in
      let below : j < count_trailing_zeros 64 (bits_from S first) = omega arith in
      ap S (sym e) ∙ sym (bits_from_bit j (omega (arith, trailing_le 64 (bits_from S first)))) ∙ trailing_below 64 (bits_from S first) j below

  -- and its own is, where there is one
  pub bits_from_lowest : count_trailing_zeros 64 (bits_from S first) < 64 → S (first + count_trailing_zeros 64 (bits_from S first)) ≡ true
  bits_from_lowest h = sym (bits_from_bit _ h) ∙ trailing_stands 64 (bits_from S first) h

-- sets that agree on the 64 numbers
pub bits_from_same : (S T : Set) (first : ℕ) → ((x : ℕ) → first ≤ x → x < first + 64 → S x ≡ T x) → bits_from S first ≡ bits_from T first
bits_from_same S T first same =
    bits_from_is T first (bits_from S first) (bits_from_lt S first) (λ j h. bits_from_bit S first j h ∙ same (first + j) (omega arith) (omega arith))

-- of either of two sets
pub bits_from_or : (S T : Set) (first : ℕ) → bit_or (bits_from S first) (bits_from T first) ≡ bits_from (λ x. S x || T x) first
bits_from_or S T first =
    bits_from_is (λ x. S x || T x) first (bit_or (bits_from S first) (bits_from T first))
    (or_lt 64 (bits_from S first) (bits_from T first) (bits_from_lt S first) (bits_from_lt T first))
    (λ j h. bit_of_or (bits_from S first) (bits_from T first) j ∙ ap₂ ◌||◌ (bits_from_bit S first j h) (bits_from_bit T first j h))

-- the complement of a set of bits
pub bits_from_not : (S : Set) (first : ℕ) → 2 ^ 64 - 1 - bits_from S first ≡ bits_from (λ x. not (S x)) first
bits_from_not S first =
    bits_from_is (λ x. not (S x)) first (2 ^ 64 - 1 - bits_from S first) (omega arith)
    (λ j h. bit_not 64 (bits_from S first) j (bits_from_lt S first) h ∙ ap not (bits_from_bit S first j h))

-- of both of two sets
pub bits_from_and : (S T : Set) (first : ℕ) → bit_and (bits_from S first) (bits_from T first) ≡ bits_from (λ x. S x && T x) first
bits_from_and S T first =
    bits_from_is (λ x. S x && T x) first (bit_and (bits_from S first) (bits_from T first))
    (and_lt 64 (bits_from S first) (bits_from T first) (bits_from_lt S first) (bits_from_lt T first))
    (λ j h. bit_of_and (bits_from S first) (bits_from T first) j ∙ ap₂ ◌&&◌ (bits_from_bit S first j h) (bits_from_bit T first j h))

-- a set moved up by k
pub bits_from_shl : (S : Set) (k : ℕ) → bits_from S 1 * 2 ^ k % 2 ^ 64 ≡ bits_from (λ x. ltb k x && S (x - k)) 1
bits_from_shl S k =
    bits_from_is (λ x. ltb k x && S (x - k)) 1 (bits_from S 1 * 2 ^ k % 2 ^ 64) (mod-lt (bits_from S 1 * 2 ^ k) (pow_pos 64))
    (λ j h. bit_mod (bits_from S 1 * 2 ^ k) 64 j h ∙ by_value (ltb j k) (λ e. low j (ltb-true j k e)) (λ e. high j h (le_dest (ltb-false j k e))))
  where
    low : (j : ℕ) → j < k → bit (bits_from S 1 * 2 ^ k) j ≡ (ltb k (1 + j) && S (1 + j - k))
    low j l = bit_shl_low (bits_from S 1) k j l ∙ sym (ap (λ (b : Bool). b && S (1 + j - k)) (le-ltb k (1 + j) (omega arith)))

    high : (j : ℕ) → j < 64 → (i : ℕ) × (k + i ≡ j) → bit (bits_from S 1 * 2 ^ k) j ≡ (ltb k (1 + j) && S (1 + j - k))
    high j h (i, e) =
        let rest : 1 + i ≡ 1 + j - k = omega arith in
        ap (bit (bits_from S 1 * 2 ^ k)) (sym e) ∙ bit_shl (bits_from S 1) k i ∙ bits_from_bit S 1 i (omega arith) ∙ ap S rest
        ∙ sym (ap (λ (b : Bool). b && S (1 + j - k)) (lt-ltb k (1 + j) (omega arith)))

-- of a set the numbers below n
pub bits_from_below : (S : Set) (n : ℕ) → bits_from S 1 % 2 ^ (n - 1) ≡ bits_from (λ x. S x && ltb x n) 1
bits_from_below S n =
    bits_from_is (λ x. S x && ltb x n) 1 (bits_from S 1 % 2 ^ (n - 1)) (omega (arith, mod-le (bits_from S 1) (2 ^ (n - 1)), bits_from_lt S 1)) (λ j h.
    bit_low (bits_from S 1) (n - 1) j
    ∙ ap₂ ◌&&◌ (bits_from_bit S 1 j h)
    (true_together (ltb j (n - 1)) (ltb (1 + j) n)
    (λ e. let l = ltb-true j (n - 1) e in lt-ltb (1 + j) n (omega arith))
    (λ e. let l = ltb-true (1 + j) n e in lt-ltb j (n - 1) (omega arith))))

-- of one number
pub bits_from_one : (first i : ℕ) → i < 64 → 2 ^ i ≡ bits_from (eqb (first + i)) first
bits_from_one first i h =
    bits_from_is (eqb (first + i)) first (2 ^ i) (pow-lt h)
    (λ j l. bit_pow i j ∙ true_together (eqb j i) (eqb (first + i) (first + j))
    (λ e. let same = eqb-true j i e in eq-eqb (first + i) (first + j) (omega arith))
    (λ e. let same = eqb-true (first + i) (first + j) e in eq-eqb j i (omega arith)))

-- the word of the gaps of S up to 64 has them as bits
pub word_bits : (S : Set) → word_of (gaps_to S 64) ≡ bits_from (λ x. not (S x)) 1
unfolding set_of
word_bits S =
    let w : ℕ = word_of (gaps_to S 64) in
    let listed = gaps_to_list S 64 (omega arith) in
    let g = word_gaps (gaps_to S 64) listed in
    bits_from_is (λ x. not (S x)) 1 w (word_lt (gaps_to S 64) listed) (λ j h.
    let next : suc j ≡ 1 + j = omega arith in
    true_together (bit w j) (not (S (1 + j)))
    (λ e. ap (λ (x : ℕ). not (S x)) (sym next) ∙ ap not (gaps_to_mem S 64 (g.all (suc j) (ap not e))).2)
    (λ e. not-false _ (g.missed (suc j) (mem_gaps_to S 64 (suc j) (omega arith) (omega arith) (ap S next ∙ not-true _ e)))))

-- so that a word of 64 bits has its gaps as bits
pub word_from : (w : ℕ) → w < 2 ^ 64 → w ≡ bits_from (λ x. not (set_of w x)) 1
unfolding gaps
word_from w fits = sym (word_of_gaps w fits) ∙ word_bits (set_of w)

-- and its complement has its positive elements
pub complement_from : (w : ℕ) → w < 2 ^ 64 → 2 ^ 64 - 1 - w ≡ bits_from (set_of w) 1
complement_from w fits =
    ap (λ (n : ℕ). 2 ^ 64 - 1 - n) (word_from w fits) ∙ bits_from_not (λ x. not (set_of w x)) 1
    ∙ bits_from_same (λ x. not (not (set_of w x))) (set_of w) 1 (λ x low high. not-not (set_of w x))
