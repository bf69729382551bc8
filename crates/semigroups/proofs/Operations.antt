-- What the machine's operations tell of a word: the counts of its bits give the genus, the gaps up to a number, the conductor and the
-- multiplicity. Assumes nothing.
use Prim.Native.Nat.{ℕ, suc, ◌+◌, ◌-◌, ◌/◌, ◌%◌, ◌^◌, ◌≤◌, ◌<◌}
use mathlib.Core.Path.{◌≡◌, refl, sym, ap, ◌∙◌}
use mathlib.Core.Logic.{⊎_elim}
use mathlib.Core.Bool.{Bool, true, not, not-not}
use native.Mathlib.Omega.{arith}
use native.Mathlib.Nat.{lt_of_not-le, le_antisymm, eq-or-lt_of_le, eq-zero-or-pos, mod-lt, mod-eq_of_lt, zero-add, div-one}
use lib.Pow.{pow_pos}
use lib.Bits.{bit_and, bit_xor, xor_mod, and_mask}
use lib.Count.{ones, count_leading_zeros, leading_le, leading_of_zero, leading_top, count_trailing_zeros, trailing_le}
use lib.ListN.{length}
use borrow.Author.Tests.{not-true, not-false}
use Rattle.semigroups.specs.Sets.{gaps_to, LargestGapOf}
use Rattle.semigroups.specs.Words.{bit, digit, set_of, gaps, genus, conductor}
use Rattle.semigroups.specs.Elements.{element_at, multiplicity}
use Rattle.semigroups.proofs.Booleans.{not_both, is_false}
use Rattle.semigroups.proofs.Bits.{bit_mod, bit_not, bit_highest, bit_shr, and_low, xor_next}
use Rattle.semigroups.proofs.Words.{element_past, set_zero}
use Rattle.semigroups.proofs.Counting.{count_below, count_first, count_same, count_mono, gaps_to_count}
use Rattle.semigroups.proofs.StandingBits.{ones_count, trailing_below, trailing_stands}
use Rattle.semigroups.proofs.Elements.{conductor_is, conductor_least, conductor_pos, multiplicity_in, multiplicity_pos, multiplicity_least, multiplicity_le_conductor, element_zero, element_in, element_rises, element_next, multiplicity_element}

-- its elements from 1 to 64, as bits
abbrev pub complement : ℕ → ℕ
complement w = 2 ^ 64 - 1 - w

module _ (w : ℕ) (fits : w < 2 ^ 64) where
  -- its gaps up to x are as many as the standing bits below x
  pub gaps_to_ones : (x : ℕ) → length (gaps_to (set_of w) x) ≡ ones (w % 2 ^ x)
  unfolding set_of digit
  gaps_to_ones x =
      let gap : ℕ → Bool = λ y. not (set_of w y) in
      gaps_to_count (set_of w) refl x ∙ count_first gap x ∙ zero-add (count_below (λ i. gap (suc i)) x)
      ∙ count_same (λ i. gap (suc i)) (bit w) x (λ i. not-not (bit w i))
      ∙ le_antisymm (count_mono (bit w) (bit (w % 2 ^ x)) x (λ i h e. bit_mod w x i h ∙ e)) (count_mono (bit (w % 2 ^ x)) (bit w) x (λ i h e. sym (bit_mod w x i h) ∙ e))
      ∙ sym (ones_count x (w % 2 ^ x) (mod-lt w (pow_pos x)))

  -- so that its genus is the number of standing bits
  pub genus_ones : genus w ≡ ones w
  unfolding genus gaps
  genus_ones = gaps_to_ones 64 ∙ ap ones (mod-eq_of_lt fits)

  -- its conductor and the zeros above the highest standing bit make 65
  pub conductor_leading : conductor w ≡ 65 - count_leading_zeros 64 w
  unfolding set_of
  conductor_leading =
      ⊎_elim
      (λ e.
      let least = conductor_least w fits 1 (omega arith) (λ x l. ap (λ (v : ℕ). set_of v x) e ∙ set_zero x) in
      omega (arith, conductor_pos w, ap (count_leading_zeros 64) e ∙ leading_of_zero 64))
      (λ p.
      let (j, sum, low, high) = leading_top 64 w p fits in
      let top : LargestGapOf (set_of w) (suc j) = record { gap = ap not (bit_highest w j low high); largest = λ x l. element_past w (suc j) x high l } in
      omega (arith, conductor_is w fits (suc j) top))
      (eq-zero-or-pos w)

  -- bit i of the complement stands where i + 1 is an element
  pub bit_element : (i : ℕ) → i < 64 → bit (complement w) i ≡ set_of w (suc i)
  unfolding set_of
  bit_element i h = bit_not 64 w i fits h

  -- its multiplicity is one more than the zeros below the lowest standing bit of the complement
  pub multiplicity_trailing : multiplicity w ≡ count_trailing_zeros 64 (complement w) + 1
  multiplicity_trailing =
      let zeros : ℕ = count_trailing_zeros 64 (complement w) in
      let first-in : set_of w (suc zeros) ≡ true =
      ⊎_elim (λ e. element_past w 64 (suc zeros) fits (omega arith)) (λ l. sym (bit_element zeros l) ∙ trailing_stands 64 (complement w) l)
      (eq-or-lt_of_le (trailing_le 64 (complement w))) in
      let m : ℕ = multiplicity w in
      let pos = multiplicity_pos w fits in
      let same : suc (m - 1) ≡ m = omega arith in
      let none_below : zeros < m =
      lt_of_not-le (λ l. not_both (bit_element (m - 1) (omega (arith, trailing_le 64 (complement w))) ∙ ap (set_of w) same ∙ multiplicity_in w fits)
      (trailing_below 64 (complement w) (m - 1) (omega arith))) in
      omega (arith, multiplicity_least w fits (suc zeros) (omega arith) first-in)

  -- no bit is counted for both: the zeros above the highest standing bit and the ones below the lowest clear bit are at most all 64
  pub counted_once : count_leading_zeros 64 w + count_trailing_zeros 64 (complement w) ≤ 64
  counted_once = omega (arith, leading_le 64 w, conductor_leading, multiplicity_trailing, multiplicity_le_conductor w fits)

  -- moved down by an element, the word and the next number differ in as many low bits as there are numbers from it to the next element
  pub element_mask : (i : ℕ) → let moved = w / 2 ^ element_at w i in bit_xor moved (moved + 1) ≡ 2 ^ (element_at w (suc i) - element_at w i) - 1
  unfolding set_of
  element_mask i =
      let (a, b) : ℕ × ℕ = (element_at w i, element_at w (suc i)) in
      let rise : a < b = element_rises w fits i in
      let next : suc (a + (b - a - 1)) ≡ b = omega arith in
      let size : suc (b - a - 1) ≡ b - a = omega arith in
      xor_next (b - a - 1) (w / 2 ^ a)
      (λ j h. bit_shr w a j ∙ not-false (bit w (a + j)) (is_false (set_of w (suc (a + j))) (λ e. omega (arith, element_next w fits i (suc (a + j)) e (omega arith)))))
      (bit_shr w a (b - a - 1) ∙ not-true (bit w (a + (b - a - 1))) (ap (set_of w) next ∙ element_in w fits (suc i)))
      ∙ ap (λ (k : ℕ). 2 ^ k - 1) size

  -- so do the word itself and the next number, in as many as the multiplicity
  pub multiplicity_mask : bit_xor w (w + 1) ≡ 2 ^ multiplicity w - 1
  multiplicity_mask =
      let itself : w / 2 ^ element_at w 0 ≡ w = ap (λ (n : ℕ). w / 2 ^ n) (element_zero w fits) ∙ div-one w in
      let size : element_at w 1 - element_at w 0 ≡ multiplicity w = omega (arith, element_zero w fits, multiplicity_element w fits) in
      ap (λ (n : ℕ). bit_xor n (n + 1)) (sym itself) ∙ element_mask 0 ∙ ap (λ (n : ℕ). 2 ^ n - 1) size

  -- so that as many low bits of another number stay under the two
  pub and_multiplicity : (T : ℕ) → T < 2 ^ 64 → bit_and T (bit_xor w ((w + 1) % 2 ^ 64)) ≡ T % 2 ^ multiplicity w
  and_multiplicity T h =
      ap (λ (x : ℕ). bit_and T (bit_xor x ((w + 1) % 2 ^ 64))) (sym (mod-eq_of_lt fits)) ∙ ap (bit_and T) (sym (xor_mod w (w + 1) 64))
      ∙ and_low 64 T (bit_xor w (w + 1)) h ∙ ap (bit_and T) multiplicity_mask ∙ and_mask T (multiplicity w)

  -- the conductor and the multiplicity are at most 65
  pub conductor_le : conductor w ≤ 65
  conductor_le = omega (arith, conductor_leading)

  pub multiplicity_le : multiplicity w ≤ 65
  multiplicity_le = omega (arith, conductor_le, multiplicity_le_conductor w fits)
