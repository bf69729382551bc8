-- A child's row as a number, by the bits of the parent's rows: its bits, how many of them stand, and which stand in two rows of the child at once.
-- These are laws of numbers; that the numbers are rows is the law of the child's rows. Assumes nothing.
use Rattle.std.proofs.Common.{◌≡◌, ℕ, ◌+◌, ◌-◌, ◌*◌, ◌/◌, ◌^◌, ◌<◌, ◌≤◌, Bool, true, false, ◌&&◌, ◌||◌, eqb, ltb, length, sym, refl, ap, ◌∙◌, subst, ap₂, lt_of_lt_of_le, lt_of_le_of_lt, lt_of_not-le, div-mul-le_self, arith, pow_pos, pow_mono, shl_lt, shr_lt, le-ltb, lt-ltb, ne_eqb, eqb-true}
use mathlib.Core.Bool.{or-false, and-true, and-false, and_comm, and-or_distrib_left}
use native.Mathlib.Decide.{dec_lt}
use lib.Bits.{bit_and, bit_or, and_le_l, or_lt, or_shifted_r}
use lib.Count.{ones, ones_cat}
use lib.Pow.{shr_le}
use Rattle.semigroups.specs.Lists.{keep, run}
use Rattle.semigroups.specs.Words.{bit, digit}
use Rattle.semigroups.specs.Positions.{positions, above}
use Rattle.semigroups.proofs.Booleans.{by_value, not_both}
use Rattle.semigroups.proofs.Kept.{keep_same, keep_both}
use Rattle.semigroups.proofs.Bits.{bit_of_and, bit_of_or, bit_past, bit_shr, bit_shl_low, bit_digit_at, bits_decide, digit_lt}
use Rattle.semigroups.proofs.StandingBits.{positions_ones, bit_above}
use Rattle.nodes.specs.Nodes.{row_of_child}

-- ---- the later bits of a number

-- their positions
positions_above : (n d : ℕ) → positions (above n d) ≡ keep (ltb d) (positions n)
unfolding positions
positions_above n d =
    keep_same _ _ (run 0 64) (λ i m. elim (dec_lt d i) [
      | yes l ↦ bit_above n d i l ∙ sym (rw (lt-ltb d i l) (and-true (bit n i)))
      | no l ↦ bit_shl_low (n / 2 ^ (d + 1)) (d + 1) i (omega arith) ∙ sym (rw (le-ltb d i (omega arith)) (and-false (bit n i)))
    ])
    ∙ sym (keep_both (ltb d) (bit n) (run 0 64))

-- how many they are
pub later_ones : (n d : ℕ) → n < 2 ^ 64 → ones (n / 2 ^ (d + 1)) ≡ length (keep (ltb d) (positions n))
unfolding ones
later_ones n d fits =
    let same = ones_cat (d + 1) (n / 2 ^ (d + 1)) 0 (pow_pos (d + 1)) in
    let whole : n / 2 ^ (d + 1) * 2 ^ (d + 1) + 0 ≡ above n d = omega arith in
    let small : above n d < 2 ^ 64 = omega (arith, div-mul-le_self n (2 ^ (d + 1))) in
    omega (arith, ap ones whole, positions_ones (above n d) small, ap length (positions_above n d))

-- ---- a row of the child

-- the ones of a digit
ones_digit : (b : Bool) → ones (digit b) ≡ digit b
unfolding ones digit
ones_digit true = refl
ones_digit false = refl

-- its bits: the later ones, and the last where the next row has bit d
pub row_of_child_bit : (row next size d j : ℕ) → bit (row_of_child row next size d) j ≡ (bit row (d + 1 + j) || (eqb j (size - 1) && bit next d))
unfolding row_of_child
row_of_child_bit row next size d j =
    bit_of_or (row / 2 ^ (d + 1)) (digit (bit next d) * 2 ^ (size - 1)) j ∙ ap₂ ◌||◌ (bit_shr row (d + 1) j) (bit_digit_at (bit next d) (size - 1) j)

-- the later bits are below the last
later_lt : (row size d : ℕ) → 0 < size → row < 2 ^ size → row / 2 ^ (d + 1) < 2 ^ (size - 1)
later_lt row size d some short = shr_lt {n = row} (size - 1) (d + 1) (lt_of_lt_of_le short (pow_mono {i = size} {j = size - 1 + (d + 1)} (omega arith)))

-- it is as long
row_of_child_lt : (row next size d : ℕ) → 0 < size → row < 2 ^ size → row_of_child row next size d < 2 ^ size
unfolding row_of_child
row_of_child_lt row next size d some short =
    let whole : 1 + (size - 1) ≡ size = omega arith in
    or_lt size (row / 2 ^ (d + 1)) (digit (bit next d) * 2 ^ (size - 1))
    (lt_of_lt_of_le (later_lt row size d some short) (pow_mono (omega arith)))
    (subst (λ (n : ℕ). digit (bit next d) * 2 ^ (size - 1) < 2 ^ n) whole (shl_lt 1 (size - 1) (digit_lt (bit next d))))

-- ---- how many bits of it stand: those of the later bits, and one more where the last does

module _ (row size d : ℕ) (b : Bool) (some : 0 < size) (short : row < 2 ^ size) where
  pub ones_of_child : ones (bit_or (row / 2 ^ (d + 1)) (digit b * 2 ^ (size - 1))) ≡ ones (row / 2 ^ (d + 1)) + digit b
  ones_of_child =
      let low = later_lt row size d some short in
      omega (
        arith,
        ap ones (or_shifted_r (digit b) (size - 1) (row / 2 ^ (d + 1)) low),
        ones_cat (size - 1) (digit b) (row / 2 ^ (d + 1)) low,
        ones_digit b,
      )

-- ---- what two rows of the child have in common: row and next are the parent's rows of m and u bits, and last is the one after them

module _ (row next last m u d : ℕ) (some : 0 < u) (within : u ≤ m) (first : row < 2 ^ m) (second : next < 2 ^ u) where
  abbrev child : ℕ
  child = row_of_child row next m d

  -- before the last bit of the second, what the parent's rows have in common
  later_both : (j : ℕ) → (bit child j && bit next (d + 1 + j)) ≡ (bit row (d + 1 + j) && bit next (d + 1 + j))
  later_both j =
      by_value (bit next (d + 1 + j))
      (λ e. let near : d + 1 + j < u = lt_of_not-le (λ (far : u ≤ d + 1 + j). not_both e (bit_past next u (d + 1 + j) second far)) in
      let here : bit child j ≡ bit row (d + 1 + j) = row_of_child_bit row next m d j ∙ ap (λ (t : Bool). bit row (d + 1 + j) || (t && bit next d)) (ne_eqb j (m - 1) (λ q. omega arith)) ∙ or-false (bit row (d + 1 + j)) in
      ap (λ (b : Bool). b && bit next (d + 1 + j)) here)
      (λ e. rw e (and-false (bit child j) ∙ sym (and-false (bit row (d + 1 + j)))))

  -- and that last bit, where it stands in the first
  last_both : (j : ℕ) → (bit child j && (eqb j (u - 1) && bit last d)) ≡ (eqb j (u - 1) && (bit last d && bit child (u - 1)))
  last_both j =
      by_value (eqb j (u - 1))
      (λ e. rw (e, eqb-true j (u - 1) e) (and_comm (bit child (u - 1)) (bit last d)))
      (λ e. rw e (and-false (bit child j)))

  -- so that it is a row of the child, too
  pub both_of_child : bit_and (row_of_child row next m d) (row_of_child next last u d)
      ≡ bit_or (bit_and row next / 2 ^ (d + 1)) (digit (bit last d && bit (row_of_child row next m d) (u - 1)) * 2 ^ (u - 1))
  both_of_child =
      bits_decide m _ _
      (lt_of_le_of_lt (and_le_l child (row_of_child next last u d)) (row_of_child_lt row next m d (omega arith) first))
      (or_lt m _ _ later_small last_small)
      (λ j h.
      bit_of_and child (row_of_child next last u d) j ∙ ap (λ (b : Bool). bit child j && b) (row_of_child_bit next last u d j)
      ∙ and-or_distrib_left (bit child j) (bit next (d + 1 + j)) (eqb j (u - 1) && bit last d)
      ∙ ap₂ ◌||◌ (later_both j ∙ sym (bit_shr (bit_and row next) (d + 1) j ∙ bit_of_and row next (d + 1 + j)))
      (last_both j ∙ sym (bit_digit_at (bit last d && bit child (u - 1)) (u - 1) j))
      ∙ sym (bit_of_or (bit_and row next / 2 ^ (d + 1)) (digit (bit last d && bit child (u - 1)) * 2 ^ (u - 1)) j))
    where
      later_small : bit_and row next / 2 ^ (d + 1) < 2 ^ m
      later_small = omega (arith, shr_le (bit_and row next) (d + 1), and_le_l row next, first)

      last_small : digit (bit last d && bit child (u - 1)) * 2 ^ (u - 1) < 2 ^ m
      last_small = lt_of_lt_of_le (shl_lt 1 (u - 1) (digit_lt (bit last d && bit child (u - 1)))) (pow_mono {i = 1 + (u - 1)} {j = m} (omega arith))
