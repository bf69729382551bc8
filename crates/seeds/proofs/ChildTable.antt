-- Lemma 3.1 of source 000 by the pseudocode after it: the child's table from the parent's. It follows from the form by rows. Assumes nothing.
use Prim.Native.Nat.{ℕ, zero, suc, ◌+◌, ◌*◌, ◌-◌, ◌/◌, ◌^◌, ◌≤◌, ◌<◌}
use mathlib.Core.Path.{◌≡◌, refl, sym, ap, ◌∙◌, subst}
use mathlib.Core.Logic.{◌≢◌}
use mathlib.Core.Bool.{Bool, true, ◌||◌, or-true, or-false, and-false}
use native.Mathlib.Omega.{arith}
use native.Mathlib.Nat.{le_refl, le_trans, lt_of_not-le, le_dest, lt_of_le_of_lt, lt_of_lt_of_le}
use native.Mathlib.Decide.{dec_le}
use lib.Pow.{pow_mono, shr_le, shl_lt}
use lib.Bits.{or_lt}
use Rattle.semigroups.specs.Words.{bit, of_bits, genus, conductor, closed, child_word}
use Rattle.semigroups.specs.Elements.{generator}
use Rattle.semigroups.proofs.Bits.{bit_of_or, bit_shr, bit_shl, bit_shl_low, bits_decide, bit_of_bits, of_bits_lt}
use Rattle.semigroups.proofs.Elements.{largest_gap_pos, element_from_conductor}
use Rattle.semigroups.proofs.Children.{generator_le_63}
use Rattle.seeds.specs.Seeds.{seed_table}
use Rattle.seeds.specs.Child.{raked, child_bits, child_table}
use Rattle.seeds.proofs.Seeds.{entry_at, table_lt, table_bit}
use Rattle.seeds.proofs.Raking.{element_met, raked_bit, raked_le}
use Rattle.seeds.proofs.ChildRows.{kept, child_bits_length, child_bits_last, child_bits_kept, child_rows}

-- the three lowest bits of 7 are 1
seven : (i : ℕ) → i < 3 → bit 7 i ≡ true
unfolding bit
seven zero h = refl
seven (suc zero) h = refl
seven (suc (suc zero)) h = refl
seven (suc (suc (suc i))) h = absurd (omega arith)

-- three ones from bit k on
last_three : (k l : ℕ) → k ≤ l → l < k + 3 → bit (7 * 2 ^ k) l ≡ true
last_three k l m h =
    let (i, e) = le_dest m in
    ap (bit (7 * 2 ^ k)) (sym e) ∙ bit_shl 7 k i ∙ seven i (omega arith)

-- bit l of the table that the pseudocode makes of the table S
module _ (w S c d l : ℕ) where
  -- bit l of the raked table without its first d + 1 bits
  abbrev shifted : Bool
  shifted = bit (raked w S d / 2 ^ (d + 1)) l

  -- it stands there, or as one of the last three
  child_table_bit : bit (child_table w S c d) l ≡ (shifted || bit (7 * 2 ^ (c + d - 2)) l)
  unfolding child_table
  child_table_bit = bit_of_or (raked w S d / 2 ^ (d + 1)) (7 * 2 ^ (c + d - 2)) l

  -- the last three are 1
  child_table_last : c + d - 2 ≤ l → l < c + d - 2 + 3 → bit (child_table w S c d) l ≡ true
  child_table_last low high = child_table_bit ∙ ap (λ (b : Bool). shifted || b) (last_three (c + d - 2) l low high) ∙ or-true shifted

  -- those below are the bits of the raked table, from bit d + 1 on
  child_table_raked : l < c + d - 2 → bit (child_table w S c d) l ≡ bit (raked w S d) (d + 1 + l)
  child_table_raked h =
      child_table_bit ∙ ap (λ (b : Bool). shifted || b) (bit_shl_low 7 (c + d - 2) l h) ∙ or-false shifted ∙ bit_shr (raked w S d) (d + 1) l

module _ (w d : ℕ) (fits : w < 2 ^ 64) where
  abbrev c : ℕ
  c = conductor w

  -- the raked table has the bits that are kept, and where d is not 0 none past those of the table
  raked_kept : (p : ℕ) → (c ≤ p → 0 < d) → bit (raked w (seed_table w) d) p ≡ kept w d p
  raked_kept p some = raked_bit w (seed_table w) d p ∙ elim (dec_le c p) [
    | yes h ↦ rw (element_met w p d p (element_from_conductor w fits p h) (le_refl p) (omega (arith, some h)))
        (and-false (bit (seed_table w) p) ∙ sym (and-false (entry_at w p)))
    | no h ↦ rw (table_bit w fits p (lt_of_not-le h))
  ]

  -- by rows and by the pseudocode the child's bits are the same
  same_bits : w ≢ 0 → (l : ℕ) → l < suc (c + d) → bit (of_bits (child_bits w d)) l ≡ bit (child_table w (seed_table w) c d) l
  same_bits nonzero l h = bit_of_bits (child_bits w d) l ∙ elim (dec_le (c + d - 2) l) [
    | yes k ↦ child_bits_last w d fits nonzero l k h ∙ sym (child_table_last w (seed_table w) c d l k (omega arith))
    | no k ↦ child_bits_kept w d fits nonzero l (lt_of_not-le k)
        ∙ sym (child_table_raked w (seed_table w) c d l (lt_of_not-le k) ∙ raked_kept (d + 1 + l) (λ m. omega arith))
  ]

  -- lemma 3.1: the child's table, from the table of any word but 0
  pub child_table_is : conductor w + d ≤ 64 → w ≢ 0 → seed_table (child_word w (conductor w + d)) ≡ child_table w (seed_table w) (conductor w) d
  unfolding child_table seed_table conductor
  child_table_is room nonzero =
      let two = largest_gap_pos w fits nonzero in
      let three : 3 + (c + d - 2) ≡ suc (c + d) = omega arith in
      let later : raked w (seed_table w) d / 2 ^ (d + 1) < 2 ^ suc (c + d) =
      lt_of_le_of_lt (le_trans (shr_le (raked w (seed_table w) d) (d + 1)) (raked_le w (seed_table w) d)) (lt_of_lt_of_le (table_lt w fits) (pow_mono (omega arith))) in
      let ones : 7 * 2 ^ (c + d - 2) < 2 ^ suc (c + d) = subst (λ (n : ℕ). 7 * 2 ^ (c + d - 2) < 2 ^ n) three (shl_lt 3 (c + d - 2) (omega arith)) in
      ap of_bits (child_rows w d fits room nonzero)
      ∙ bits_decide (suc (c + d)) (of_bits (child_bits w d)) (child_table w (seed_table w) c d)
      (subst (λ (n : ℕ). of_bits (child_bits w d) < 2 ^ n) (child_bits_length w d fits nonzero) (of_bits_lt (child_bits w d)))
      (or_lt (suc (c + d)) (raked w (seed_table w) d / 2 ^ (d + 1)) (7 * 2 ^ (c + d - 2)) later ones)
      (same_bits nonzero)

-- the same for each generator not below the conductor of a closed word of genus 31 at most
pub generator_table : (w d : ℕ) → w < 2 ^ 64 → closed w ≡ true → genus w ≤ 31 → w ≢ 0 → generator w (conductor w + d) ≡ true
    → seed_table (child_word w (conductor w + d)) ≡ child_table w (seed_table w) (conductor w) d
generator_table w d fits c h nonzero g =
    child_table_is w d fits (omega (arith, generator_le_63 w (conductor w + d) fits (omega arith) c g h)) nonzero
