-- Seeds by their orders, definition 1.1 of source 000: its lemma 1.2, and that the entries of row i tell the order-i seeds. Assumes nothing.
use Prim.Native.Nat.{ℕ, suc, ◌+◌, ◌-◌, ◌/◌, ◌%◌, ◌^◌, ◌≤◌, ◌<◌, max}
use mathlib.Core.Path.{◌≡◌, sym, ap, ap₂, ◌∙◌, fun_ext}
use mathlib.Core.Bool.{Bool, true, false, not, ◌&&◌, and-true, and-false}
use native.Mathlib.Omega.{arith}
use native.Mathlib.Nat.{zero-add}
use native.Mathlib.Decide.{dec_lt}
use lib.ListN.{get_or, length-map, get_or-eq_default}
use borrow.Author.Tests.{le-leb, lt-ltb, le-ltb}
use Rattle.semigroups.specs.Lists.{run, every}
use Rattle.semigroups.specs.Sets.{Set, sum_of_two}
use Rattle.semigroups.specs.Words.{bit, set_of, conductor, genus}
use Rattle.semigroups.specs.Elements.{element_at, generator}
use Rattle.semigroups.proofs.Lists.{get_d_map_run, length_run}
use Rattle.semigroups.proofs.Bits.{bit_low, bit_shr}
use Rattle.semigroups.proofs.Sets.{sum_found}
use Rattle.semigroups.proofs.Elements.{element_le_conductor, conductor_pos, genus_lt_conductor, element_zero, element_in, element_rises, element_next, element_from_conductor, generator_from_conductor}
use Rattle.seeds.specs.Seeds.{left_after, seed_of_order, jump, seed, row, seed_table}
use Rattle.seeds.proofs.Seeds.{above_left, seed_entry, table_bit}

module _ (w : ℕ) (fits : w < 2 ^ 64) where
  -- a number not below the conductor plus the length of row i, and two or more past the element of index i, makes with it a sum of two of what is left
  pub sum_past : (i x : ℕ) → conductor w + jump w i ≤ x → suc (element_at w i) < x → sum_of_two (left_after w i) (x + element_at w i) ≡ true
  sum_past i x far beyond =
      let (c, this, next) : ℕ × ℕ × ℕ = (conductor w, element_at w i, element_at w (suc i)) in
      let rise : this < next = element_rises w fits i in
      let near : next ≤ max c (suc this) =
      element_next w fits i (max c (suc this)) (element_from_conductor w fits (max c (suc this)) (omega arith)) (omega arith) in
      let rest : ℕ = x + this - next in
      sum_found (left_after w i) (x + this) next rest (omega arith) (omega arith) (omega arith)
      (above_left w fits i next (element_in w fits (suc i)) rise)
      (above_left w fits i rest (element_from_conductor w fits rest (omega arith)) (omega arith))

  module _ (i : ℕ) (low : i < conductor w - genus w) (x : ℕ) (high : conductor w ≤ x) where
    -- what is left holds x with the element of index i
    left : left_after w i (x + element_at w i) ≡ true
    left = above_left w fits i (x + element_at w i) (element_from_conductor w fits (x + element_at w i) (omega arith)) (omega (arith, conductor_pos w))

    -- so that x is an order-i seed where that is no sum of two elements that are left
    pub seed_sum : seed_of_order w i x ≡ not (sum_of_two (left_after w i) (x + element_at w i))
    unfolding seed_of_order
    seed_sum = simp (le-leb (conductor w) x high, lt-ltb i (conductor w - genus w) low, left, lt-ltb 0 (x + element_at w i) (omega (arith, conductor_pos w)))

    -- lemma 1.2: an order-i seed is below the conductor plus the length of row i
    pub seed_bound : conductor w + jump w i ≤ x → seed_of_order w i x ≡ false
    seed_bound far = seed_sum ∙ ap not (sum_past i x far (omega (arith, element_rises w fits i, element_le_conductor w fits (suc i) (omega arith))))

  module _ (i : ℕ) (low : i < conductor w - genus w) (j : ℕ) where
    -- the length of row i
    abbrev size : ℕ
    size = element_at w (suc i) - element_at w i

    -- an entry of row i tells it
    pub entry_tells : seed w i j ≡ seed_of_order w i (conductor w + j)
    unfolding seed
    entry_tells = sym (seed_sum i low (conductor w + j) (omega arith))

    -- and past the entries there is none
    past : size ≤ j → false ≡ seed_of_order w i (conductor w + j)
    past h = sym (seed_bound i low (conductor w + j) (omega arith) (omega arith))

    -- entry j of row i is 1 exactly where c + j is an order-i seed
    pub row_entry : get_or (row w i) j false ≡ seed_of_order w i (conductor w + j)
    unfolding row
    row_entry = elim (dec_lt j size) [
      | yes h ↦ get_d_map_run (seed w i) false 0 size j h ∙ ap (seed w i) (zero-add j) ∙ entry_tells
      | no h ↦ get_or-eq_default (row w i) false (omega (arith, length-map (run 0 size) (seed w i), length_run 0 size)) ∙ past (omega arith)
    ]

    -- so is bit j of the part of the table that is row i
    pub row_part : bit (seed_table w / 2 ^ element_at w i % 2 ^ (element_at w (suc i) - element_at w i)) j ≡ seed_of_order w i (conductor w + j)
    row_part = bit_low (seed_table w / 2 ^ element_at w i) size j ∙ elim (dec_lt j size) [
      | yes h ↦ ap₂ ◌&&◌ (bit_shr (seed_table w) (element_at w i) j
          ∙ table_bit w fits (element_at w i + j) (omega (arith, element_le_conductor w fits (suc i) (omega arith))) ∙ sym (seed_entry w fits i j (omega arith)))
          (lt-ltb j size h) ∙ and-true (seed w i j) ∙ entry_tells
      | no h ↦ ap (λ (b : Bool). bit (seed_table w / 2 ^ element_at w i) j && b) (le-ltb j size (omega arith)) ∙ and-false (bit (seed_table w / 2 ^ element_at w i) j) ∙ past (omega arith)
    ]

  -- a number not below the conductor is an order-zero seed where it is a generator
  pub order_zero : (x : ℕ) → conductor w ≤ x → seed_of_order w 0 x ≡ generator w x
  unfolding left_after every run
  order_zero x high =
      let same : left_after w 0 ≡ set_of w = fun_ext (λ y. and-true (set_of w y)) in
      let there : x + element_at w 0 ≡ x = omega (arith, element_zero w fits) in
      seed_sum 0 (omega (arith, genus_lt_conductor w fits)) x high ∙ ap₂ (λ (S : Set) (n : ℕ). not (sum_of_two S n)) same there
      ∙ sym (generator_from_conductor w fits x high)
