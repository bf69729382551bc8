-- The number of great-grandchildren by rows 0, 1 and 2 of the table where k is at least 3, the theorem of source 001: the grandchildren of each
-- child by its rows 0 and 1, which the law of the child's rows tells. Assumes nothing.
use Rattle.std.proofs.Common.{◌≡◌, ℕ, ◌+◌, ◌-◌, ◌*◌, ◌/◌, ◌%◌, ◌^◌, ◌<◌, ◌≤◌, Bool, true, ◌&&◌, ◌||◌, eqb, ltb, List, length, sym, ap, ◌∙◌, ap₂, le_trans, lt_of_lt_of_le, lt_of_le_of_lt, mod-lt, lt_of_not-le, mul-one, arith, pow_pos, pow_mono, eq-eqb, ne_eqb}
use mathlib.Core.Bool.{or-false, and_comm, and_assoc}
use mathlib.Core.List.{Memᴰ}
use native.Mathlib.Decide.{dec_lt}
use lib.Bits.{bit_and, and_le_l, and_le_r, and_mod}
use lib.Bits as bits
use lib.Count.{ones}
use Rattle.semigroups.specs.Lists.{keep, sum_over}
use Rattle.semigroups.specs.Words.{bit, digit, set_of, genus, conductor, child_word}
use Rattle.semigroups.specs.Positions.{positions}
use Rattle.semigroups.specs.Elements.{element_at, multiplicity}
use Rattle.semigroups.specs.GenusList.{descendant_count}
use Rattle.semigroups.specs.Tree.{leaves}
use Rattle.semigroups.proofs.Booleans.{by_value, not_both}
use Rattle.semigroups.proofs.Lists.{length_joined, sum_same, sum_plus, sum_kept, sum_of_ones}
use Rattle.semigroups.proofs.Kept.{keep_same, keep_both}
use Rattle.semigroups.proofs.Bits.{bit_of_and, bit_past, bit_mod, bit_shr, bits_decide, and_low}
use Rattle.semigroups.proofs.StandingBits.{positions_mem, positions_ordered, positions_ones, positions_and}
use Rattle.semigroups.proofs.Elements.{element_in, element_next, element_rises, multiplicity_in, multiplicity_pos, multiplicity_element}
use Rattle.semigroups.proofs.Closure.{closed_iff}
use Rattle.semigroups.proofs.GapLists.{extensions_count}
use Rattle.semigroups.proofs.Leaves.{descendants_leaves}
use Rattle.seeds.specs.Seeds.{jump, seed_table}
use Rattle.seeds.specs.Grandchildren.{pairs}
use Rattle.seeds.specs.GreatGrandchildren.{great_grandchild_count, triples, weight, great_count_by_weights}
use Rattle.seeds.proofs.Seeds.{table_lt}
use Rattle.seeds.proofs.Triples.{later_triples}
use Rattle.nodes.specs.Nodes.{node_of, first_row, second_row, row_at, row_of_child}
use Rattle.nodes.specs.RowCounts.{count_by_rows, great_count_by_rows}
use Rattle.nodes.specs.Levels.{Levels}
use Rattle.nodes.specs.Branches.{branches}
use Rattle.nodes.specs.declared.Node.{Node}
use Rattle.nodes.proofs.Rows.{second_row_at, row_at_lt}
use Rattle.nodes.proofs.ChildRow.{first_row_of_child, second_row_of_child}
use Rattle.nodes.proofs.RowBits.{later_ones, row_of_child_bit, ones_of_child, both_of_child}
use Rattle.nodes.proofs.Nodes.{first_row_generators, first_row_fits}
use Rattle.nodes.proofs.Branches.{child_of_generator, child_levels, leaves_row, offsets_row}
use Rattle.nodes.proofs.GrandchildCounts.{rows_count}

-- a sum of digits counts
digits_sum : (p : ℕ → Bool) (l : List ℕ) → sum_over (λ x. digit (p x)) l ≡ length (keep p l)
digits_sum p l = sum_same _ _ l (λ x m. sym (mul-one (digit (p x)))) ∙ sym (sum_kept (λ x. 1) p l) ∙ sum_of_ones (keep p l)

-- what three numbers have in common, in another order
and_swap : (n a b c : ℕ) → a < 2 ^ n → bit_and (bit_and a b) c ≡ bit_and (bit_and a c) b
and_swap n a b c small =
    bits_decide n _ _ (omega (arith, and_le_l (bit_and a b) c, and_le_l a b)) (omega (arith, and_le_l (bit_and a c) b, and_le_l a c))
    (λ i h.
    bit_of_and (bit_and a b) c i ∙ ap (λ (t : Bool). t && bit c i) (bit_of_and a b i) ∙ swap (bit a i) (bit b i) (bit c i)
    ∙ sym (bit_of_and (bit_and a c) b i ∙ ap (λ (t : Bool). t && bit b i) (bit_of_and a c i)))
  where
    swap : (p q r : Bool) → ((p && q) && r) ≡ ((p && r) && q)
    swap p q r = and_assoc p q r ∙ ap (λ (t : Bool). p && t) (and_comm q r) ∙ sym (and_assoc p r q)

-- the weight of what two numbers have in common, with the second cut
weight_and : (n a b : ℕ) → weight n (bit_and a b) ≡ ones (bit_and a (b % 2 ^ n))
unfolding weight
weight_and n a b =
    ap ones (and_mod a b n ∙ bits.and_comm (a % 2 ^ n) (b % 2 ^ n) ∙ and_low n (b % 2 ^ n) a (mod-lt b (pow_pos n)) ∙ bits.and_comm (b % 2 ^ n) a)

module _ (w : ℕ) (at : Levels 3 w) (three : 3 ≤ conductor w - genus w) where
  abbrev m : ℕ
  m = multiplicity w

  -- the lengths of rows 1 and 2
  abbrev u : ℕ
  u = jump w 1

  abbrev v : ℕ
  v = jump w 2

  -- the table, and rows 0, 1 and 2
  abbrev S : ℕ
  S = seed_table w

  abbrev row_0 : ℕ
  row_0 = first_row (node_of w)

  abbrev row_1 : ℕ
  row_1 = second_row (node_of w)

  abbrev row_2 : ℕ
  row_2 = row_at (node_of w) 2

  -- the offsets of the generators
  abbrev offsets : List ℕ
  offsets = positions row_0

  -- the genus, and that rows 0 and 1 are short
  few : genus w ≤ 32
  few = omega (arith, at.few)

  row_0_fits : row_0 < 2 ^ 64
  row_0_fits = first_row_fits w at.fits at.closed few

  row_0_lt : row_0 < 2 ^ m
  unfolding node_of first_row
  row_0_lt = mod-lt S (pow_pos m)

  row_1_lt : row_1 < 2 ^ u
  unfolding node_of
  row_1_lt = rw (second_row_at (node_of w) at.fits) (row_at_lt w at.fits 1)

  -- 2 m is an element
  twice_in : set_of w (m + m) ≡ true
  twice_in = (closed_iff w at.fits).0 at.closed m m (multiplicity_in w at.fits) (multiplicity_in w at.fits)

  -- so that row 1, which has an entry, is no longer than row 0
  some_1 : 0 < u
  some_1 = omega (arith, element_rises w at.fits 1)

  within : u ≤ m
  within = omega (arith, multiplicity_element w at.fits, element_next w at.fits 1 (m + m) twice_in (omega (arith, multiplicity_element w at.fits, multiplicity_pos w at.fits)))

  -- and where it is shorter, rows 1 and 2 together are no longer
  within_both : u < m → u + v ≤ m
  within_both less = omega (arith, multiplicity_element w at.fits, element_next w at.fits 2 (m + m) twice_in (omega (arith, multiplicity_element w at.fits)), element_rises w at.fits 1)

  module _ (d : ℕ) (i : Memᴰ d offsets) where
    -- row 0 of the child at d
    abbrev child_0 : ℕ
    child_0 = row_of_child row_0 row_1 m d

    -- d is an offset of row 0
    near_0 : d < m
    near_0 = lt_of_not-le (λ (far : m ≤ d). not_both (positions_mem row_0 i).1 (bit_past row_0 m d row_0_lt far))

    -- its bit u - 1 is entry u + d of the table, where row 2 has bit d
    last_entry : bit row_2 d ≡ true → bit child_0 (u - 1) ≡ bit (S / 2 ^ u) d
    unfolding node_of first_row second_row
    last_entry stands =
        let near-2 : d < v = lt_of_not-le (λ (far : v ≤ d). not_both stands (bit_past row_2 v d (row_at_lt w at.fits 2) far)) in
        let there : d + 1 + (u - 1) ≡ u + d = omega (arith, some_1) in
        row_of_child_bit row_0 row_1 m d (u - 1) ∙ ap (λ (k : ℕ). bit row_0 k || (eqb (u - 1) (m - 1) && bit row_1 d)) there
        ∙ elim (dec_lt u m) [
          | yes less ↦ rw (ne_eqb (u - 1) (m - 1) (λ q. omega (arith, some_1))) (or-false (bit row_0 (u + d)) ∙ bit_mod S m (u + d) (omega (arith, within_both less)))
          | no less ↦
              let all : m ≡ u = omega (arith, within) in
              let near-1 : d < element_at w 2 - m = omega (arith, near_0, multiplicity_element w at.fits) in
              rw (bit_past row_0 m (u + d) row_0_lt (omega arith), eq-eqb (u - 1) (m - 1) (omega arith))
              (bit_mod (S / 2 ^ m) (element_at w 2 - m) d near-1 ∙ bit_shr S m d ∙ ap (λ (k : ℕ). bit S (k + d)) all)
        ]
        ∙ sym (bit_shr S u d)

    -- so that the table tells of the seeds of the child which one is new
    last_told : (bit row_2 d && bit child_0 (u - 1)) ≡ (bit row_2 d && bit (S / 2 ^ u) d)
    last_told = by_value (bit row_2 d) (λ e. ap (λ (b : Bool). bit row_2 d && b) (last_entry e)) (λ e. rw e)

    -- the generators of the child, and those of them that are order-one seeds
    generators_count : ones child_0 ≡ length (keep (ltb d) offsets) + digit (bit row_1 d)
    unfolding row_of_child
    generators_count =
        ones_of_child row_0 m d (bit row_1 d) (multiplicity_pos w at.fits) row_0_lt ∙ ap (λ (k : ℕ). k + digit (bit row_1 d)) (later_ones row_0 d row_0_fits)

    seeds_count : ones (bit_and child_0 (row_of_child row_1 row_2 u d)) ≡ length (keep (bit row_1) (keep (ltb d) offsets)) + digit (bit row_2 d && bit (S / 2 ^ u) d)
    seeds_count =
        let both : ℕ = bit_and row_0 row_1 in
        let both-le = and_le_l row_0 row_1 in
        let swap = keep_both (ltb d) (bit row_1) offsets ∙ keep_same _ _ offsets (λ j k. and_comm (bit row_1 j) (ltb d j)) ∙ sym (keep_both (bit row_1) (ltb d) offsets) in
        ap ones (both_of_child row_0 row_1 row_2 m u d some_1 within row_0_lt row_1_lt)
        ∙ ones_of_child both u d _ some_1 (lt_of_le_of_lt (and_le_r row_0 row_1) row_1_lt)
        ∙ ap₂ (λ (k : ℕ) (b : Bool). k + digit b)
        (later_ones both d (omega (arith, row_0_fits)) ∙ ap (λ (l : List ℕ). length (keep (ltb d) l)) (sym (positions_and row_0 row_1)) ∙ ap length swap) last_told

    -- so many words there are two levels below it
    child_count : length (leaves 2 (child_word w (conductor w + d)))
        ≡ pairs (length (keep (ltb d) offsets) + digit (bit row_1 d)) + length (keep (bit row_1) (keep (ltb d) offsets)) + digit (bit row_2 d && bit (S / 2 ^ u) d)
    unfolding count_by_rows
    child_count =
        let g = offsets_row 2 w row_0 (first_row_generators w at.fits at.closed few) d i in
        let child = child_of_generator 2 w at g in
        let two : 2 ≤ conductor (child_word w (conductor w + d)) - genus (child_word w (conductor w + d)) = omega (arith, child.new_conductor, child.new_genus) in
        sym (rows_count (child_word w (conductor w + d)) child.fits child.closed two (child_levels 2 w at g))
        ∙ ap₂ (λ (a b : ℕ). pairs (ones a) + ones (bit_and a b)) (first_row_of_child w d at.fits child.fits (omega arith)) (second_row_of_child w d at.fits child.fits three)
        ∙ ap₂ (λ (a b : ℕ). pairs a + b) generators_count seeds_count ∙ omega arith

  -- of the offsets of the generators, those that one and two more numbers have
  kept_count : (a : ℕ) → length (keep (bit a) offsets) ≡ ones (bit_and row_0 a)
  kept_count a = ap length (positions_and row_0 a) ∙ positions_ones (bit_and row_0 a) (lt_of_le_of_lt (and_le_l row_0 a) row_0_fits)

  kept_twice : (a b : ℕ) → length (keep (λ d. bit a d && bit b d) offsets) ≡ ones (bit_and (bit_and row_0 a) b)
  kept_twice a b =
      ap length (sym (keep_both (bit b) (bit a) offsets) ∙ ap (keep (bit b)) (positions_and row_0 a) ∙ positions_and (bit_and row_0 a) b)
      ∙ positions_ones (bit_and (bit_and row_0 a) b) (lt_of_le_of_lt (le_trans (and_le_l (bit_and row_0 a) b) (and_le_l row_0 a)) row_0_fits)

  -- so many words there are three levels below w
  pub great_rows_count : great_count_by_rows (node_of w) ≡ length (leaves 3 w)
  unfolding branches great_count_by_rows node_of
  great_rows_count =
      sym (ap length (leaves_row 2 w row_0 (first_row_generators w at.fits at.closed few))
      ∙ length_joined (λ d. leaves 2 (child_word w (conductor w + d))) offsets
      ∙ sum_same _ _ offsets child_count
      ∙ sum_plus (λ d. pairs (length (keep (ltb d) offsets) + digit (bit row_1 d)) + length (keep (bit row_1) (keep (ltb d) offsets))) _ offsets
      ∙ ap₂ ◌+◌
      (later_triples (bit row_1) offsets (positions_ordered row_0) ∙ ap₂ (λ (a b : ℕ). triples a + b * (a - 1)) (positions_ones row_0 row_0_fits) (kept_count row_1))
      (digits_sum _ offsets ∙ kept_twice row_2 (S / 2 ^ u)))

  -- ---- as the source states it

  -- row 2 is no longer than row 0
  within_2 : v ≤ m
  within_2 =
      let sum = (closed_iff w at.fits).0 at.closed (element_at w 2) m (element_in w at.fits 2) (multiplicity_in w at.fits) in
      omega (arith, element_next w at.fits 2 (element_at w 2 + m) sum (omega (arith, multiplicity_pos w at.fits)))

  -- rows 1 and 2 have with the whole table what they have with row 0
  with_table : (a : ℕ) → a < 2 ^ m → bit_and S a ≡ bit_and row_0 a
  unfolding node_of first_row
  with_table a small = bits.and_comm S a ∙ sym (and_low m a S small) ∙ bits.and_comm a row_0

  -- the second weight, and the third
  second_weight : weight u (bit_and S (S / 2 ^ m)) ≡ ones (bit_and row_0 row_1)
  unfolding node_of second_row
  second_weight =
      let length-1 : u ≡ element_at w 2 - m = omega (arith, multiplicity_element w at.fits) in
      weight_and u S (S / 2 ^ m) ∙ ap (λ (k : ℕ). ones (bit_and S (S / 2 ^ m % 2 ^ k))) length-1
      ∙ ap ones (with_table row_1 (lt_of_lt_of_le row_1_lt (pow_mono within)))

  third_weight : weight v (bit_and (bit_and S (S / 2 ^ u)) (S / 2 ^ (u + m))) ≡ ones (bit_and (bit_and row_0 row_2) (S / 2 ^ u))
  unfolding node_of row_at
  third_weight =
      let start : u + m ≡ element_at w 2 = omega (arith, multiplicity_element w at.fits, element_rises w at.fits 1) in
      weight_and v (bit_and S (S / 2 ^ u)) (S / 2 ^ (u + m)) ∙ ap (λ (k : ℕ). ones (bit_and (bit_and S (S / 2 ^ u)) (S / 2 ^ k % 2 ^ v))) start
      ∙ ap ones (and_swap (conductor w) S (S / 2 ^ u) row_2 (table_lt w at.fits) ∙ ap (λ (a : ℕ). bit_and a (S / 2 ^ u)) (with_table row_2 (lt_of_lt_of_le (row_at_lt w at.fits 2) (pow_mono within_2))))

  -- the theorem of source 001: the number of all numerical semigroups with three gaps more whose smallest gaps are those of w
  pub great_grandchildren_by_weights : great_count_by_weights w ≡ great_grandchild_count w
  unfolding great_count_by_weights great_grandchild_count great_count_by_rows descendant_count weight node_of first_row
  great_grandchildren_by_weights =
      ap₂ (λ (a b : ℕ). triples (ones row_0) + a * (ones row_0 - 1) + b) second_weight third_weight
      ∙ great_rows_count ∙ sym (extensions_count 3 w at.few ∙ ap length (descendants_leaves 3 w at.fits at.closed at.few))

-- with an empty row 0 there is none
pub no_great_generators : (n : Node) → first_row n ≡ 0 → great_count_by_rows n ≡ 0
unfolding great_count_by_rows triples ones
no_great_generators n e =
    ap (λ (row : ℕ). triples (ones row) + ones (bit_and row (second_row n)) * (ones row - 1) + ones (bit_and (bit_and row (row_at n 2)) (n.table / 2 ^ jump n.word 1))) e

-- and without a row 2 its seeds make none
pub no_third_row : (n : Node) → row_at n 2 ≡ 0
    → triples (ones (first_row n)) + ones (bit_and (first_row n) (second_row n)) * (ones (first_row n) - 1) ≡ great_count_by_rows n
unfolding great_count_by_rows ones
no_third_row n none =
    let last : ones (bit_and (bit_and (first_row n) (row_at n 2)) (n.table / 2 ^ jump n.word 1)) ≡ 0 =
    rw (none, bits.and_zero_r (first_row n), bits.and_zero_l (n.table / 2 ^ jump n.word 1)) in
    omega (arith, last)
