-- Nodes: the child of the node of a word is the node of the child's word, the first row has the right generators, and the next offset
-- leads to the next gap. Assumes nothing.
use Rattle.std.proofs.Common.{◌≡◌, ℕ, suc, ◌+◌, ◌-◌, ◌*◌, ◌/◌, ◌%◌, ◌^◌, ◌<◌, ◌≤◌, true, false, not, ltb, leb, ◌≢◌, List, [], ◌∷◌, ◌++◌, map, length, get_or, sym, refl, ap, ◌∙◌, ap₂, suc-le-suc, lt_of_lt_of_le, lt_of_le_of_lt, lt_of_not-le, add-one, arith, pow_mono, shl_exact, le-ltb, lt-ltb, eq-eqb, ne_eqb, le-leb, leb-true}
use mathlib.Core.Bool.{not-not}
use mathlib.Core.List.{Memᴰ}
use native.Mathlib.Nat.{le_dest, mod-le}
use native.Mathlib.Decide.{ℕ_discrete}
use lib.ListN.{length-map}
use lib.Pow.{shr_le}
use lib.Bits.{bit_or}
use lib.Count.{ones, count_trailing_zeros}
use borrow.Author.Tests.{not-true}
use Rattle.semigroups.specs.Lists.{run, keep, keep_if, every, joined, last_or}
use Rattle.semigroups.specs.Sets.{sum_of_two}
use Rattle.semigroups.specs.Words.{bit, digit, set_of, gaps, genus, largest_gap, conductor, closed, child_word, of_bits}
use Rattle.semigroups.specs.Positions.{positions}
use Rattle.semigroups.specs.Elements.{elements_below, element_at, right_generators}
use Rattle.semigroups.proofs.Booleans.{not_both, by_value}
use Rattle.semigroups.proofs.Lists.{nothing, keep_mem, mem_keep, keep_in, keep_append, ordered_keep, first_least}
use Rattle.semigroups.proofs.Bits.{bit_shr, bit_zero, one_shl}
use Rattle.semigroups.proofs.StandingBits.{trailing_below, trailing_stands, trailing_lt, positions_ones}
use Rattle.semigroups.proofs.Words.{child_or, gaps_mem, mem_gaps, gaps_list}
use Rattle.semigroups.proofs.Elements.{conductor_pos, largest_gap_pos, gap_below_conductor, element_from_conductor, multiplicity_le_conductor, generator_offset, right_generators_mem}
use Rattle.semigroups.proofs.Closure.{conductor_le_64}
use Rattle.semigroups.proofs.Children.{child_at_generator}
use Rattle.semigroups.proofs.Tree.{x_high}
use Rattle.seeds.specs.Seeds.{left_after, seed, row, seed_bits, seed_table}
use Rattle.seeds.specs.Child.{raked, child_table}
use Rattle.seeds.proofs.Seeds.{table_lt}
use Rattle.seeds.proofs.ChildTable.{generator_table}
use Rattle.nodes.specs.Nodes.{node_of, root_child, child_at, child_node, first_row, next_offset}
use Rattle.nodes.specs.declared.Node.{Node}
use Rattle.nodes.proofs.FirstRow.{right_generators_row}

-- ---- the child

-- the nodes of the words 0 and 1
pub first_nodes : (node_of 0 ≡ record { word = 0; table = 1; conductor = 1 }) × (node_of 1 ≡ root_child)
unfolding run keep keep_if every joined bit set_of gaps genus last_or largest_gap conductor elements_below element_at sum_of_two left_after seed row seed_bits digit of_bits seed_table node_of
first_nodes = (refl, refl)

-- by the cases of the definition
module _ (n : Node) (d : ℕ) where
  pub child_root : n.word ≡ 0 → child_node n d ≡ root_child
  unfolding child_node
  child_root e = simp (eq-eqb n.word 0 e)

  pub child_low : n.word ≢ 0 → n.conductor < 2 → child_node n d ≡ n
  unfolding child_node
  child_low e l = simp (ne_eqb n.word 0 e, lt-ltb n.conductor 2 l)

  pub child_far : n.word ≢ 0 → 2 ≤ n.conductor → 63 < n.conductor + d → child_node n d ≡ n
  unfolding child_node
  child_far e l h = simp (ne_eqb n.word 0 e, le-ltb n.conductor 2 l, lt-ltb 63 (n.conductor + d) h)

  pub child_in : n.word ≢ 0 → 2 ≤ n.conductor → n.conductor + d ≤ 63 → child_node n d ≡ child_at n d
  unfolding child_node
  child_in e l h = simp (ne_eqb n.word 0 e, le-ltb n.conductor 2 l, le-ltb 63 (n.conductor + d) h)

  -- the child as the code computes it, where x is the element at the offset and s is the raked table
  pub child_computed : (x s : ℕ) → n.word ≢ 0 → 2 ≤ n.conductor → x ≡ n.conductor + d → x ≤ 63 → s ≡ raked n.word n.table d
      → record {
        word = bit_or n.word (1 * 2 ^ (x - 1) % 2 ^ 64);
        table = bit_or (s / 2 ^ (d + 1)) (7 * 2 ^ (x - 2) % 2 ^ 64);
        conductor = x + 1;
      } ≡ child_node n d
  unfolding child_at child_table
  child_computed x s e l there h r =
      rw (there, r, one_shl (n.conductor + d - 1) (omega arith), shl_exact {a = 7} 3 (n.conductor + d - 2) 64 (omega arith) (omega arith))
      (sym (child_in e l (omega arith)))

module _ (w : ℕ) (fits : w < 2 ^ 64) where
  -- the child of a word's node at a right generator is the node of the child's word
  pub node_child : (d : ℕ) → closed w ≡ true → genus w ≤ 31 → Memᴰ (conductor w + d) (right_generators w)
      → child_node (node_of w) d ≡ node_of (child_word w (conductor w + d))
  unfolding node_of child_word conductor child_at
  node_child d c h m = elim (ℕ_discrete w 0) [ yes zero ↦ from_zero zero | no nonzero ↦ from_nonzero nonzero ]
    where
      -- the word 0 has the generator 1 only
      from_zero : w ≡ 0 → child_node (node_of w) d ≡ node_of (child_word w (conductor w + d))
      from_zero zero =
          let one : conductor w ≡ 1 = ap conductor zero ∙ ap (λ (n : Node). n.conductor) first_nodes.0 in
          let first : conductor w + d ≡ 1 =
          omega (arith, generator_offset w fits d (right_generators_mem w fits m).1, multiplicity_le_conductor w fits) in
          child_root (node_of w) d zero ∙ sym first_nodes.1 ∙ ap node_of (sym (ap₂ child_word zero first))

      from_nonzero : w ≢ 0 → child_node (node_of w) d ≡ node_of (child_word w (conductor w + d))
      from_nonzero nonzero =
          let v = child_at_generator w (conductor w + d) fits c h m in
          child_in (node_of w) d nonzero (suc-le-suc (largest_gap_pos w fits nonzero)) v.low
          ∙ (λ i. record {
            word = child_or w (conductor w + d) (omega (arith, conductor_pos w)) (element_from_conductor w fits (conductor w + d) (omega arith)) i;
            table = sym (generator_table w d fits c h nonzero (right_generators_mem w fits m).1) i;
            conductor = (add-one (conductor w + d) ∙ sym v.new_conductor) i;
          })

  -- the right generators are at the offsets that are bits of the first row
  pub first_row_generators : closed w ≡ true → genus w ≤ 32 → right_generators w ≡ map (λ d. conductor w + d) (positions (first_row (node_of w)))
  unfolding node_of first_row
  first_row_generators = right_generators_row w fits

  -- the table is a number of 64 bits
  pub table_fits : closed w ≡ true → genus w ≤ 32 → seed_table w < 2 ^ 64
  table_fits c h = lt_of_lt_of_le (table_lt w fits) (pow_mono {j = 64} (conductor_le_64 w fits c h))

  -- and so is row 0
  pub first_row_fits : closed w ≡ true → genus w ≤ 32 → first_row (node_of w) < 2 ^ 64
  unfolding node_of first_row
  first_row_fits c h = lt_of_le_of_lt (mod-le (seed_table w) _) (table_fits c h)

  -- whose ones are the right generators
  pub first_row_count : closed w ≡ true → genus w ≤ 32 → length (right_generators w) ≡ ones (first_row (node_of w))
  first_row_count c h =
      let row = first_row (node_of w) in
      ap length (first_row_generators c h) ∙ length-map (positions row) (λ d. conductor w + d) ∙ positions_ones row (first_row_fits c h)

-- ---- the next offset

module _ (c v : ℕ) where
  -- 0 where no gap of v is c or more
  pub none_next : ((x : ℕ) → set_of v x ≡ false → c ≤ x → ⊥) → next_offset c v ≡ 0
  unfolding next_offset
  none_next none =
      let empty : keep (leb c) (gaps v) ≡ [] =
      nothing (keep (leb c) (gaps v)) (λ x m. let (i, e) = keep_mem (leb c) (gaps v) m in none x (gaps_mem v i) (leb-true c x e)) in
      let zero : c - c ≡ 0 = omega arith in
      by_value (ltb 0 c) (λ e. simp (e, empty, zero)) (λ e. simp e)

  -- d where c + d is the first that is
  pub next_is : (d : ℕ) → 0 < c → v < 2 ^ 64 → set_of v (c + d) ≡ false → ((x : ℕ) → set_of v x ≡ false → c ≤ x → c + d ≤ x) → next_offset c v ≡ d
  unfolding next_offset
  next_is d pos fits gap least =
      let first : get_or (keep (leb c) (gaps v)) 0 c ≡ c + d =
      first_least (keep (leb c) (gaps v)) (c + d) c (ordered_keep ◌<◌ (leb c) (gaps v) (gaps_list v).ordered)
      (mem_keep (leb c) (gaps v) (mem_gaps v (c + d) fits gap) (le-leb c (c + d) (omega arith)))
      (λ x m. let (i, e) = keep_mem (leb c) (gaps v) m in least x (gaps_mem v i) (leb-true c x e)) in
      simp (lt-ltb 0 c pos, first) (omega arith)

-- by v shifted down by c - 1
module _ (c v : ℕ) (pos : 0 < c) (fits : v < 2 ^ 64) where
  abbrev shifted : ℕ
  shifted = v / 2 ^ (c - 1)

  -- its bit d tells whether c + d is a gap
  shifted_bit : (d : ℕ) → bit shifted d ≡ not (set_of v (c + d))
  unfolding set_of
  shifted_bit d =
      let same : suc (c - 1 + d) ≡ c + d = omega arith in
      bit_shr v (c - 1) d ∙ sym (not-not (bit v (c - 1 + d))) ∙ ap (λ (x : ℕ). not (set_of v x)) same

  -- where it is 0, no gap is left
  pub shifted_none : shifted ≡ 0 → next_offset c v ≡ 0
  shifted_none zero = none_next c v (λ x gap high.
      let (d, e) = le_dest high in
      not_both (shifted_bit d ∙ ap not (ap (set_of v) e ∙ gap)) (ap (λ (a : ℕ). bit a d) zero ∙ bit_zero d))

  -- otherwise its lowest standing bit is the next gap
  pub shifted_some : shifted ≢ 0 → next_offset c v ≡ count_trailing_zeros 64 shifted
  shifted_some some =
      let t : ℕ = count_trailing_zeros 64 shifted in
      let stands = trailing_stands 64 shifted (trailing_lt 64 shifted (omega arith) (lt_of_le_of_lt (shr_le v (c - 1)) fits)) in
      next_is c v t pos fits (not-true (set_of v (c + t)) (sym (shifted_bit t) ∙ stands)) (λ x gap high.
      let (d, e) = le_dest high in
      omega (arith, lt_of_not-le (λ (l : d < t). not_both (shifted_bit d ∙ ap not (ap (set_of v) e ∙ gap)) (trailing_below 64 shifted d l))))

-- from the conductor of w to the first gap of v after those of w
pub next_offset_is : (w v x : ℕ) (l : List ℕ) → w < 2 ^ 64 → gaps w ++ x ∷ l ≡ gaps v → conductor w + next_offset (conductor w) v ≡ x
unfolding next_offset
next_offset_is w v x l fits split =
    let c : ℕ = conductor w in
    let high = x_high w v x l fits split in
    let before : keep (leb c) (gaps w) ≡ [] =
    nothing (keep (leb c) (gaps w)) (λ y m.
    let (i, e) = keep_mem (leb c) (gaps w) m in
    omega (arith, gap_below_conductor w fits y (gaps_mem w i), leb-true c y e)) in
    let next : keep (leb c) (gaps v) ≡ x ∷ keep (leb c) l =
    ap (keep (leb c)) (sym split) ∙ keep_append (leb c) (gaps w) (x ∷ l)
    ∙ ap₂ ◌++◌ before (keep_in (leb c) x l (le-leb c x high)) in
    simp (lt-ltb 0 c (conductor_pos w), next) (omega arith)
