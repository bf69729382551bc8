-- The number of grandchildren: by rows 0 and 1 of the table where k is at least 2, by the multiplicity where k is 1. Assumes nothing.
use Rattle.std.proofs.Common.{◌≡◌, ℕ, suc, ◌+◌, ◌-◌, ◌^◌, ◌<◌, ◌≤◌, Bool, true, false, not, ◌&&◌, ◌||◌, eqb, ◌≢◌, ◌⊎◌, ◌↔◌, List, [], ◌∷◌, length, sym, refl, ap, ◌∙◌, ap₂, inl, inr, ⊎_elim, lt_of_le_of_lt, arith, le-ltb, lt-ltb, eq-eqb, ne_eqb, eqb-true}
use mathlib.Core.Bool.{or-true, and-eq-true_iff}
use mathlib.Core.List.Memᴰ
use mathlib.Core.List.{Memᴰ}
use native.Mathlib.Decide.{dec_lt, ℕ_discrete}
use lib.Bits.{bit_and, and_le_l}
use lib.Count.{ones}
use lib.ListN.{length-map}
use borrow.Author.Tests.{not-true}
use Rattle.semigroups.specs.Lists.{run, keep, keep_if, every, joined, last_or, sum_over}
use Rattle.semigroups.specs.Sets.{without, sum_of_two}
use Rattle.semigroups.specs.Words.{bit, set_of, gaps, genus, largest_gap, conductor, closed}
use Rattle.semigroups.specs.Positions.{positions}
use Rattle.semigroups.specs.Elements.{multiplicity, generator, right_generators}
use Rattle.semigroups.specs.GenusList.{risings, descendant_count}
use Rattle.semigroups.specs.Tree.{leaves}
use Rattle.semigroups.specs.GapLists.{set_missing, closed_gaps, extensions, Extends, AllGapLists}
use Rattle.semigroups.proofs.Booleans.{by_value}
use Rattle.semigroups.proofs.Lists.{keep_mem, mem_keep, ordered_run, ordered_one, ordered_keep, run_mem, length_run, sum_same, sum_none}
use Rattle.semigroups.proofs.Kept.{keep_same, keep_map}
use Rattle.semigroups.proofs.StandingBits.{positions_ones, positions_and}
use Rattle.semigroups.proofs.Elements.{ordinary_conductor}
use Rattle.semigroups.proofs.Closure.{multiplicity_from_two}
use Rattle.semigroups.proofs.Leaves.{descendants_leaves}
use Rattle.semigroups.proofs.GapLists.{gap_lists_unique, extensions_all, extensions_count}
use Rattle.seeds.specs.Seeds.{order_one_seed}
use Rattle.seeds.specs.Grandchildren.{grandchild_count, pairs, count_by_generators}
use Rattle.seeds.proofs.SeedsWithout.{generator_without}
use Rattle.seeds.proofs.Ordinary.{ordinary_generators, new_from, none_of, none_without}
use Rattle.seeds.proofs.GrandchildLists.{by_new_generators}
use Rattle.words.specs.Looks.{Accepted}
use Rattle.nodes.specs.Nodes.{node_of, first_row, second_row}
use Rattle.nodes.specs.RowCounts.{count_by_rows, grandchildren_at}
use Rattle.nodes.specs.Levels.{Levels}
use Rattle.nodes.specs.declared.Node.{Node}
use Rattle.nodes.proofs.Rows.{second_row_bit}
use Rattle.nodes.proofs.Nodes.{first_row_generators, first_row_fits, first_row_count}

-- ---- which number it is

-- it is the length of any list of all gap lists of the numerical semigroups with two gaps more whose smallest gaps are those of w
pub grandchildren_of_all : (w : ℕ) (l : List (List ℕ)) → AllGapLists (Extends 2 w) l → grandchild_count w ≡ length l
unfolding grandchild_count
grandchildren_of_all w l all = ap length (gap_lists_unique (Extends 2 w) (extensions 2 w) l (extensions_all 2 w) all)

-- up to genus 30 these are the descendants two genera on
pub grandchildren_descendants : (w : ℕ) → genus w ≤ 30 → grandchild_count w ≡ descendant_count (genus w + 2) w
unfolding grandchild_count
grandchildren_descendants w few = extensions_count 2 w (omega arith)

-- ---- where k is at least 2

-- one for each of a list that passes a test
ones_kept : (p : ℕ → Bool) (f : ℕ → ℕ) (l : List ℕ) → sum_over (λ x. length (keep (λ y. p x) (f x ∷ []))) l ≡ length (keep p l)
unfolding sum_over keep keep_if
ones_kept p f [] = refl
ones_kept p f (x ∷ l) = by_value (p x) (λ e. rw e (omega (arith, ones_kept p f l))) (λ e. rw e (omega (arith, ones_kept p f l)))

module _ (w : ℕ) (fits : w < 2 ^ 64) (c : closed w ≡ true) (two : 2 ≤ conductor w - genus w) where
  abbrev m : ℕ
  m = multiplicity w

  -- the new generator above x: x + m where x is an order-one seed
  abbrev seed_plus : ℕ → List ℕ
  seed_plus x = keep (λ y. order_one_seed w x) ((x + m) ∷ [])

  -- without x, the generators above it are those of w and this one
  seed_made : (x y : ℕ) → conductor w ≤ x → x < y → (sum_of_two (without x (set_of w)) y ≡ false) ↔ ((generator w y ≡ true) ⊎ Memᴰ y (seed_plus x))
  seed_made x y high less = (
    (λ e. let t = sym rule ∙ ap not e in
        by_value (generator w y) inl (λ g.
        let (there, seeds) = (and-eq-true_iff (eqb y (x + m)) (order_one_seed w x)).0 (sym (ap (λ (b : Bool). b || (eqb y (x + m) && order_one_seed w x)) g) ∙ t) in
        inr (mem_keep _ ((x + m) ∷ []) (Memᴰ.head (eqb-true y (x + m) there)) seeds))),
    ⊎_elim
        (λ g. not-true _ (rule ∙ ap (λ (b : Bool). b || (eqb y (x + m) && order_one_seed w x)) g))
        (λ i. let (there, seeds) = keep_mem (λ z. order_one_seed w x) ((x + m) ∷ []) i in
        not-true _ (rule ∙ rw (eq-eqb y (x + m) (Memᴰ.eq_of_singleton there), seeds) (or-true (generator w y)))),
  )
    where
      rule : not (sum_of_two (without x (set_of w)) y) ≡ (generator w y || (eqb y (x + m) && order_one_seed w x))
      rule = generator_without w fits x high two y (omega arith)

  -- n (n - 1) / 2 and the order-one seeds among the n generators
  pub grandchildren_by_generators : grandchild_count w ≡ count_by_generators w
  unfolding count_by_generators
  grandchildren_by_generators =
      by_new_generators w fits c seed_plus (λ x. ordered_keep ◌<◌ _ ((x + m) ∷ []) (ordered_one ◌<◌ (x + m)))
      (λ x y i. omega (arith, Memᴰ.eq_of_singleton (keep_mem _ ((x + m) ∷ []) i).0)) seed_made
      ∙ ap (λ (n : ℕ). pairs (length (right_generators w)) + n) (ones_kept (order_one_seed w) (λ x. x + m) (right_generators w))

  module _ (few : genus w ≤ 32) where
    -- rows 0 and 1 of its node
    abbrev row : ℕ
    row = first_row (node_of w)

    abbrev next : ℕ
    next = second_row (node_of w)

    -- the seeds among the generators are at the offsets that both rows have
    both_positions : keep (λ d. order_one_seed w (conductor w + d)) (positions row) ≡ positions (bit_and row next)
    both_positions = keep_same _ (bit next) (positions row) (λ d i. sym (second_row_bit w fits two d)) ∙ positions_and row next

    -- so that there are as many
    both_count : length (keep (order_one_seed w) (right_generators w)) ≡ ones (bit_and row next)
    both_count =
        ap (λ (l : List ℕ). length (keep (order_one_seed w) l)) (first_row_generators w fits c few)
        ∙ ap length (keep_map (order_one_seed w) (λ d. conductor w + d) (positions row))
        ∙ length-map (keep (λ d. order_one_seed w (conductor w + d)) (positions row)) (λ d. conductor w + d)
        ∙ ap length both_positions
        ∙ positions_ones (bit_and row next) (lt_of_le_of_lt (and_le_l row next) (first_row_fits w fits c few))

    -- so that rows 0 and 1 tell that number
    pub grandchildren_by_rows : count_by_generators w ≡ count_by_rows (node_of w)
    unfolding count_by_generators count_by_rows
    grandchildren_by_rows = ap₂ (λ (a b : ℕ). pairs a + b) (first_row_count w fits c few) both_count

  -- up to genus 30 it is that of the words two levels below
  pub rows_count : Levels 2 w → count_by_rows (node_of w) ≡ length (leaves 2 w)
  unfolding descendant_count
  rows_count at =
      sym (grandchildren_by_rows (omega (arith, at.few))) ∙ sym grandchildren_by_generators ∙ grandchildren_descendants w (omega (arith, at.few))
      ∙ ap length (descendants_leaves 2 w fits c at.few)

-- ---- where k is 1

-- the first two of m or more offsets make 2 and 1
two_and_one : (a n : ℕ) → sum_over (λ x. a + 2 - x) (run a (suc (suc n))) ≡ 3
unfolding sum_over run
two_and_one a n = omega (arith, sum_none (λ x. a + 2 - x) (run (suc (suc a)) n) (λ x i. omega (arith, run_mem (suc (suc a)) n i)))

module _ (w : ℕ) (fits : w < 2 ^ 64) (c : closed w ≡ true) (ordinary : conductor w ≡ multiplicity w) where
  -- each two of the m generators, and the new ones
  ordinary_count : let m = multiplicity w in grandchild_count w ≡ pairs m + sum_over (λ x. m + 2 - x) (run m m)
  ordinary_count =
      by_new_generators w fits c (new_from w) (λ x. ordered_run _ _) (λ x y i. (run_mem _ _ i).0)
      (λ x y high less. (none_of w fits ordinary x y high less, none_without w fits ordinary x y high less))
      ∙ ap (λ (l : List ℕ). pairs (length l) + sum_over (λ x. length (new_from w x)) l) (ordinary_generators w fits ordinary)
      ∙ ap₂ ◌+◌ (ap pairs (length_run (multiplicity w) (multiplicity w)))
      (sum_same _ _ (run (multiplicity w) (multiplicity w)) (λ x i. length_run (x + multiplicity w) (multiplicity w + 2 - x)))

  -- without m both 2 m and 2 m + 1 are new, without m + 1 the latter
  pub grandchildren_ordinary : w ≢ 0 → grandchild_count w ≡ pairs (multiplicity w) + 3
  grandchildren_ordinary nonzero =
      let least = multiplicity_from_two w fits c nonzero in
      let size : suc (suc (multiplicity w - 2)) ≡ multiplicity w = omega arith in
      ordinary_count ∙ ap (λ (n : ℕ). pairs (multiplicity w) + n)
      (ap (λ (n : ℕ). sum_over (λ x. multiplicity w + 2 - x) (run (multiplicity w) n)) (sym size) ∙ two_and_one (multiplicity w) (multiplicity w - 2))

-- ---- as it is read off a node, by the cases of the definition

module _ (n : Node) where
  -- with an empty row 0 there is none
  pub no_generators : first_row n ≡ 0 → count_by_rows n ≡ 0
  unfolding count_by_rows pairs ones
  no_generators e = ap (λ (row : ℕ). pairs (ones row) + ones (bit_and row (second_row n))) e

  pub at_zero : n.word ≡ 0 → grandchildren_at n ≡ 2
  unfolding grandchildren_at
  at_zero e = simp (eq-eqb n.word 0 e)

  pub at_first : n.word ≢ 0 → n.conductor - genus n.word < 2 → grandchildren_at n ≡ pairs (multiplicity n.word) + 3
  unfolding grandchildren_at
  at_first e l = simp (ne_eqb n.word 0 e, lt-ltb (n.conductor - genus n.word) 2 l)

  pub at_rows : n.word ≢ 0 → 2 ≤ n.conductor - genus n.word → grandchildren_at n ≡ count_by_rows n
  unfolding grandchildren_at
  at_rows e l = simp (ne_eqb n.word 0 e, le-ltb (n.conductor - genus n.word) 2 l)

-- the word 0 has two grandchildren
pub grandchildren_zero : grandchild_count 0 ≡ 2
unfolding run keep keep_if every joined bit set_of gaps genus last_or largest_gap conductor sum_of_two risings set_missing closed_gaps extensions grandchild_count
grandchildren_zero = refl

-- what is read off the node of an accepted word is the number of its grandchildren
pub grandchildren_at_is : (w : ℕ) → w < 2 ^ 64 → Accepted w → grandchildren_at (node_of w) ≡ grandchild_count w
unfolding node_of
grandchildren_at_is w fits h = elim (ℕ_discrete w 0) [
  | yes zero ↦ at_zero (node_of w) zero ∙ sym (ap grandchild_count zero ∙ grandchildren_zero)
  | no nonzero ↦ elim (dec_lt (conductor w - genus w) 2) [
    | yes low ↦ at_first (node_of w) nonzero low ∙ sym (grandchildren_ordinary w fits h.closed (ordinary_conductor w fits low) nonzero)
    | no high ↦
        let two : 2 ≤ conductor w - genus w = omega arith in
        at_rows (node_of w) nonzero two ∙ sym (grandchildren_by_generators w fits h.closed two ∙ grandchildren_by_rows w fits h.closed two h.few)
  ]
]
