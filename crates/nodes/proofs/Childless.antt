-- A child without generators, as rows 0 and 1 of its parent tell it: by the law of the child's rows its row 0 is empty where no offset comes after
-- its own and row 1 of the parent lacks that. Assumes nothing.
use Rattle.std.proofs.Common.{◌≡◌, ℕ, suc, ◌+◌, ◌-◌, ◌/◌, ◌^◌, ◌<◌, ◌≤◌, true, false, not, ◌&&◌, eqb, ltb, List, [], ◌++◌, map, sym, ap, ◌∙◌, subst, zero-mul, arith, ltb-true, le-ltb, lt-ltb, eq-eqb, ne_eqb, eqb-true}
use mathlib.Core.Bool.{and-eq-true_iff}
use lib.Pow.{shl-shr}
use native.Mathlib.Nat.{zero-div}
use borrow.Author.Tests.{not-true}
use Rattle.semigroups.specs.Lists.{joined}
use Rattle.semigroups.specs.Words.{bit, digit, conductor, child_word}
use Rattle.semigroups.specs.Positions.{positions, above}
use Rattle.semigroups.specs.Elements.{multiplicity, right_generators}
use Rattle.semigroups.specs.Tree.{leaves}
use Rattle.semigroups.proofs.StandingBits.{positions_zero}
use Rattle.semigroups.proofs.Elements.{multiplicity_element}
use Rattle.nodes.specs.Nodes.{node_of, first_row, second_row, row_of_child, lowest_offset, childless_at}
use Rattle.nodes.specs.Levels.{NodeWithLevels}
use Rattle.nodes.specs.Branches.{branches, Offsets}
use Rattle.nodes.specs.NewGaps.{Upper}
use Rattle.nodes.specs.declared.Node.{Node}
use Rattle.nodes.proofs.Rows.{index_below}
use Rattle.nodes.proofs.ChildRow.{first_row_of_child}
use Rattle.nodes.proofs.Nodes.{first_row_generators}
use Rattle.nodes.proofs.Levels.{node_conductor}
use Rattle.nodes.proofs.Branches.{lowest_in, branches_first, child_of_generator, child_levels, levels_below, first_row_offsets, offsets_row}
use Rattle.nodes.proofs.NewGaps.{upper_lowest, upper_in, upper_rest}

-- ---- by the cases of the definition

module _ (n : Node) (d others : ℕ) where
  -- not where an offset comes after d
  pub childless_later : ¬ (others ≡ 0) → false ≡ childless_at n d others
  unfolding childless_at
  childless_later some = rw (ne_eqb others 0 some)

  -- not where k is below 2
  pub childless_low : others ≡ 0 → n.conductor ≤ multiplicity n.word → false ≡ childless_at n d others
  unfolding childless_at
  childless_low last low = rw (eq-eqb others 0 last, le-ltb (multiplicity n.word) n.conductor low)

  -- else as row 1 tells it
  pub childless_high : others ≡ 0 → multiplicity n.word < n.conductor → not (bit (second_row n) d) ≡ childless_at n d others
  unfolding childless_at
  childless_high last high = rw (eq-eqb others 0 last, lt-ltb (multiplicity n.word) n.conductor high)

-- ---- what it means

-- without right generators a word has no leaves below it
none_below : (r w : ℕ) → right_generators w ≡ [] → leaves (suc r) w ≡ []
unfolding leaves joined
none_below r w none = ap (joined (λ x. leaves r (child_word w x))) none

module _ (r : ℕ) (n : Node) (at : NodeWithLevels (r + 1) n) where
  abbrev w : ℕ
  w = n.word

  -- offsets of row 0 from one on are offsets of generators
  pub upper_offsets : {bits : ℕ} → Upper (first_row n) bits → Offsets n.word bits
  upper_offsets u d m = offsets_row r w (first_row n) (first_row_offsets r n at) d (upper_in u m)

  module _ {bits d others : ℕ} (u : Upper (first_row n) bits) (some : 0 < bits) (low : (d ≡ lowest_offset bits) × (others ≡ bits - 2 ^ lowest_offset bits))
      (e : childless_at n d others ≡ true) where
    -- the child at the lowest of them has no generators
    none_there : right_generators (child_word w (conductor w + d)) ≡ []
    unfolding childless_at row_of_child digit
    none_there =
        let o = levels_below r n at in
        let (last, more) = (and-eq-true_iff (eqb others 0) (ltb (multiplicity w) n.conductor && not (bit (second_row n) d))).0 e in
        let (high, lacks) = (and-eq-true_iff (ltb (multiplicity w) n.conductor) (not (bit (second_row n) d))).0 more in
        let later = ltb-true (multiplicity w) n.conductor high in
        let two = index_below w o.fits 1 (omega (arith, multiplicity_element w o.fits, node_conductor (r + 1) n at)) in
        let child = child_of_generator r w o (upper_offsets u d (lowest_in (upper_lowest u some low))) in
        let below = child_levels r w o (upper_offsets u d (lowest_in (upper_lowest u some low))) in
        let same = ap first_row at.node in
        let after : first_row (node_of w) / 2 ^ (d + 1) ≡ 0 =
        sym (shl-shr _ (d + 1)) ∙ ap (λ (k : ℕ). k / 2 ^ (d + 1)) (ap (λ (k : ℕ). above k d) (sym same) ∙ sym (upper_rest u some low) ∙ eqb-true others 0 last) ∙ zero-div (2 ^ (d + 1)) in
        let seed : bit (second_row (node_of w)) d ≡ false = ap (λ (k : Node). bit (second_row k) d) (sym at.node) ∙ not-true _ lacks in
        let row : first_row (node_of (child_word w (conductor w + d))) ≡ 0 =
        first_row_of_child w d o.fits child.fits two ∙ rw (after, seed, zero-mul (2 ^ (multiplicity w - 1))) in
        first_row_generators _ child.fits child.closed (omega (arith, below.few)) ∙ ap (λ (k : ℕ). map (λ j. conductor (child_word w (conductor w + d)) + j) (positions k)) row
        ∙ ap (map (λ j. conductor (child_word w (conductor w + d)) + j)) positions_zero

    -- so that the words below all of them are those below the others
    pub childless_branches : 1 ≤ r → branches r n.word bits ≡ branches r n.word others
    childless_branches more =
        let down : suc (r - 1) ≡ r = omega arith in
        branches_first r w (upper_lowest u some low)
        ∙ ap (λ (l : List ℕ). l ++ branches r w others) (subst (λ (k : ℕ). leaves k (child_word w (conductor w + d)) ≡ []) down (none_below (r - 1) _ none_there))
