-- The proof of the cycle of calls {first_among, first_below, first_by_child}. Assumes nothing.
use Prim.Native.Nat.{ℕ, ◌+◌, ◌-◌, ◌≤◌, ◌<◌, min}
use mathlib.Core.Path.{◌≡◌, refl, sym, ap, ◌∙◌, subst}
use mathlib.Core.Option.{none, some}
use mathlib.Core.List.{List, head?, Memᴰ}
use native.Mathlib.Omega.{arith}
use Rattle.std.specs.Prelude.{Option, Some, None, is_some, true, false}
use Rattle.semigroups.specs.Lists.{keep}
use Rattle.semigroups.specs.Words.{conductor}
use Rattle.semigroups.specs.Elements.{right_generators}
use Rattle.answers.specs.Answers.{sought}
use Rattle.nodes.specs.Levels.{NodeWithLevels}
use Rattle.nodes.specs.declared.Node.{Node}
use Rattle.nodes.specs.Nodes.{child_node}
use Rattle.nodes.specs.Branches.{branches, Offsets}
use Rattle.nodes.proofs.Levels.{node_conductor}
use Rattle.nodes.proofs.Branches.{TakenOff, branches_none, offset_first, child_of_generator, levels_below, child_node_conductor, Row, row_branches, FirstChild, first_child}
use Rattle.search.specs.Private.{with_largest_gap}
use Rattle.search.proofs.Cuts.{in_first, in_second, cut_by_sum, cut_by_room}
use Rattle.search.proofs.+first_among_first_below.Goals as goal
use Rattle.search.proofs.+first_among_first_below.Goals.{first_below-After-first_row}

-- what an `Option` says that has a number, and one that has none
found_one : (o : Option ℕ) → is_some o ≡ true → (x : ℕ) × (sought o ≡ some x)
found_one (Some x) e = (x, refl)
found_one None e = cc

found_none : (o : Option ℕ) → is_some o ≡ false → sought o ≡ none
found_none (Some x) e = cc
found_none None e = refl

-- a node with two levels below it or more, and the lowest of some of its offsets
module _ {n : Node} {left bits at rest : ℕ} (two : 2 ≤ left) (levels : NodeWithLevels left n) (offsets : Offsets n.word bits) (low : TakenOff bits at rest) where
  below : NodeWithLevels (left - 1 + 1) n
  below = let same : left ≡ left - 1 + 1 = omega arith in subst (λ (k : ℕ). NodeWithLevels k n) same levels

  generator : Memᴰ (conductor n.word + at) (right_generators n.word)
  generator = offset_first (left - 1) n.word low offsets

  -- the element at it
  element : {e : ℕ} → e ≡ min (n.conductor + at) 18446744073709551615 → (e ≡ conductor n.word + at) × (e ≤ 63)
  element is =
      let child = child_of_generator _ _ (levels_below _ _ below) generator in
      omega (arith, is, child.low, node_conductor _ _ levels)

  -- the conductor of the child there
  conductor_is : {m : Node} → m ≡ child_node n at → m.conductor ≡ conductor n.word + at + 1
  conductor_is e = omega (arith, ap (λ (k : Node). k.conductor) e, child_node_conductor _ _ below _ generator)

  -- the child there, and the others
  first : {m : Node} → m ≡ child_node n at → FirstChild (left - 1) n m bits rest
  first e = first_child _ _ below offsets low e

  -- where the least that the largest gap can be is above f, no word there has it
  too_far : {f e : ℕ} → e ≡ min (n.conductor + at) 18446744073709551615 → f < e + (left - 1) → head? (with_largest_gap f (branches (left - 1) n.word bits)) ≡ none
  too_far is far = ap head? (cut_by_room _ _ _ (levels_below _ _ below) offsets low (omega (arith, element is)))

pub first_by_child-returns-then-gap-e : goal.first_by_child-returns-then-gap-e
first_by_child-returns-then-gap-e t c =
    let inv = c.loop-low.invariant in
    sym (too_far c.requires.left c.args.tree.levels inv.0 c.in-Some.ensures.steps.0 c.at_offset-e.ensures (omega arith)) ∙ inv.1

pub first_by_child-invariant_of-child : goal.first_by_child-invariant_of-child
first_by_child-invariant_of-child t c =
    record { levels = (first c.requires.left c.args.tree.levels c.loop-low.invariant.0 c.in-Some.ensures.steps.0 c.child.ensures).node_levels }

pub first_by_child-first_below-found-requires : goal.first_by_child-first_below-found-requires
first_by_child-first_below-found-requires t c =
    let offsets = c.loop-low.invariant.0 in
    let low = c.in-Some.ensures.steps.0 in
    let near = element c.requires.left c.args.tree.levels offsets low c.at_offset-e.ensures in
    let next = conductor_is c.requires.left c.args.tree.levels offsets low c.child.ensures in
    (omega arith, (omega arith, omega (arith, near, next, c.requires.conductor_le_gap)))

pub first_by_child-returns-then-is_some : goal.first_by_child-returns-then-is_some
first_by_child-returns-then-is_some t c =
    let inv = c.loop-low.invariant in
    let first = first c.requires.left c.args.tree.levels inv.0 c.in-Some.ensures.steps.0 c.child.ensures in
    let (x, found) = found_one c.first_below-found.result (sym c.is_some.ensures ∙ c.if-is_some.true) in
    found ∙ sym (in_first _ _ _ first.parts (sym c.first_below-found.ensures ∙ found)) ∙ inv.1

pub first_by_child-loop-low-preserved : goal.first_by_child-loop-low-preserved
first_by_child-loop-low-preserved t c =
    let inv = c.loop-low.invariant in
    let (low, left) = c.in-Some.ensures.steps in
    let first = first c.requires.left c.args.tree.levels inv.0 low c.child.ensures in
    let found = found_none c.first_below-found.result (sym c.is_some.ensures ∙ c.if-is_some.false) in
    rw left (first.others, sym (in_second _ _ _ first.parts (sym c.first_below-found.ensures ∙ found)) ∙ inv.1)

pub first_by_child-returns : goal.first_by_child-returns
unfolding with_largest_gap keep
first_by_child-returns t c =
    sym (ap (λ (l : List ℕ). head? (with_largest_gap c.args.gap l)) (branches_none (c.args.tree.left - 1) c.args.tree.node.word))
    ∙ rw c.in-None.ensures.steps.0 at c.loop-low.invariant.1

pub first_below-returns-then-is_low_sum : goal.first_below-returns-then-is_low_sum
first_below-returns-then-is_low_sum t c =
    sym (ap head? (cut_by_sum _ _ _ c.args.tree.levels.levels (sym c.is_low_sum.ensures ∙ c.if-is_low_sum.true)))

-- the offsets in its first row make all
row : {t : ℕ} (c : first_below-After-first_row t) → Row c.args.tree.left c.args.tree.node c.first_row.result
row c = row_branches _ _ (omega (arith, c.requires.left)) c.args.tree.levels c.first_row.ensures

pub first_below-first_among-requires : goal.first_below-first_among-requires
first_below-first_among-requires t c =
    (omega arith, (c.requires.left, ((row (goal.at.first_below-first_among-requires t c).After-first_row).offsets, c.requires.conductor_le_gap)))

pub first_below-returns : goal.first_below-returns
first_below-returns t c =
    c.first_among.ensures
    ∙ ap (λ (l : List ℕ). head? (with_largest_gap c.args.gap l)) (sym (row (goal.at.first_below-returns t c).After-first_row).all)
