-- The proof of `census::tally`, which calls itself. Assumes nothing.
use Rattle.std.proofs.Common.{ℕ, ◌-◌, ◌≤◌, refl, ap, ◌∙◌, arith}
use mathlib.Core.List.Memᴰ
use Rattle.semigroups.specs.Tree.{leaves}
use Rattle.nodes.specs.Nodes.{first_row}
use Rattle.nodes.specs.Branches.{branches}
use Rattle.nodes.proofs.Levels.{node_conductor}
use Rattle.nodes.proofs.Branches.{branches_none, Row, row_branches, FirstChild, first_child}
use Rattle.census.specs.Private.{one_more_at, census_place, tallied}
use Rattle.census.proofs.Tallies.{InParts, tally_begins, room_first, tally_again, tally_ends}
use Rattle.census.proofs.WordPlaces.{leaf_place}
use Rattle.census.proofs.+tally.Goals as goal
use Rattle.census.proofs.+tally.Goals.{After-first_row, After-child, in_default-via-in-2+else-multiplicity_of-n, in_default-via-in-3+else-second_element-n, in_default-via-in_default-1}

-- where the loop begins, a level or more is left
positive : {t : ℕ} (c : After-first_row t) → 1 ≤ c.args.tree.left
positive c = elim c.in_default.branch [
  | in_default-via-in-2+else-multiplicity_of-n w ↦ omega arith
  | in_default-via-in-3+else-second_element-n w ↦ omega arith
  | in_default-via-in_default-1 w ↦ omega arith
]

-- the child at the lowest offset, and the others
first : {t : ℕ} (c : After-child t) → FirstChild (c.args.tree.left - 1) c.args.tree.node c.child.result c.loop-low.low-iterator.0 c.in-Some.low.rest
first c =
    let tree = c.args.tree in
    let (some, offsets, now) = c.loop-low.invariant in
    let row : Row tree.left tree.node (first_row tree.node) = row_branches _ _ (omega (arith, some)) tree.levels refl in
    first_child _ _ row.node_levels offsets c.in-Some.ensures.steps.0 c.child.ensures

-- the words below them
parts : {t : ℕ} (c : After-child t) → let w = c.args.tree.node.word in let r = c.args.tree.left - 1 in
    InParts (leaves r c.child.result.word) (branches r w c.in-Some.low.rest) (branches r w c.loop-low.low-iterator.0)
parts c = record { split = (first c).parts }

pub add_one-requires : goal.add_one-requires
unfolding leaves
add_one-requires t c =
    let none = c.in-0.is in (
      rw c.place_of.ensures (leaf_place 0 _ (rw none at c.args.tree.levels.levels) (Memᴰ.head refl)),
      rw none at c.requires.room_for,
    )

pub returns-in-0 : goal.returns-in-0
unfolding leaves tallied
returns-in-0 t c = rw c.in-0.is (c.add_one.ensures ∙ ap (λ (p : ℕ). one_more_at p c.args.out.now) c.place_of.ensures)

pub tally_grandchildren-requires-clause-word_bound : goal.tally_grandchildren-requires-clause-word_bound
tally_grandchildren-requires-clause-word_bound t c = omega (arith, c.multiplicity_of.ensures, node_conductor _ _ c.args.tree.levels)

pub tally_great_grandchildren-requires-clause-word_bound : goal.tally_great_grandchildren-requires-clause-word_bound
tally_great_grandchildren-requires-clause-word_bound t c = omega (arith, c.second_element.ensures, node_conductor _ _ c.args.tree.levels)

pub loop-low-init : goal.loop-low-init
loop-low-init t c =
    let tree = c.args.tree in
    let some = positive (goal.at.loop-low-init t c).After-first_row in
    let row : Row tree.left tree.node c.first_row.result = row_branches _ _ (omega (arith, some)) tree.levels c.first_row.ensures in
    rw c.into_iter-low-iterator.ensures.into_iter_gives (some, row.offsets, tally_begins census_place row.all c.requires.room_for)

pub invariant_of-child : goal.invariant_of-child
invariant_of-child t c = record { levels = (first (goal.at.invariant_of-child t c).After-child).node_levels }

pub tally-requires : goal.tally-requires
tally-requires t c =
    (omega (arith, c.loop-low.invariant.0), room_first c.loop-low.invariant.2 (parts (goal.at.tally-requires t c).After-child))

pub loop-low-preserved : goal.loop-low-preserved
loop-low-preserved t c =
    let child = (goal.at.loop-low-preserved t c).After-child in
    let (some, offsets, now) = c.loop-low.invariant in
    rw c.in-Some.ensures.steps.1 (some, (first child).others, tally_again now (parts child) c.tally.ensures)

pub returns-in-None : goal.returns-in-None
returns-in-None t c = tally_ends c.loop-low.invariant.2 (rw c.in-None.ensures.steps.0 (branches_none _ _))
