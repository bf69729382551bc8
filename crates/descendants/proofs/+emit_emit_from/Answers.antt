-- The proof of the cycle of calls {emit, emit_from}. Assumes nothing.
use Rattle.std.proofs.Common.{ℕ, sym, ap, ◌∙◌, arith}
use Rattle.nodes.specs.Branches.{branches}
use Rattle.nodes.proofs.Levels.{node_conductor}
use Rattle.nodes.proofs.NewGaps.{upper_lowest, upper_again}
use Rattle.nodes.proofs.Childless.{upper_offsets, childless_branches}
use Rattle.nodes.proofs.Branches.{branches_none, Row, row_branches, no_leaves, FirstChild, first_child}
use Rattle.lending.specs.Lending.{put_all}
use Rattle.lending.proofs.Lending.{putting_none, putting_over, putting_stops, putting_on}
use Rattle.descendants.proofs.+emit_emit_from.Goals as goal
use Rattle.descendants.proofs.+emit_emit_from.Goals.{emit_from-After-child}

-- ---- emit

-- without generators there is no word below the node
pub emit-returns-then-row-eq0 : goal.emit-returns-then-row-eq0
unfolding put_all
emit-returns-then-row-eq0 t c =
    rw (no_leaves _ _ (λ e. omega (arith, c.requires.le_left)) c.args.tree.levels c.first_row-row.ensures c.if-row-eq0.true)

pub emit-put_grandchildren-requires-clause-word_bound : goal.emit-put_grandchildren-requires-clause-word_bound
emit-put_grandchildren-requires-clause-word_bound t c =
    omega (arith, c.multiplicity_of.ensures, node_conductor _ _ c.args.tree.levels)

pub emit-put_great_grandchildren-requires-clause-word_bound : goal.emit-put_great_grandchildren-requires-clause-word_bound
emit-put_great_grandchildren-requires-clause-word_bound t c =
    omega (arith, c.second_element.ensures, node_conductor _ _ c.args.tree.levels)

pub emit-returns-in_default : goal.emit-returns-in_default
emit-returns-in_default t c =
    let row : Row c.args.tree.left c.args.tree.node c.first_row-row.result =
    row_branches _ _ (λ e. omega (arith, c.requires.le_left)) c.args.tree.levels c.first_row-row.ensures in
    rw row.all c.emit_from.ensures

-- ---- emit_from

pub emit_from-put_children-requires-clause-offsets : goal.emit_from-put_children-requires-clause-offsets
emit_from-put_children-requires-clause-offsets t c = upper_offsets _ _ c.requires.node_with_levels c.requires.upper

-- the lowest offset has a child there, and the others come after it
first : {t : ℕ} (c : emit_from-After-child t) → FirstChild c.args.left c.args.n c.child.result c.loop-rest.rest c.lowest_of-low.result.rest
first c =
    let now = c.loop-rest.invariant in
    first_child _ _ c.requires.node_with_levels (upper_offsets _ _ c.requires.node_with_levels now.0) (upper_lowest now.0 (omega arith) c.lowest_of-low.ensures) c.child.ensures

pub emit_from-invariant_of-child : goal.emit_from-invariant_of-child
emit_from-invariant_of-child t c =
    record { levels = (first (goal.at.emit_from-invariant_of-child t c).After-child).node_levels }

pub emit_from-returns-in_err-at : goal.emit_from-returns-in_err-at
emit_from-returns-in_err-at t c =
    putting_stops c.loop-rest.invariant.1 _ _ (first (goal.at.emit_from-returns-in_err-at t c).After-child).parts c.from_residual.ensures.1 c.in_err-at.ensures

-- where there is room, the others are left
pub emit_from-loop-rest-preserved-in_ok-at : goal.emit_from-loop-rest-preserved-in_ok-at
emit_from-loop-rest-preserved-in_ok-at t c =
    let now = c.loop-rest.invariant in (
      upper_again now.0 (omega arith) c.lowest_of-low.ensures,
      putting_on now.1 _ _ (first (goal.at.emit_from-loop-rest-preserved-in_ok-at t c).After-child).parts c.in_ok-at.ensures,
    )

-- a child that is not made has none below it
pub emit_from-loop-rest-preserved : goal.emit_from-loop-rest-preserved
emit_from-loop-rest-preserved t c =
    let now = c.loop-rest.invariant in
    let none = sym c.is_childless_at.ensures ∙ c.if-not-is_childless_at.false in (
      upper_again now.0 (omega arith) c.lowest_of-low.ensures,
      putting_over now.1 _ (childless_branches c.args.left c.args.n c.requires.node_with_levels now.0 (omega arith) c.lowest_of-low.ensures none (omega arith)),
    )

pub emit_from-returns : goal.emit_from-returns
emit_from-returns t c = putting_none c.loop-rest.invariant.1 (ap (branches _ _) c.loop-rest-test.false ∙ branches_none _ _)
