-- The proof of `resume`, which calls itself. Assumes nothing.
use Rattle.std.proofs.Common.{◌≡◌, ℕ, ◌-◌, ◌<◌, ◌≤◌, sym, ap, ◌∙◌, subst, arith}
use Rattle.semigroups.specs.Positions.{above}
use Rattle.semigroups.specs.Elements.{multiplicity}
use Rattle.nodes.specs.Nodes.{first_row}
use Rattle.nodes.specs.Levels.{NodeWithLevels}
use Rattle.nodes.proofs.Branches.{child_with_levels}
use Rattle.lending.proofs.Lending.{put_stops, put_follows}
use Rattle.descendants.proofs.Resuming.{on_from_own, Below, next_child}
use Rattle.descendants.proofs.Cut.{later_parts, later_cut, later_kept, kept_own}
use Rattle.descendants.proofs.+resume.Goals as goal
use Rattle.descendants.proofs.+resume.Goals.{After-next_offset-d, After-later}

-- the word is below the child at the next offset
found : {t : ℕ} (c : After-next_offset-d t) → Below c.args.tree.left c.args.tree.node c.args.word c.next_offset-d.result.0
found c = next_child _ _ c.if-tree-eq0.false c.args.tree.levels _ c.requires.fact c.next_offset-d.ensures

-- the offsets after that one
after : {t : ℕ} (c : After-later t) → c.later.result ≡ above (first_row c.args.tree.node) c.next_offset-d.result.0
after c = c.later.ensures ∙ ap (λ (row : ℕ). above row c.next_offset-d.result.0) c.first_row.ensures

-- no level below the node: its word
pub returns-then-tree-eq0 : goal.returns-then-tree-eq0
returns-then-tree-eq0 t c =
    let none = c.if-tree-eq0.true in
    rw (none, on_from_own _ _ (rw none at c.requires.fact), kept_own _ _ c.requires.lowest_bound) c.put.ensures

-- the child has a level less below it
pub invariant_of-child : goal.invariant_of-child
invariant_of-child t c =
    let b = found (goal.at.invariant_of-child t c).After-next_offset-d in
    record { levels = subst (NodeWithLevels (c.args.tree.left - 1)) (sym c.child.ensures) (child_with_levels _ _ b.node_levels _ b.generates) }

pub resume-requires : goal.resume-requires
resume-requires t c =
    let b = found (goal.at.resume-requires t c).After-next_offset-d in
    (omega arith, (rw c.child.ensures b.leaf, c.requires.lowest_bound))

-- a word found no room: nothing more is put
pub returns-in_err-next : goal.returns-in_err-next
returns-in_err-next t c =
    let b = found (goal.at.returns-in_err-next t c).After-next_offset-d in
    put_stops _ _ (later_parts c.args.lowest _ _ _ _ b) _ _ c.from_residual.ensures.1 (rw c.child.ensures at c.in_err-next.ensures)

-- the multiplicity of the node is below the lowest: the later branches are cut
pub returns-then-multiplicity_of-lowest : goal.returns-then-multiplicity_of-lowest
returns-then-multiplicity_of-lowest t c =
    let b = found (goal.at.returns-then-multiplicity_of-lowest t c).After-next_offset-d in
    let below : multiplicity c.args.tree.node.word < c.args.lowest = omega (arith, c.multiplicity_of.ensures) in
    rw (later_cut _ _ _ _ _ b below) (rw c.child.ensures at c.in_ok-next.ensures)

pub later-requires : goal.later-requires
later-requires t c = omega (arith, (found (goal.at.later-requires t c).After-next_offset-d).near)

-- otherwise they follow
pub returns : goal.returns
returns t c =
    let at = goal.at.returns t c in
    let b = found at.After-next_offset-d in
    let inside : c.args.lowest ≤ multiplicity c.args.tree.node.word = omega (arith, c.multiplicity_of.ensures) in
    let parts = rw (← after at.After-later) at (later_kept _ _ _ _ _ b inside) in
    c.emit_from.ensures ∙ put_follows _ _ parts _ _ (rw c.child.ensures at c.in_ok-next.ensures)
