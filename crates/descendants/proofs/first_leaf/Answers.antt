-- `descendants::first_leaf` meets its contract: in a list without places the first word finds no room. Assumes nothing.
use Rattle.std.proofs.Common.{rules}
use Rattle.semigroups.specs.Tree.{leaves}
use Rattle.nodes.proofs.Branches.{Row, row_branches}
use Rattle.lending.proofs.Lending.{put_nowhere}
use Rattle.descendants.proofs.first_leaf.Goals as goal
use Rattle.descendants.proofs.first_leaf.Goals.{After-first_row}

-- the node's first row
row : (c : After-first_row) → Row c.args.tree.left c.args.tree.node c.first_row.result
row c = row_branches _ _ c.if-tree-eq0.false c.args.tree.levels c.first_row.ensures

-- no level below the node: its word
pub returns-then-tree-eq0 : goal.returns-then-tree-eq0
unfolding leaves
returns-then-tree-eq0 c = rw c.if-tree-eq0.true

pub returns : goal.returns
returns c =
    rw ((row (goal.at.returns c).After-first_row).all, ← put_nowhere _ c.emit_from.ensures) (search rules)
