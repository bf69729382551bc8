-- The proof of the cycle of calls {count_node, sum_from}. All that there is to count is less than 2 ^ 64, so that no sum wraps. Assumes nothing.
use Rattle.std.proofs.Common.{◌≡◌, ℕ, suc, ◌+◌, ◌-◌, ◌^◌, ◌<◌, ◌≤◌, length, sym, ap, ◌∙◌, subst, arith, length-append}
use Rattle.semigroups.specs.Positions.{positions}
use Rattle.semigroups.specs.Tree.{leaves}
use Rattle.semigroups.proofs.StandingBits.{positions_le}
use Rattle.nodes.specs.Levels.{NodeWithLevels}
use Rattle.nodes.specs.Nodes.{first_row, child_node, lowest_offset}
use Rattle.nodes.specs.Branches.{branches, Offsets}
use Rattle.nodes.specs.NewGaps.{Upper}
use Rattle.nodes.specs.declared.Node.{Node}
use Rattle.nodes.proofs.Levels.{node_conductor, node_generators}
use Rattle.nodes.proofs.NewGaps.{upper_equal, upper_lowest, upper_again}
use Rattle.nodes.proofs.Childless.{upper_offsets, childless_branches}
use Rattle.nodes.proofs.Branches.{TakenOff, branches_none, levels_below, Row, row_branches, FirstChild, first_child}
use Rattle.counts.proofs.BranchCounts.{length_children, length_grandchildren, length_great_grandchildren, branches_fit}
use Rattle.counts.proofs.+count_node_sum_from.Goals as goal
use Rattle.counts.proofs.+count_node_sum_from.Goals.{count_node-In_default, count_node-in_default-via-in-2+else-multiplicity_of-n, count_node-in_default-via-in-3+else-second_element-n, count_node-in_default-via-in_default-1, sum_from-Joined-not-is_childless_at, sum_from-then-not-is_childless_at, sum_from-else-not-is_childless_at}

-- ---- count_node

pub count_node-returns-in-0 : goal.count_node-returns-in-0
unfolding leaves
count_node-returns-in-0 t c = rw c.in-0.is

-- one level below the node: its number
pub count_node-returns-in-1 : goal.count_node-returns-in-1
count_node-returns-in-1 t c =
    let tree = c.args.tree in
    rw c.in-1.is (c.generators.ensures ∙ node_generators _ tree.node tree.levels ∙ sym (length_children tree.node.word))

-- two levels below it: what its rows tell
pub count_node-returns-in-2 : goal.count_node-returns-in-2
count_node-returns-in-2 t c =
    let tree = c.args.tree in
    let here = subst (λ (k : ℕ). NodeWithLevels k tree.node) c.in-2.is tree.levels in
    rw c.in-2.is (c.grandchildren_by_rows.ensures ∙ length_grandchildren tree.node here (omega (arith, c.multiplicity_of.ensures, node_conductor _ _ here)))

-- three levels below it: what its rows tell
pub count_node-returns-in-3 : goal.count_node-returns-in-3
count_node-returns-in-3 t c =
    let tree = c.args.tree in
    let here = subst (λ (k : ℕ). NodeWithLevels k tree.node) c.in-3.is tree.levels in
    rw c.in-3.is (c.great_grandchildren_by_rows.ensures ∙ length_great_grandchildren tree.node here (omega (arith, c.second_element.ensures, node_conductor _ _ here)))

-- else two levels or more are left
deep : {t : ℕ} (c : count_node-In_default t) → 2 ≤ c.args.tree.left
deep c = elim c.in_default.branch [
  | count_node-in_default-via-in-2+else-multiplicity_of-n w ↦ omega arith
  | count_node-in_default-via-in-3+else-second_element-n w ↦ omega arith
  | count_node-in_default-via-in_default-1 w ↦ omega arith
]

-- and the count is the sum over the node's first row
pub count_node-sum_from-requires : goal.count_node-sum_from-requires
count_node-sum_from-requires t c =
    let tree = c.args.tree in
    let two = deep (goal.at.count_node-sum_from-requires t c).In_default in
    let row : Row tree.left tree.node c.first_row.result = row_branches _ _ (λ e. omega arith) tree.levels c.first_row.ensures in
    (omega (arith, positions_le c.first_row.result), (omega arith, (row.node_levels, upper_equal (omega arith) c.first_row.ensures)))

pub count_node-returns-in_default : goal.count_node-returns-in_default
count_node-returns-in_default t c =
    let tree = c.args.tree in
    let two = deep (goal.at.count_node-returns-in_default t c).In_default in
    let row : Row tree.left tree.node c.first_row.result = row_branches _ _ (λ e. omega arith) tree.levels c.first_row.ensures in
    omega (arith, c.sum_from.ensures, ap length row.all)

pub count_node-overflow_sub-tree : goal.count_node-overflow_sub-tree
count_node-overflow_sub-tree t c = let two = deep (goal.at.count_node-overflow_sub-tree t c).In_default in omega arith

-- ---- sum_from

pub sum_from-returns-then-row-eq0 : goal.sum_from-returns-then-row-eq0
sum_from-returns-then-row-eq0 t c = rw (c.if-row-eq0.true, branches_none)

-- d is the lowest of the offsets of row, and rest has the others
module _ (left : ℕ) {row : ℕ} {node : Node} (at : NodeWithLevels (left + 1) node) (upper : Upper (first_row node) row) (some : 0 < row) {d rest : ℕ} (low : (d ≡ lowest_offset row) × (rest ≡ row - 2 ^ lowest_offset row)) where
  -- taken off the others
  lowest : TakenOff row d rest
  lowest = upper_lowest upper some low

  -- of which there is one more than of these
  fewer : length (positions row) ≡ suc (length (positions rest))
  fewer = ap length lowest.first

  offsets : Offsets node.word row
  offsets = upper_offsets left node at upper

  -- the child there, and the others
  first : {m : Node} → m ≡ child_node node d → FirstChild left node m row rest
  first e = first_child _ _ at offsets lowest e

  -- the count over the row is less than 2 ^ 64
  few : length (branches left node.word row) < 2 ^ 64
  few = branches_fit _ _ _ (levels_below _ _ at) offsets

pub sum_from-invariant_of-count_node : goal.sum_from-invariant_of-count_node
sum_from-invariant_of-count_node t c =
    record { levels = (first c.args.left c.requires.node_with_levels c.requires.upper (omega arith) c.lowest_of-low.ensures c.child.ensures).node_levels }

-- the count over the row is that child's and the others': a child that is not made has none below it
parts : {t : ℕ} (c : sum_from-Joined-not-is_childless_at t)
    → c.if-not-is_childless_at.own + length (branches c.args.left c.args.word c.lowest_of-low.result.rest) ≡ length (branches c.args.left c.args.word c.args.row)
parts c =
    let begin = c.requires in
    let low = c.lowest_of-low.ensures in
    elim c.if-not-is_childless_at.branch [
      | sum_from-then-not-is_childless_at w ↦
          omega (arith, w.own-is, w.count_node-own.ensures, simp length-append at (ap length (first c.args.left begin.node_with_levels begin.upper (omega arith) low w.child.ensures).parts))
      | sum_from-else-not-is_childless_at w ↦
          let none = sym c.is_childless_at.ensures ∙ w.if-not-is_childless_at.false in
          omega (arith, w.own-is, ap length (childless_branches c.args.left _ begin.node_with_levels begin.upper (omega arith) low none begin.le_left))
    ]

pub sum_from-sum_from-requires : goal.sum_from-sum_from-requires
sum_from-sum_from-requires t c =
    let begin = c.requires in
    let low = c.lowest_of-low.ensures in (
      omega (arith, fewer c.args.left begin.node_with_levels begin.upper (omega arith) low),
      (begin.le_left, (begin.node_with_levels, upper_again begin.upper (omega arith) low)),
    )

pub sum_from-overflow_add-result : goal.sum_from-overflow_add-result
sum_from-overflow_add-result t c =
    let begin = c.requires in
    omega (
      arith,
      c.sum_from.ensures,
      parts (goal.at.sum_from-overflow_add-result t c).Joined-not-is_childless_at,
      few c.args.left begin.node_with_levels begin.upper (omega arith) c.lowest_of-low.ensures,
    )

pub sum_from-returns : goal.sum_from-returns
sum_from-returns t c = omega (arith, c.sum_from.ensures, parts (goal.at.sum_from-returns t c).Joined-not-is_childless_at)
