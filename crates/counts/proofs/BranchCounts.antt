-- How many leaves there are below a word, and below some children of it: a number of 64 bits. Assumes nothing.
use Prim.Native.Nat.{ℕ, suc, ◌+◌, ◌-◌, ◌^◌, ◌≤◌, ◌<◌}
use mathlib.Core.Path.{◌≡◌, ap, ◌∙◌, subst}
use mathlib.Core.List.{List, Memᴰ}
use native.Mathlib.Omega.{arith}
use lib.ListN.{length, length-map}
use lib.Pow.{pow_mono}
use Rattle.semigroups.specs.Words.{genus, conductor, child_word}
use Rattle.semigroups.specs.Positions.{positions}
use Rattle.semigroups.specs.Elements.{element_at, multiplicity, right_generators}
use Rattle.semigroups.specs.GenusList.{descendant_count}
use Rattle.semigroups.specs.Tree.{leaves}
use Rattle.semigroups.proofs.Lists.{joined_each, length_joined, sum_of_powers}
use Rattle.semigroups.proofs.StandingBits.{positions_ordered}
use Rattle.semigroups.proofs.Elements.{conductor_pos, multiplicity_element}
use Rattle.semigroups.proofs.Tree.{count_bound}
use Rattle.semigroups.proofs.Leaves.{descendants_leaves}
use Rattle.nodes.specs.RowCounts.{count_by_rows, great_count_by_rows}
use Rattle.nodes.specs.Levels.{Levels, NodeWithLevels}
use Rattle.nodes.specs.Branches.{branches, Offsets}
use Rattle.nodes.specs.declared.Node.{Node}
use Rattle.nodes.proofs.Branches.{child_of_generator, child_levels}
use Rattle.nodes.proofs.Rows.{index_below}
use Rattle.nodes.proofs.GrandchildCounts.{rows_count}
use Rattle.nodes.proofs.GreatGrandchildCounts.{great_rows_count}

-- one level below a word there is one for each generator not below the conductor
pub length_children : (w : ℕ) → length (leaves 1 w) ≡ length (right_generators w)
unfolding leaves
length_children w = ap length (joined_each (child_word w) (right_generators w)) ∙ length-map (right_generators w) (child_word w)

-- two levels below a node whose conductor is above its multiplicity, as many as rows 0 and 1 tell
pub length_grandchildren : (n : Node) → NodeWithLevels 2 n → multiplicity n.word < conductor n.word → count_by_rows n ≡ length (leaves 2 n.word)
length_grandchildren n at later =
    let o = at.levels in
    let two = index_below n.word o.fits 1 (omega (arith, multiplicity_element n.word o.fits)) in
    ap count_by_rows at.node ∙ rows_count n.word o.fits o.closed two o

-- three levels below a node whose conductor is above its second positive element, as many as rows 0, 1 and 2 tell
pub length_great_grandchildren : (n : Node) → NodeWithLevels 3 n → element_at n.word 2 < conductor n.word → great_count_by_rows n ≡ length (leaves 3 n.word)
length_great_grandchildren n at below = ap great_count_by_rows at.node ∙ great_rows_count n.word at.levels (index_below n.word at.levels.fits 2 below)

-- with c the conductor of a word, at most 2 ^ (64 - c) leaves are below it
pub leaves_bound : (r w : ℕ) → Levels r w → length (leaves r w) ≤ 2 ^ (64 - conductor w)
unfolding descendant_count
leaves_bound r w at =
    subst (λ (l : List ℕ). length l ≤ 2 ^ (64 - conductor w)) (descendants_leaves r w at.fits at.closed at.few)
    (count_bound (genus w + r) w at.fits at.closed (omega arith) at.few)

-- as no two offsets are the same, no more than below the conductor
pub branches_fit : (r w rest : ℕ) → Levels (suc r) w → Offsets w rest → length (branches r w rest) < 2 ^ 64
unfolding branches
branches_fit r w rest at o =
    let bound = sum_of_powers (λ d. length (leaves r (child_word w (conductor w + d)))) (64 - conductor w) 0 (positions rest) (positions_ordered rest) each in
    let room : 2 ^ (64 - conductor w - 0) ≤ 2 ^ 63 = pow_mono {j = 63} (omega (arith, conductor_pos w)) in
    omega (arith, length_joined (λ d. leaves r (child_word w (conductor w + d))) (positions rest))
  where
    each : (d : ℕ) → Memᴰ d (positions rest)
        → (0 ≤ d) × (d < 64 - conductor w) × (length (leaves r (child_word w (conductor w + d))) ≤ 2 ^ (64 - conductor w - suc d))
    each d m =
        let v = child_of_generator r w at (o d m) in
        let next : 64 - conductor (child_word w (conductor w + d)) ≡ 64 - conductor w - suc d = omega (arith, v.new_conductor) in (
          omega arith,
          omega (arith, v.low),
          subst (λ (k : ℕ). length (leaves r (child_word w (conductor w + d))) ≤ 2 ^ k) next (leaves_bound r _ (child_levels r w at (o d m))),
        )
