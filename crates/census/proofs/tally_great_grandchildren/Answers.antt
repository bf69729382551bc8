-- `census::tally_great_grandchildren` meets its contract. Assumes nothing.
use Rattle.std.proofs.Common.{◌≡◌, ℕ, suc, ◌+◌, ◌*◌, ◌-◌, ◌%◌, ◌^◌, map, refl, ap, ◌∙◌, arith}
use native.Mathlib.Nat.{mod-lt}
use lib.Pow.{pow_pos}
use Rattle.semigroups.specs.Words.{child_word}
use Rattle.semigroups.specs.Tree.{leaves}
use Rattle.semigroups.proofs.Bits.{one_shl}
use Rattle.nodes.specs.NewGaps.{ThreeRows}
use Rattle.nodes.proofs.Levels.{conductor_within}
use Rattle.nodes.proofs.Rows.{second_above}
use Rattle.nodes.proofs.NewGaps.{upper_taken, bit_word}
use Rattle.nodes.proofs.MovedRows.{three_rows_low, three_levels_below, three_rows_fit, child_two_rows_made, node_three_rows}
use Rattle.census.specs.Private.{census_place, tallied}
use Rattle.census.proofs.RowPlaces.{with_multiplicity, gaps_begin, gap_room, gaps_again, gaps_end}
use Rattle.census.proofs.tally_great_grandchildren.Goals as goal
use Rattle.census.proofs.tally_great_grandchildren.Goals.{After-third_row, In-Some}

module _ (c : After-third_row) where
  -- a row, moved up
  abbrev moved : ℕ → ℕ
  moved row = row * 2 ^ (c.args.tree.node.conductor - 1) % 2 ^ 64

  -- the three rows that were read are those of the node
  rows :
      ThreeRows c.args.tree.node.word c.multiplicity_of-m.result (c.second_element.result - c.multiplicity_of-m.result)
      (moved c.first_row.result) (moved c.second_row.result) (moved c.third_row.result)
  rows =
      node_three_rows _ c.multiplicity_of-m.ensures c.first_row.ensures c.second_row.ensures (rw c.requires.left at c.args.tree.levels) c.requires.word_bound
      c.second_element.ensures c.third_row.ensures

module _ (c : In-Some) where
  -- the child without the lowest generator that is left has the word with its bit added
  child : c.args.tree.node.word + 1 * 2 ^ c.in-Some.low.at.0 % 2 ^ 64 ≡ child_word c.args.tree.node.word (suc c.in-Some.low.at.0)
  child = rw (one_shl c.in-Some.low.at.0 c.in-Some.ensures.steps.0.below) (bit_word c.args.tree.node.word c.in-Some.low.at.0)

pub overflow_sub-up : goal.overflow_sub-up
overflow_sub-up c = (conductor_within _ _ c.args.tree.levels).0

-- the multiplicity is below the second positive element
pub overflow_sub-u : goal.overflow_sub-u
overflow_sub-u c =
    omega (arith, c.multiplicity_of-m.ensures, c.second_element.ensures, second_above c.args.tree.node.word c.args.tree.levels.levels.fits)

pub overflow_shl-seeds : goal.overflow_shl-seeds
overflow_shl-seeds c = omega (arith, conductor_within _ _ c.args.tree.levels)

pub overflow_shl-last : goal.overflow_shl-last
overflow_shl-last c = omega (arith, conductor_within _ _ c.args.tree.levels)

pub overflow_shl-generators : goal.overflow_shl-generators
overflow_shl-generators c = omega (arith, conductor_within _ _ c.args.tree.levels)

pub loop-low-init : goal.loop-low-init
loop-low-init c =
    rw c.into_iter-low-iterator.ensures.into_iter_gives
    (gaps_begin (mod-lt _ (pow_pos 64)) (three_levels_below (rows (goal.at.loop-low-init c).After-third_row)) c.requires.room_for)

-- it is one of the generators, so that the word without it fits
pub overflow_add-w : goal.overflow_add-w
overflow_add-w c =
    let at = goal.at.overflow_add-w c in
    rw (child at.In-Some)
    record { fits = three_rows_fit (rows at.After-third_row) _ (upper_taken c.loop-low.invariant.upper c.in-Some.ensures.steps.0) }

pub overflow_shl-seeds-in-loop-low : goal.overflow_shl-seeds-in-loop-low
overflow_shl-seeds-in-loop-low c = (three_rows_low (rows (goal.at.overflow_shl-seeds-in-loop-low c).After-third_row)).0

pub overflow_shl-last-in-loop-low : goal.overflow_shl-last-in-loop-low
overflow_shl-last-in-loop-low c = (three_rows_low (rows (goal.at.overflow_shl-last-in-loop-low c).After-third_row)).1

-- rows 0 and 1 of that word are made of the generator, of the others and of the rows
pub tally_by_rows-requires : goal.tally_by_rows-requires
tally_by_rows-requires c =
    let at = goal.at.tally_by_rows-requires c in
    let now = c.loop-low.invariant in
    let low = c.in-Some.ensures.steps.0 in
    record {
      two_rows =
          with_multiplicity {m = c.multiplicity_of-m.result}
          (rw (one_shl c.in-Some.low.at.0 low.below) (child_two_rows_made (rows at.After-third_row) now.upper low)) refl;
      room_for = rw (child at.In-Some) (gap_room now low);
    }

pub loop-low-preserved : goal.loop-low-preserved
loop-low-preserved c =
    let (low, left) = c.in-Some.ensures.steps in
    rw left (
    gaps_again c.loop-low.invariant low
    (c.tally_by_rows.ensures
    ∙ ap (λ (v : ℕ). tallied (map census_place (leaves 2 v)) c.loop-low.out) (child (goal.at.loop-low-preserved c).In-Some))
    )

pub returns : goal.returns
returns c = gaps_end c.loop-low.invariant c.in-None.ensures.steps.0
