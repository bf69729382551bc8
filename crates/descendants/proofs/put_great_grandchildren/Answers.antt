-- `descendants::put_great_grandchildren` meets its contract: a loop that puts words, those two levels below the child without each generator. Assumes
-- nothing.
use Prim.Native.Nat.{ℕ, suc, ◌+◌, ◌*◌, ◌-◌, ◌%◌, ◌^◌}
use mathlib.Core.Path.{◌≡◌, ap, ◌∙◌}
use native.Mathlib.Omega.{arith}
use Rattle.semigroups.specs.Words.{child_word}
use Rattle.semigroups.proofs.Bits.{one_shl}
use Rattle.nodes.specs.NewGaps.{gap_branches, ThreeRows}
use Rattle.nodes.proofs.Levels.{conductor_within}
use Rattle.nodes.proofs.Rows.{second_above}
use Rattle.nodes.proofs.NewGaps.{upper_taken, upper_left, gap_branches_none, gap_branches_first, bit_word}
use Rattle.nodes.proofs.MovedRows.{three_rows_low, three_levels_below, three_rows_fit, child_two_rows_made, node_three_rows}
use Rattle.lending.proofs.Lending.{putting_none, putting_stops, putting_on}
use Rattle.descendants.proofs.put_great_grandchildren.Goals as goal
use Rattle.descendants.proofs.put_great_grandchildren.Goals.{After-first_row, In-Some}

-- the rows that were read
module _ (c : After-first_row) where
  abbrev moved : ℕ → ℕ
  moved row = row * 2 ^ (c.args.n.conductor - 1) % 2 ^ 64

  rows :
      ThreeRows c.args.n.word c.multiplicity_of-m.result (c.second_element.result - c.multiplicity_of-m.result)
      (moved c.first_row.result) (moved c.second_row.result) (moved c.third_row.result)
  rows =
      node_three_rows _ c.multiplicity_of-m.ensures c.first_row.ensures c.second_row.ensures c.requires.node_with_levels c.requires.word_bound
      c.second_element.ensures c.third_row.ensures

module _ (c : In-Some) where
  -- the child without the lowest generator that is left has the word with its bit added
  child : c.args.n.word + 1 * 2 ^ c.in-Some.low.at.0 % 2 ^ 64 ≡ child_word c.args.n.word (suc c.in-Some.low.at.0)
  child = rw (one_shl c.in-Some.low.at.0 c.in-Some.ensures.steps.0.below) (bit_word c.args.n.word c.in-Some.low.at.0)

pub overflow_sub-up : goal.overflow_sub-up
overflow_sub-up c = (conductor_within 3 _ c.requires.node_with_levels).0

pub overflow_sub-u : goal.overflow_sub-u
overflow_sub-u c =
    omega (arith, c.multiplicity_of-m.ensures, c.second_element.ensures, second_above c.args.n.word c.requires.node_with_levels.levels.fits)

pub overflow_shl-seeds : goal.overflow_shl-seeds
overflow_shl-seeds c = omega (arith, conductor_within 3 _ c.requires.node_with_levels)

pub overflow_shl-last : goal.overflow_shl-last
overflow_shl-last c = omega (arith, conductor_within 3 _ c.requires.node_with_levels)

pub overflow_shl-generators : goal.overflow_shl-generators
overflow_shl-generators c = omega (arith, conductor_within 3 _ c.requires.node_with_levels)

-- it is one of the generators, so that the word without it fits
pub overflow_add-w : goal.overflow_add-w
overflow_add-w c =
    let at = goal.at.overflow_add-w c in
    rw (child at.In-Some) record { fits = three_rows_fit (rows at.After-first_row) _ (upper_taken c.loop-low.invariant.0 c.in-Some.ensures.steps.0) }

pub overflow_shl-seeds-in-loop-low : goal.overflow_shl-seeds-in-loop-low
overflow_shl-seeds-in-loop-low c = (three_rows_low (rows (goal.at.overflow_shl-seeds-in-loop-low c).After-first_row)).0

pub overflow_shl-last-in-loop-low : goal.overflow_shl-last-in-loop-low
overflow_shl-last-in-loop-low c = (three_rows_low (rows (goal.at.overflow_shl-last-in-loop-low c).After-first_row)).1

-- rows 0 and 1 of that word are made of the generator, of the others and of the rows
pub put_by_rows-requires : goal.put_by_rows-requires
put_by_rows-requires c =
    let low = c.in-Some.ensures.steps.0 in
    record {
      two_rows =
          rw (one_shl c.in-Some.low.at.0 low.below)
          (child_two_rows_made (rows (goal.at.put_by_rows-requires c).After-first_row) c.loop-low.invariant.0 low);
    }

pub returns-in_err-at : goal.returns-in_err-at
returns-in_err-at c =
    let at = goal.at.returns-in_err-at c in
    rw (three_levels_below (rows at.After-first_row))
    (putting_stops c.loop-low.invariant.1 _ _ (gap_branches_first _ c.in-Some.ensures.steps.0 2) c.from_residual.ensures.1 (rw (child at.In-Some) at c.in_err-at.ensures))

pub loop-low-preserved : goal.loop-low-preserved
loop-low-preserved c =
    let (low, left) = c.in-Some.ensures.steps in
    let (now, putting) = c.loop-low.invariant in
    rw left (
      upper_left now low,
      putting_on putting _ _ (gap_branches_first _ low 2) (rw (child (goal.at.loop-low-preserved c).In-Some) at c.in_ok-at.ensures),
    )

pub returns : goal.returns
returns c =
    rw (three_levels_below (rows (goal.at.returns c).After-first_row))
    (putting_none c.loop-low.invariant.1 (ap (gap_branches 2 _) c.in-None.ensures.steps.0 ∙ gap_branches_none 2 _))
