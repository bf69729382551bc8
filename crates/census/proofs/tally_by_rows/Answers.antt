-- `census::tally_by_rows` meets its contract. Assumes nothing.
use Rattle.std.proofs.Common.{◌≡◌, ℕ, suc, ◌+◌, ◌*◌, ◌%◌, ◌^◌, ◌≤◌, List, map, length, sym, ap, ◌∙◌, subst, arith}
use lib.ListN.{length-map}
use mathlib.Core.List.{Memᴰ}
use lib.Bits.{bit_and, bit_or}
use Rattle.semigroups.specs.Words.{child_word}
use Rattle.semigroups.specs.Positions.{positions}
use Rattle.semigroups.specs.Tree.{leaves}
use Rattle.semigroups.proofs.Bits.{one_shl}
use Rattle.semigroups.proofs.Elements.{multiplicity_le_genus}
use Rattle.nodes.specs.NewGaps.{moved_row_of_child, TwoRows}
use Rattle.nodes.proofs.NewGaps.{upper_taken}
use Rattle.nodes.proofs.MovedRows.{child_row_made, two_levels_below}
use Rattle.census.specs.Private.{census_place, tallied, RoomFor}
use Rattle.census.proofs.RowPlaces.{with_multiplicity, gaps_begin, gap_room, gaps_again, gaps_end, child_places, are_places}
use Rattle.census.proofs.tally_by_rows.Goals as goal
use Rattle.census.proofs.tally_by_rows.Goals.{After-multiplicity_of-m, In-Some}

-- the rows, with the multiplicity as it is computed
rows : (c : After-multiplicity_of-m) → TwoRows c.args.word c.multiplicity_of-m.result c.args.generators c.args.seeds
rows c = with_multiplicity c.requires.two_rows c.multiplicity_of-m.ensures

-- the multiplicity is at most 31
low : (c : After-multiplicity_of-m) → c.multiplicity_of-m.result ≤ 31
low c = omega (arith, (rows c).least, multiplicity_le_genus _ (rows c).levels.fits, (rows c).levels.few)

module _ (c : In-Some) where
  -- the bit of the lowest generator that is left
  abbrev at : ℕ
  at = c.in-Some.low.at.0

  -- the bits that are made of it, of the others and of the seeds
  abbrev made : ℕ
  made = bit_or c.in-Some.low.rest (bit_and c.args.seeds (1 * 2 ^ at % 2 ^ 64) * 2 ^ c.multiplicity_of-m.result % 2 ^ 64)

  -- it is one of the generators
  among : Memᴰ at (positions c.args.generators)
  among = upper_taken c.loop-low.invariant.upper c.in-Some.ensures.steps.0

  -- the bits tell the generators of the child without it
  bits : made ≡ moved_row_of_child c.args.generators c.args.seeds c.multiplicity_of-m.result at
  bits =
      let low = c.in-Some.ensures.steps.0 in
      rw (one_shl at low.below) (child_row_made c.args.seeds c.multiplicity_of-m.result c.loop-low.invariant.upper low)

  -- so they tell the places of the words below the child
  places : TwoRows c.args.word c.multiplicity_of-m.result c.args.generators c.args.seeds
      → map census_place (leaves 1 (child_word c.args.word (suc at))) ≡ map (λ j. 65 * c.multiplicity_of-m.result + 2 + j) (positions made)
  places rows = child_places rows among ∙ ap (λ (b : ℕ). map (λ j. 65 * c.multiplicity_of-m.result + 2 + j) (positions b)) (sym bits)

pub overflow_mul-first : goal.overflow_mul-first
overflow_mul-first c = record { fits = omega (arith, low (goal.at.overflow_mul-first c).After-multiplicity_of-m) }

pub overflow_add-first : goal.overflow_add-first
overflow_add-first c = record { fits = omega (arith, low (goal.at.overflow_add-first c).After-multiplicity_of-m) }

pub loop-low-init : goal.loop-low-init
loop-low-init c =
    rw c.into_iter-low-iterator.ensures.into_iter_gives
    (gaps_begin c.ranges.generators.fits (two_levels_below (rows (goal.at.loop-low-init c).After-multiplicity_of-m)) c.requires.room_for)

pub overflow_shl-seeds : goal.overflow_shl-seeds
overflow_shl-seeds c = omega (arith, low (goal.at.overflow_shl-seeds c).After-multiplicity_of-m)

pub tally_bits-requires : goal.tally_bits-requires
tally_bits-requires c =
    let at = goal.at.tally_bits-requires c in
    let rows = rows at.After-multiplicity_of-m in
    record {
      are_places = rw (bits at.In-Some) (are_places rows (among at.In-Some));
      room_for =
          subst (λ (k : ℕ). RoomFor k c.loop-low.out)
          (sym (length-map (leaves 1 _) census_place) ∙ ap length (places at.In-Some rows) ∙ length-map (positions _) _)
          (gap_room c.loop-low.invariant c.in-Some.ensures.steps.0);
    }

pub loop-low-preserved : goal.loop-low-preserved
loop-low-preserved c =
    let at = goal.at.loop-low-preserved c in
    let (low, left) = c.in-Some.ensures.steps in
    rw left (
    gaps_again c.loop-low.invariant low
    (c.tally_bits.ensures ∙ ap (λ (l : List ℕ). tallied l c.loop-low.out) (sym (places at.In-Some (rows at.After-multiplicity_of-m))))
    )

pub returns : goal.returns
returns c = gaps_end c.loop-low.invariant c.in-None.ensures.steps.0
