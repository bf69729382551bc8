-- `census::tally_bits` meets its contract. Assumes nothing.
use Rattle.std.proofs.Common.{ℕ, [], ◌∷◌, ap, ◌∙◌, arith}
use Rattle.semigroups.specs.Positions.{positions}
use Rattle.semigroups.proofs.StandingBits.{positions_zero}
use Rattle.nodes.specs.Nodes.{TakenOff}
use Rattle.nodes.proofs.NewGaps.{upper_taken, upper_left}
use Rattle.census.specs.Private.{tallied}
use Rattle.census.proofs.Tallies.{InParts, room_first, tally_again, tally_ends}
use Rattle.census.proofs.tally_bits.Goals as goal

-- the lowest position comes first
parts : {bits at others : ℕ} → TakenOff bits at others → InParts (at ∷ []) (positions others) (positions bits)
parts low = record { split = low.first }

pub overflow_add-first : goal.overflow_add-first
overflow_add-first c = record { fits = omega (arith, c.requires.are_places _ (upper_taken c.loop-low.invariant.0 c.in-Some.ensures.steps.0)) }

pub add_one-requires : goal.add_one-requires
add_one-requires c =
    let (now, tallying) = c.loop-low.invariant in
    let low = c.in-Some.ensures.steps.0 in
    (c.requires.are_places _ (upper_taken now low), room_first tallying (parts low))

pub loop-low-preserved : goal.loop-low-preserved
unfolding tallied
loop-low-preserved c =
    let (now, tallying) = c.loop-low.invariant in
    let (low, left) = c.in-Some.ensures.steps in
    rw left (upper_left now low, tally_again tallying (parts low) c.add_one.ensures)

pub returns : goal.returns
returns c = tally_ends c.loop-low.invariant.1 (ap positions c.in-None.ensures.steps.0 ∙ positions_zero)
