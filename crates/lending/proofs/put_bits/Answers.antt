-- `lending::put_bits` meets its contract: a loop that puts words, one for each bit. Assumes nothing.
use Rattle.std.proofs.Common.{◌≡◌, ◌+◌, ◌*◌, ◌%◌, ◌^◌, ◌∷◌, ap, ◌∙◌}
use Rattle.semigroups.proofs.Bits.{one_shl}
use Rattle.lending.specs.Lending.{with_each}
use Rattle.lending.proofs.Lending.{putting_none, putting_stops, putting_on, with_none, with_first}
use Rattle.lending.proofs.put_bits.Goals as goal
use Rattle.lending.proofs.put_bits.Goals.{In-Some}

-- the word with the lowest bit comes first
first : (c : In-Some) → with_each c.args.word c.loop-low.low-iterator.0 ≡ (c.args.word + 1 * 2 ^ c.in-Some.low.at.0 % 2 ^ 64) % 2 ^ 64 ∷ with_each c.args.word c.in-Some.low.rest
first c = let low = c.in-Some.ensures.steps.0 in rw (one_shl c.in-Some.low.at.0 low.below) (with_first c.args.word low)

pub returns-in_err-at : goal.returns-in_err-at
returns-in_err-at c = putting_stops c.loop-low.invariant _ _ (first (goal.at.returns-in_err-at c).In-Some) c.from_residual.ensures.1 c.in_err-at.ensures

pub loop-low-preserved : goal.loop-low-preserved
loop-low-preserved c =
    rw c.in-Some.ensures.steps.1 (putting_on c.loop-low.invariant _ _ (first (goal.at.loop-low-preserved c).In-Some) c.in_ok-at.ensures)

pub returns : goal.returns
returns c = putting_none c.loop-low.invariant (ap (with_each _) c.in-None.ensures.steps.0 ∙ with_none _)
