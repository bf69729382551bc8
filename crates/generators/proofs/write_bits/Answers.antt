-- `generators::write_bits` meets its contract. Assumes nothing.
use native.Mathlib.Omega.{arith}
use Rattle.generators.proofs.Writing.{start_writing, written_all, place_left, write_next}
use Rattle.generators.proofs.write_bits.Goals as goal

pub loop-low-init : goal.loop-low-init
loop-low-init c =
    rw c.into_iter-low-iterator.ensures.into_iter_gives (start_writing c.args.bits c.args.first c.args.start c.args.out.now (omega (arith, c.requires.1)))

pub bounds-out-at : goal.bounds-out-at
bounds-out-at c = place_left c.loop-low.invariant c.requires.1 c.in-Some.ensures.steps.0

pub overflow_add-at : goal.overflow_add-at
overflow_add-at c = omega (arith, place_left c.loop-low.invariant c.requires.1 c.in-Some.ensures.steps.0)

pub loop-low-preserved : goal.loop-low-preserved
loop-low-preserved c = rw c.in-Some.ensures.steps.1 (write_next c.loop-low.invariant c.requires.1 c.in-Some.ensures.steps.0)

pub returns : goal.returns
returns c = written_all c.loop-low.invariant c.requires.1 c.in-None.ensures.steps.0
