-- `jobs::answer_for` meets its contract: the two questions as a batch asks them. Assumes nothing.
use mathlib.Core.Path.{sym, ◌∙◌}
use borrow.Author.Tests.{le-leb, lt-leb}
use Rattle.jobs.specs.Jobs.{saved_of}
use Rattle.jobs.proofs.answer_for.Goals as goal

pub returns-then-walk-gt32 : goal.returns-then-walk-gt32
unfolding saved_of
returns-then-walk-gt32 c = rw (lt-leb _ 32 c.if-walk-gt32.true)

pub returns-then-not-in_order : goal.returns-then-not-in_order
unfolding saved_of
returns-then-not-in_order c = rw (le-leb _ 32 c.if-walk-gt32.false, sym c.in_order.ensures ∙ c.if-not-in_order.true)

pub returns : goal.returns
unfolding saved_of
returns c = rw (le-leb _ 32 c.if-walk-gt32.false, sym c.in_order.ensures ∙ c.if-not-in_order.false)
