-- `walk::in_order` meets its contract: of an unfinished walk, its window is asked for its word. Assumes nothing.
use mathlib.Core.Path.{sym, ◌∙◌}
use Rattle.walk.proofs.Batches.{in_order_finished, in_order_going}
use Rattle.walk.proofs.in_order.Goals as goal

pub returns-then-walk : goal.returns-then-walk
returns-then-walk c = sym (in_order_finished _ c.if-walk.true)

pub returns : goal.returns
returns c = c.has_word.ensures ∙ sym (in_order_going _ c.if-walk.false)
