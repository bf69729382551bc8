-- `tables::node_of` meets its contract: the way down the tree ends at the node of an accepted word. Assumes nothing.
use mathlib.Core.Path.{sym, ap, ◌∙◌}
use Rattle.answers.specs.Answers.{refused, given}
use Rattle.answers.proofs.Answers.{handed_on}
use Rattle.words.proofs.Looks.{asked, asked_refused, look_given_report}
use Rattle.tables.specs.Answers.{node_answer}
use Rattle.tables.proofs.node_of.Goals as goal

pub reached-requires : goal.reached-requires
reached-requires c = (look_given_report _ _ (sym c.in_ok-look.ensures)).0

pub returns-in_err-look : goal.returns-in_err-look
unfolding node_answer
returns-in_err-look c = handed_on _ _ c.from_residual.ensures.1 (sym (asked_refused refused _ _ _ (sym c.in_err-look.ensures)))

pub returns : goal.returns
unfolding node_answer
returns c = ap given c.reached.ensures ∙ sym (asked refused _ _ (look_given_report _ _ (sym c.in_ok-look.ensures)).0)
