-- `tables::grandchildren` meets its contract: the node of an accepted word tells the number of its grandchildren. Assumes nothing.
use mathlib.Core.Path.{sym, ap, ◌∙◌}
use native.Mathlib.Omega.{arith}
use Rattle.answers.specs.Answers.{refused, given}
use Rattle.answers.proofs.Answers.{handed_on}
use Rattle.words.proofs.Looks.{asked, word_refused, word_given}
use Rattle.nodes.specs.Nodes.{node_of}
use Rattle.nodes.specs.RowCounts.{grandchildren_at}
use Rattle.nodes.proofs.GrandchildCounts.{grandchildren_at_is}
use Rattle.tables.specs.Answers.{node_answer, grandchildren_of}
use Rattle.tables.proofs.grandchildren.Goals as goal

pub returns-in_err-n : goal.returns-in_err-n
unfolding node_answer grandchildren_of
returns-in_err-n c = handed_on _ _ c.from_residual.ensures.1 (sym (word_refused _ (node_of _) refused _ _ (sym c.in_err-n.ensures)))

pub returns : goal.returns
unfolding grandchildren_of node_answer
returns c =
    let (h, same) = word_given _ (node_of _) _ (sym c.in_ok-n.ensures) in
    ap given (c.grandchildren.ensures ∙ ap grandchildren_at same ∙ grandchildren_at_is _ (omega arith) h) ∙ sym (asked refused _ _ h)
