-- `walk::fresh_in` meets its contract: the first word of the window is that of the call below. Assumes nothing.
use mathlib.Core.Path.{sym, ap, ◌∙◌}
use mathlib.Core.Bool.{not, not-not}
use Rattle.answers.proofs.Answers.{handed_on}
use Rattle.walk.proofs.FreshWalks.{stood_on, fresh_by_first, stood}
use Rattle.walk.proofs.fresh_in.Goals as goal

pub returns-in_err-first : goal.returns-in_err-first
returns-in_err-first c = handed_on _ _ c.from_residual.ensures.1 (sym (fresh_by_first _ _ _ ∙ ap (stood_on _ _ _) (sym c.in_err-first.ensures)))

pub returns : goal.returns
returns c =
    let finished = sym (ap not c.is_none.ensures ∙ not-not c.is_none.result) in
    rw (c.unwrap_or.ensures, finished)
    (stood _ _ _ c.in_ok-first.first ∙ sym (fresh_by_first _ _ _ ∙ ap (stood_on _ _ _) (sym c.in_ok-first.ensures)))
