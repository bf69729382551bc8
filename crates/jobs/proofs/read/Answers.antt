-- `jobs::read` meets its contract: the fields are read, and then it is asked what they say. Assumes nothing.
use mathlib.Core.Path.{sym, ap, ◌∙◌}
use Rattle.answers.proofs.Answers.{handed_on}
use Rattle.jobs.proofs.Jobs.{read_by, read_by_fields}
use Rattle.jobs.proofs.read.Goals as goal

pub returns-in_err-fields_from : goal.returns-in_err-fields_from
returns-in_err-fields_from c = handed_on _ _ c.from_residual.ensures.1 (sym (read_by_fields 2 _ ∙ ap read_by (sym c.in_err-fields_from.ensures)))

pub returns : goal.returns
returns c = c.read_fields.ensures ∙ sym (read_by_fields 2 _ ∙ ap read_by (sym c.in_ok-fields_from.ensures))
