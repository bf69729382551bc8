-- `Window::has_word` meets its contract: a look at the word puts the first two questions. Assumes nothing.
use mathlib.Core.Path.{sym, ◌∙◌}
use borrow.Author.Tests.{eq-eqb, ne_eqb}
use Rattle.windows.proofs.Held.{held_refused, held_told}
use Rattle.windows.proofs.Window.has_word.Goals as goal

-- a report of the genus
pub returns-then-report-genus : goal.returns-then-report-genus
returns-then-report-genus c = sym (held_told _ _ _ _ _ (sym c.in-Ok.ensures) ∙ rw (eq-eqb _ _ c.if-report-genus.true) (sym c.contains.ensures))

-- a report of another genus
pub returns-else-report-genus : goal.returns-else-report-genus
returns-else-report-genus c = sym (held_told _ _ _ _ _ (sym c.in-Ok.ensures) ∙ rw (ne_eqb _ _ c.if-report-genus.false))

pub returns-in-Err : goal.returns-in-Err
returns-in-Err c = sym (held_refused _ _ _ _ _ (sym c.in-Err.ensures))
