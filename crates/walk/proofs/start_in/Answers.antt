-- `walk::start_in` meets its contract: the first two questions are those of the look. Assumes nothing.
use mathlib.Core.Path.{◌≡◌, sym, ap, ◌∙◌}
use mathlib.Core.Bool.{false}
use Rattle.answers.specs.Answers.{refused, given}
use Rattle.answers.proofs.Answers.{handed_on}
use Rattle.words.specs.Looks.{report_of, Accepted}
use Rattle.words.specs.declared.Report.{Report}
use Rattle.words.proofs.Looks.{asked_refused, look_given_report}
use Rattle.windows.specs.Windows.{within}
use Rattle.walk.specs.Walks.{start_in_of}
use Rattle.walk.proofs.Walks.{start_in_answers, start_in_refused}
use Rattle.walk.proofs.start_in.Goals as goal
use Rattle.walk.proofs.start_in.Goals.{In_ok-report}

-- the report that the look gave
told : (c : In_ok-report) → let w = c.args.word in Accepted w × (c.in_ok-report.report ≡ report_of w)
told c = look_given_report _ _ (sym c.in_ok-report.ensures)

pub returns-in_err-report : goal.returns-in_err-report
unfolding start_in_of
returns-in_err-report c = handed_on _ _ c.from_residual.ensures.1 (sym (asked_refused refused _ _ _ (sym c.in_err-report.ensures)))

-- the word's multiplicity is outside the window
pub returns-then-not-contains : goal.returns-then-not-contains
unfolding report_of
returns-then-not-contains c =
    let (accepted, same) = told (goal.at.returns-then-not-contains c).In_ok-report in
    sym (start_in_refused _ accepted _ _
    (ap (λ (r : Report). within c.args.window.lowest c.args.window.highest r.multiplicity) (sym same) ∙ sym c.contains.ensures ∙ c.if-not-contains.true))

pub returns : goal.returns
unfolding report_of
returns c =
    let (accepted, same) = told (goal.at.returns c).In_ok-report in
    ap (λ (r : Report). given record { genus = r.genus; word = c.args.word; window = c.args.window; finished = false }) same
    ∙ sym (start_in_answers _ accepted _ _
    (ap (λ (r : Report). within c.args.window.lowest c.args.window.highest r.multiplicity) (sym same) ∙ sym c.contains.ensures ∙ c.if-not-contains.false))
