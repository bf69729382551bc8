-- `kunz::coordinates` meets its contract: a look tells whether the word is accepted, and its multiplicity. Assumes nothing.
use mathlib.Core.Path.{sym, ap}
use Rattle.answers.specs.Answers.{unchanged}
use Rattle.answers.proofs.Answers.{listed_on}
use Rattle.words.specs.Looks.{report_of, listed_into}
use Rattle.words.specs.declared.Report.{Report}
use Rattle.words.proofs.Looks.{asked_refused, look_given_report}
use Rattle.coordinates.specs.Coordinates.{coordinates_of}
use Rattle.kunz.proofs.coordinates.Goals as goal

pub coordinates_of-requires : goal.coordinates_of-requires
unfolding report_of
coordinates_of-requires c =
    let (h, same) = look_given_report _ _ (sym c.in_ok-report.ensures) in
    record { accepted = h; multiplicity_is = ap (λ (r : Report). r.multiplicity) same }

pub returns-in_err-report : goal.returns-in_err-report
unfolding coordinates_of listed_into
returns-in_err-report c = listed_on _ _ c.args.out.now c.from_residual.ensures.1 (sym (asked_refused (unchanged c.args.out.now) _ _ _ (sym c.in_err-report.ensures)))
