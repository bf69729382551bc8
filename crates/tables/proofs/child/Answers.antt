-- `tables::child` meets its contract: the first three questions are those of the look and of the genus. Assumes nothing.
use mathlib.Core.Path.{◌≡◌, sym, ap, ◌∙◌}
use native.Mathlib.Omega.{arith}
use Rattle.semigroups.specs.Words.{genus}
use Rattle.answers.specs.Answers.{refused}
use Rattle.answers.proofs.Answers.{handed_on}
use Rattle.words.specs.Looks.{report_of, Accepted}
use Rattle.words.specs.declared.Report.{Report}
use Rattle.words.proofs.Looks.{asked_refused, look_given_report}
use Rattle.nodes.specs.Nodes.{node_of}
use Rattle.nodes.specs.declared.Node.{Node}
use Rattle.nodes.proofs.Levels.{accepted_levels}
use Rattle.tables.specs.Answers.{child_of}
use Rattle.tables.proofs.Answers.{no_child}
use Rattle.tables.proofs.child.Goals as goal
use Rattle.tables.proofs.child.Goals.{In_ok-report}

-- a word that the look tells of is accepted, and the report is its own
accepted : (c : In_ok-report) → Accepted c.args.word × (c.in_ok-report.report ≡ report_of c.args.word)
accepted c = look_given_report _ _ (sym c.in_ok-report.ensures)

-- the report's genus is the word's
same_genus : (c : In_ok-report) → c.in_ok-report.report.genus ≡ genus c.args.word
unfolding report_of
same_genus c = ap (λ (r : Report). r.genus) (accepted c).1

pub returns-in_err-report : goal.returns-in_err-report
unfolding child_of
returns-in_err-report c = handed_on _ _ c.from_residual.ensures.1 (sym (asked_refused refused _ _ _ (sym c.in_err-report.ensures)))

pub returns-then-report-gt31 : goal.returns-then-report-gt31
returns-then-report-gt31 c =
    let at = (goal.at.returns-then-report-gt31 c).In_ok-report in
    sym (no_child _ _ (accepted at).0 (omega (arith, same_genus at)))

pub reached-requires : goal.reached-requires
reached-requires c = (accepted (goal.at.reached-requires c).In_ok-report).0

pub removed-requires : goal.removed-requires
unfolding node_of
removed-requires c =
    let at = (goal.at.removed-requires c).In_ok-report in
    rw c.reached.ensures (accepted_levels 1 _ (omega arith) (accepted at).0 (omega (arith, same_genus at)))

pub returns : goal.returns
unfolding node_of
returns c =
    let e = c.args.element.0 in
    c.removed.ensures ∙ ap (λ (n : Node). child_of n.word e) c.reached.ensures
