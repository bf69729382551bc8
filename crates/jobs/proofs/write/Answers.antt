-- `jobs::write` meets its contract: refused where the walk is, and else written where the list holds the job. Assumes nothing.
use Prim.Native.Nat.{ℕ}
use mathlib.Core.Path.{refl, sym, ap, ◌∙◌}
use Rattle.answers.specs.Answers.{Answer, ListAnswer}
use Rattle.answers.proofs.Answers.{handed_on}
use Rattle.jobs.proofs.Jobs.{write_refused, write_given}
use Rattle.jobs.proofs.write.Goals as goal

pub returns-in_err-answer_for : goal.returns-in_err-answer_for
returns-in_err-answer_for c =
    let with_answer : Answer ℕ → ListAnswer = λ a. record { answer = a; list = c.args.out.now } in
    ap with_answer (handed_on _ _ c.from_residual.ensures.1 refl) ∙ sym (write_refused _ _ _ _ (sym c.in_err-answer_for.ensures))

pub returns : goal.returns
returns c = c.put_job.ensures ∙ sym (write_given _ _ _ _ (sym c.in_ok-answer_for.ensures))
