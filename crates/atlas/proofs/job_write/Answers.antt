-- `atlas::job_write` meets its contract: questions 3 and 4 as a batch asks them, and then what the call gives. Assumes nothing.
use Prim.Native.Nat.{ℕ}
use mathlib.Core.Path.{ap, ◌∙◌}
use borrow.Author.Tests.{le-leb, lt-leb}
use Rattle.answers.specs.Answers.{Answer, ListAnswer, refused, number_of}
use Rattle.answers.specs.declared.Refusal.{Refusal}
use Rattle.answers.proofs.Answers.{handed_on}
use Rattle.walk.specs.declared.Walk.{Walk}
use Rattle.jobs.specs.Jobs.{write_of}
use Rattle.interface.specs.Interface.{written_in}
use Rattle.atlas.proofs.job_write.Goals as goal

-- above genus 32
pub returns-then-walk-gt32 : goal.returns-then-walk-gt32
unfolding written_in
returns-then-walk-gt32 c = rw (lt-leb _ 32 c.if-walk-gt32.true)

-- a finished mark that is neither 0 nor 1
pub returns-in_err-walk : goal.returns-in_err-walk
unfolding written_in
returns-in_err-walk c =
    let (mark, four) = c.in_err-walk.ensures in
    let by_number : Refusal → Answer ℕ = λ r. refused (number_of r) in
    let with_answer : Answer ℕ → ListAnswer = λ a. record { answer = a; list = c.args.out.now } in
    rw (le-leb _ 32 c.if-walk-gt32.false, mark)
    (ap with_answer (handed_on _ _ c.from_residual.ensures.1 (ap by_number four)))

pub returns : goal.returns
unfolding written_in
returns c =
    let (mark, same) = c.in_ok-walk.ensures in
    rw (le-leb _ 32 c.if-walk-gt32.false, mark) (c.write.ensures ∙ ap (λ (w : Walk). write_of w c.args.written c.args.out.now) same)
