-- `atlas::atlas_batch` meets its contract: what the batch gives and leaves in the list, as a struct and the list. Assumes nothing.
use Prim.Native.Nat.{ℕ}
use mathlib.Core.Path.{refl, ap, ◌∙◌}
use mathlib.Core.List.{List}
use borrow.Author.Tests.{le-leb, lt-leb}
use Rattle.answers.specs.Answers.{number_of}
use Rattle.answers.specs.declared.Refusal.{Refusal}
use Rattle.walk.specs.declared.Walk.{Walk}
use Rattle.walk.specs.Walks.{Ending, batch_of}
use Rattle.interface.specs.Interface.{unmoved_in, moved_in, batch_in}
use Rattle.atlas.proofs.atlas_batch.Goals as goal

-- above genus 32
pub returns-then-walk-gt32 : goal.returns-then-walk-gt32
unfolding batch_in
returns-then-walk-gt32 c = rw (lt-leb _ 32 c.if-walk-gt32.true) (c.unmoved.ensures, refl)

-- a finished mark that is neither 0 nor 1
pub returns-in-Err : goal.returns-in-Err
unfolding batch_in
returns-in-Err c =
    let (mark, four) = c.in-Err.ensures in
    rw (le-leb _ 32 c.if-walk-gt32.false, mark) (c.unmoved-in-Err.ensures ∙ ap (λ (r : Refusal). unmoved_in (number_of r) c.args.walk) four, refl)

pub returns-in-Ok : goal.returns-in-Ok
unfolding batch_in
returns-in-Ok c =
    let (mark, same) = c.in-Ok.ensures in
    let lent : List ℕ = c.args.out.now in
    let made = c.batch-answer.ensures ∙ ap (λ (w : Walk). batch_of w lent) same in
    rw (le-leb _ 32 c.if-walk-gt32.false, mark)
    (c.ended.ensures ∙ ap (λ (e : Ending). moved_in e.walk e.answer) made, ap (λ (e : Ending). e.list) made)
