-- `walk::step` meets its contract: each refusal by its question, and else the words are put from the walk's on. Assumes nothing.
use Prim.Native.Nat.{ℕ}
use mathlib.Core.Path.{◌≡◌, sym, ap, ◌∙◌}
use mathlib.Core.Bool.{Bool, false}
use mathlib.Core.List.{List}
use lib.ListN.{length}
use Rattle.std.specs.Prelude.{Result}
use Rattle.answers.specs.Answers.{given}
use Rattle.lending.specs.declared.NoRoom.{NoRoom}
use Rattle.walk.specs.declared.Walk.{Walk}
use Rattle.walk.specs.Walks.{Ending, batch_of}
use Rattle.walk.proofs.Batches.{written_ending, step_refused, batch_genus, batch_no_word, batch_idle, batch_written}
use Rattle.walk.proofs.step.Goals as goal
use Rattle.walk.proofs.step.Goals.{In_ok-count}

-- the ending of the batch, by what became of the lent list
ending : (c : In_ok-count) {t : Result ℕ NoRoom} → c.in_ok-count.field-0 ≡ t →
    written_ending c.args.walk (given t, c.write_from.new.out) ≡ batch_of c.args.walk c.args.out.now
ending c e =
    let w : Walk = c.args.walk in
    ap (λ (t : Result ℕ NoRoom). written_ending w (given t, c.write_from.new.out)) (sym e)
    ∙ ap (written_ending w) c.in_ok-count.ensures
    ∙ sym (batch_written w _ c.if-walk-gt32.false c.if-walk.false)

pub returns-then-walk-gt32 : goal.returns-then-walk-gt32
returns-then-walk-gt32 c = sym (batch_genus _ _ c.if-walk-gt32.true)

pub returns-then-walk-ne0 : goal.returns-then-walk-ne0
returns-then-walk-ne0 c = sym (batch_no_word _ _ c.if-walk-gt32.false c.if-walk.true c.if-walk-ne0.true)

pub returns-then-walk : goal.returns-then-walk
returns-then-walk c = sym (batch_idle _ _ c.if-walk-gt32.false c.if-walk.true c.if-walk-ne0.false)

pub returns-in_err-count : goal.returns-in_err-count
returns-in_err-count c =
    let w : Walk = c.args.walk in
    step_refused w _ _ _ c.from_residual.ensures.1
    ∙ ap (written_ending w) c.in_err-count.ensures
    ∙ sym (batch_written w _ c.if-walk-gt32.false c.if-walk.false)

pub returns-in-Ok : goal.returns-in-Ok
returns-in-Ok c = ending (goal.at.returns-in-Ok c).In_ok-count c.in-Ok.is

pub returns-in-Err : goal.returns-in-Err
returns-in-Err c =
    let w : Walk = c.args.walk in
    let out : List ℕ = c.write_from.new.out in
    let still : Bool → Ending = λ b. record {
      answer = given record { count = length out; finished = false };
      walk = record { genus = w.genus; word = c.in-Err.full.next; window = w.window; finished = b };
      list = out;
    } in
    ap still c.if-walk.false ∙ ending (goal.at.returns-in-Err c).In_ok-count c.in-Err.is
