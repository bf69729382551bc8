-- `jobs::read_fields` meets its contract: question 19, and then the walk with the finished mark, on the next word, or fresh. Assumes nothing.
use Prim.Native.Nat.{ℕ}
use mathlib.Core.Path.{◌≡◌, refl, ap, ◌∙◌}
use mathlib.Core.Bool.{Bool}
use Rattle.std.specs.Prelude.{Option, Some}
use Rattle.semigroups.specs.Lists.{none}
use Rattle.answers.specs.Answers.{refused, number_of}
use Rattle.answers.specs.declared.Refusal.{Refusal}
use Rattle.answers.specs.declared.Refusal.TheVariants.{WrongJobFields}
use Rattle.answers.proofs.Answers.{handed_on}
use Rattle.walk.specs.Walks.{standing}
use Rattle.job_format.specs.declared.Fields.{Fields}
use Rattle.jobs.specs.Private.{say, fields_say}
use Rattle.jobs.proofs.Jobs.{with_written, fresh_saved, fields_say_parts}
use Rattle.jobs.proofs.read_fields.Goals as goal
use Rattle.jobs.proofs.read_fields.Goals.{After-unwrap_or-written}

-- what the fields say, by their genus, the bounds of the window and the number written
said : (c : After-unwrap_or-written) {word : Option ℕ} {finished : Bool} → let f : Fields = c.args.fields in f.word ≡ word → f.finished ≡ finished
    → say (Some c.in_ok-genus.field-0) word finished c.unwrap_or.result c.unwrap_or-2.result c.unwrap_or-written.result ≡ fields_say f
said c word finished = fields_say_parts _ c.in_ok-genus.ensures.ok_part word finished c.unwrap_or.ensures c.unwrap_or-2.ensures c.unwrap_or-written.ensures

-- without a genus
pub returns-in_err-genus : goal.returns-in_err-genus
returns-in_err-genus c =
    let none = c.in_err-genus.ensures.ok_part in
    let same : c.in_err-genus.field-0.0 ≡ WrongJobFields = cc (rw none at c.in_err-genus.ensures.value) in
    handed_on _ _ c.from_residual.ensures.1 (ap (λ (r : Refusal). refused (number_of r)) same ∙ fields_say_parts _ none refl refl refl refl refl)

-- a next word and the finished mark
pub returns-in-Some-true : goal.returns-in-Some-true
returns-in-Some-true c = said (goal.at.returns-in-Some-true c).After-unwrap_or-written c.in-Some-true.is-0 c.in-Some-true.is-1

pub returns-in-Some-false : goal.returns-in-Some-false
returns-in-Some-false c = c.answer_for.ensures ∙ said (goal.at.returns-in-Some-false c).After-unwrap_or-written c.in-Some-false.is-0 c.in-Some-false.is-1

pub returns-in-None-true : goal.returns-in-None-true
unfolding standing none
returns-in-None-true c =
    c.answer_for-in-None-true.ensures ∙ said (goal.at.returns-in-None-true c).After-unwrap_or-written c.in-None-true.is-0 c.in-None-true.is-1

pub returns-in_err-fresh_in-in-None-false : goal.returns-in_err-fresh_in-in-None-false
returns-in_err-fresh_in-in-None-false c =
    handed_on _ _ c.from_residual-in_err-fresh_in-in-None-false.ensures.1
    (ap (with_written c.unwrap_or-written.result) c.in_err-fresh_in-in-None-false.ensures ∙ fresh_saved _ _ _ _
    ∙ said (goal.at.returns-in_err-fresh_in-in-None-false c).After-unwrap_or-written c.in-None-false.is-0 c.in-None-false.is-1)

pub returns-in_ok-fresh_in-in-None-false : goal.returns-in_ok-fresh_in-in-None-false
returns-in_ok-fresh_in-in-None-false c =
    ap (with_written c.unwrap_or-written.result) c.in_ok-fresh_in-in-None-false.ensures ∙ fresh_saved _ _ _ _
    ∙ said (goal.at.returns-in_ok-fresh_in-in-None-false c).After-unwrap_or-written c.in-None-false.is-0 c.in-None-false.is-1
