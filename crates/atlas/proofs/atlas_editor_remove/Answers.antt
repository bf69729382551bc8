-- `atlas::atlas_editor_remove` meets its contract: a state with an answer that bytes may have is changed by the call. Assumes nothing.
use mathlib.Core.Path.{sym, ap, ◌∙◌}
use Rattle.answers.specs.Answers.{number_of}
use Rattle.answers.specs.declared.Refusal.{Refusal}
use Rattle.changes.specs.Changes.{removal}
use Rattle.changes.specs.States.{change_of}
use Rattle.interface.specs.Interface.{unchanged_in, changed_in}
use Rattle.atlas.proofs.HandedOver.{change_kept, change_not_kept}
use Rattle.atlas.proofs.atlas_editor_remove.Goals as goal

pub returns-in-Err : goal.returns-in-Err
returns-in-Err c =
    let (other, same) = c.in-Err.ensures in
    c.unchanged.ensures ∙ ap (λ (r : Refusal). unchanged_in (number_of r) c.args.editor) same ∙ sym (change_not_kept _ c.args.editor other)

pub returns-in-Ok : goal.returns-in-Ok
returns-in-Ok c =
    let (kept, same) = c.in-Ok.ensures in
    let change = removal c.args.byte in
    c.made.ensures ∙ ap (changed_in c.args.editor) (c.remove-answer.ensures ∙ ap (change_of change) same) ∙ sym (change_kept change c.args.editor kept)
