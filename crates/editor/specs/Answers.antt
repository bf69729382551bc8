-- What an `Editor` and the answers of the editor's calls say. Assumes nothing: these are definitions.
use Rattle.std.specs.Prelude.{Result}
use Rattle.answers.specs.Answers.{answered}
use Rattle.answers.specs.declared.Refusal.{Refusal}
use Rattle.changes.specs.States.{State, Outcome}
use Rattle.editor.specs.declared.Editor.{Editor}

-- what an `Editor` says
abbrev pub said : Editor → State
said e = record { bytes = e.bytes; length = e.length; answer = answered e.answer }

-- what the `Editor` that a change leaves and its `Result` say
abbrev pub told : Editor → Result (Unit {0}) Refusal → Outcome
told e r = record { state = said e; answer = answered r }
