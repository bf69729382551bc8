-- What is asked of a state of a list of generators that C callers hand over. Assumes nothing: these are definitions.
use Rattle.std.specs.Prelude.{◌≡◌, Bool, true, false, cond, ◌&&◌, ◌||◌, eqb, Result, MatchResult}
use Rattle.answers.specs.declared.Refusal.{Refusal}
use Rattle.answers.specs.declared.Refusal.TheVariants.{EditorOutOfOrder}
use Rattle.editor.specs.Answers.{said}
use Rattle.editor.specs.declared.Editor.{Editor}
use Rattle.interface.specs.Interface.{editor_from}
use Rattle.interface.specs.declared.AtlasEditor.{AtlasEditor}
use Rattle.interface.specs.declared.AtlasNumber.{AtlasNumber}

-- is it an answer that bytes without 0 are given: a word, or refused 8 or 9 with no value beside it
unfoldable pub is_kept : AtlasNumber → Bool
is_kept n = cond (eqb n.refused 0) true (eqb n.value 0 && (eqb n.refused 8 || eqb n.refused 9))

-- a state as they hand it over, or refused 14 with any other answer
abbrev pub HandedEditor : AtlasEditor → Result Editor Refusal → Type 0
HandedEditor e r = MatchResult r (λ f. (is_kept e.answer ≡ true) × (said f ≡ editor_from e)) (λ d. (is_kept e.answer ≡ false) × (d ≡ EditorOutOfOrder))
