-- What the call for the first word of a window answers. Assumes nothing: these are definitions.
use Rattle.std.specs.Prelude.{ℕ, leb}
use Rattle.std.proofs.Math.Option.{Option}
use mathlib.Core.List.{head?}
use Rattle.answers.specs.Answers.{Answer, refused, given, ask}
use Rattle.windows.specs.Windows.{window_list}

-- the first word of a window of genus g, or that the window holds none: question 3
unfoldable pub first_word_of : ℕ → ℕ → ℕ → Answer (Option ℕ)
first_word_of g lo hi = ask (leb g 32) (refused 3) (given (head? (window_list g lo hi)))
