-- What the count call answers, for all arguments. Assumes nothing: these are definitions.
use Rattle.std.specs.Prelude.{ℕ, leb}
use Rattle.semigroups.specs.GenusList.{descendant_count}
use Rattle.answers.specs.Answers.{Answer, refused, given, ask}
use Rattle.words.specs.Looks.{ask_word}

-- the number of semigroups of genus g whose smallest gaps are exactly the gaps of w
unfoldable pub count_of : ℕ → ℕ → Answer ℕ
count_of w g = ask_word refused w (ask (leb g 32) (refused 3) (given (descendant_count g w)))
