-- The elementary count for all arguments. Assumes nothing: these are definitions.
use Rattle.std.specs.Prelude.{ℕ, leb}
use Rattle.answers.specs.Answers.{Answer, refused, given, ask}
use Rattle.elementary.specs.Elementary.{elementary_count}

-- question 3, then how many semigroups of genus g are elementary with the largest gap F
unfoldable pub elementary_of : ℕ → ℕ → Answer ℕ
elementary_of F g = ask (leb g 32) (refused 3) (given (elementary_count F g))
