-- What the call for the first descendant of a word answers, and the call that writes the words of a window from a word on, for all arguments.
-- Assumes nothing: these are definitions.
use Rattle.std.specs.Prelude.{ℕ, leb, Result, Ok}
use mathlib.Core.List.{List, head?}
use Rattle.std.proofs.Math.Option.{Option}
use Rattle.semigroups.specs.Lists.{on_from}
use Rattle.semigroups.specs.GenusList.{descendants}
use Rattle.answers.specs.Answers.{Answer, refused, given, ask}
use Rattle.words.specs.Looks.{ask_word}
use Rattle.windows.specs.Windows.{holds, window_list}
use Rattle.lending.specs.Lending.{Lent, put_all}
use Rattle.lending.specs.declared.NoRoom.{NoRoom}

-- the first in list order of the semigroups of genus g whose smallest gaps are exactly the gaps of w, or none
unfoldable pub first_descendant_of : ℕ → ℕ → Answer (Option ℕ)
first_descendant_of w g = ask_word refused w (ask (leb g 32) (refused 3) (given (head? (descendants g w))))

-- what is told of a lent list, and the list
abbrev pub filled_given : Lent → Answer (Result ℕ NoRoom) × List ℕ
filled_given t = (given t.1, t.0)

-- the words of a window from w on, put into the lent list as far as it has room: question 4, does the window hold w
unfoldable pub write_from_of : ℕ → ℕ → ℕ → ℕ → List ℕ → Answer (Result ℕ NoRoom) × List ℕ
write_from_of g lo hi w lent = ask (holds g lo hi w) (refused 4, lent) (filled_given (put_all (on_from w (window_list g lo hi)) (lent, Ok 0)))
