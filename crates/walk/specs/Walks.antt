-- What each call of the walk answers, where the walk stands after it and what the lent list then holds, for all arguments. They come
-- from the window list, which has the word of every numerical semigroup of a genus with a multiplicity between two bounds once, in list
-- order, and nothing else: `windows`, `Windows`. Assumes nothing: these are definitions.
use Rattle.std.specs.Prelude.{ℕ, min, Bool, false, cond, ◌&&◌, List, [], ◌++◌, leb, eqb, length, take, drop, get_or, Result, Ok, Err}
use Rattle.semigroups.specs.Lists.{none, on_from}
use Rattle.semigroups.specs.Words.{genus, closed}
use Rattle.semigroups.specs.Elements.{multiplicity}
use Rattle.answers.specs.Answers.{Answer, refused, given, number_of, answered, ask}
use Rattle.words.specs.Looks.{ask_word}
use Rattle.windows.specs.Windows.{within, window_list}
use Rattle.answers.specs.declared.Refusal.{Refusal}
use Rattle.walk.specs.declared.Walk.{Walk}
use Rattle.walk.specs.declared.Moved.{Moved}
use Rattle.walk.specs.declared.Written.{Written}

-- ---- where a walk stands

-- what the walk has still to give: nothing when finished, else its window from its word on
unfoldable pub rest : Walk → List ℕ
rest w = cond w.finished [] (on_from w.word (window_list w.genus w.window.lowest w.window.highest))

-- the walk of genus g in the window from lo to hi that has l still to give: on the first of l, or finished with word 0
unfoldable pub standing : ℕ → ℕ → ℕ → List ℕ → Walk
standing g lo hi l = record { genus = g; word = get_or l 0 0; window = record { lowest = lo; highest = hi }; finished = none l }

-- question 4: finished with word 0, or unfinished on an accepted word of its genus in its window
unfoldable pub in_order : Walk → Bool
in_order w =
    cond w.finished (eqb w.word 0)
    (leb (genus w.word) 32 && closed w.word && eqb (genus w.word) w.genus && within w.window.lowest w.window.highest (multiplicity w.word))

-- questions 3 and 4: is the genus at most 32, and is the walk in order
abbrev pub ask_walk : {A : Type 0} → (ℕ → A) → Walk → A → A
ask_walk refuse w answer = ask (leb w.genus 32) (refuse 3) (ask (in_order w) (refuse 4) answer)

-- ---- the fresh and the start calls

-- a fresh walk of genus g in a window stands on the first semigroup of the window; where there is none, it is already finished
unfoldable pub fresh_in_of : ℕ → ℕ → ℕ → Answer Walk
fresh_in_of g lo hi = ask (leb g 32) (refused 3) (given (standing g lo hi (window_list g lo hi)))

-- the fresh call without a window sets 1 and 33
unfoldable pub fresh_of : ℕ → Answer Walk
fresh_of g = fresh_in_of g 1 33

-- the walk of the genus of w in the window from lo to hi that stands on w
abbrev pub started_at : ℕ → ℕ → ℕ → Walk
started_at w lo hi = record { genus = genus w; word = w; window = record { lowest = lo; highest = hi }; finished = false }

-- a walk that starts at the word w, which has to lie in the window
unfoldable pub start_in_of : ℕ → ℕ → ℕ → Answer Walk
start_in_of w lo hi = ask_word refused w (ask (within lo hi (multiplicity w)) (refused 4) (given (started_at w lo hi)))

-- the start call without a window sets 1 and 33
unfoldable pub start_of : ℕ → Answer Walk
start_of w = start_in_of w 1 33

-- ---- the batch

-- how a batch ends: its answer, the walk and the lent list
pub record Ending : Type 0 where
  pub answer : Answer Written
  pub walk : Walk
  pub list : List ℕ

-- the ending of a batch that returned r and left this walk and this list
abbrev pub ended : Result Written Refusal → Walk → List ℕ → Ending
ended r w l = record { answer = answered r; walk = w; list = l }

-- the ending of a batch by value of the walk w that returned r and left this list: where it is refused, the walk is w
abbrev pub stepped : Walk → Result Moved Refusal → List ℕ → Ending
stepped w (Err r) l = record { answer = refused (number_of r); walk = w; list = l }
stepped w (Ok m) l = record { answer = given m.written; walk = m.walk; list = l }

-- refused: the walk and the list are as they were
abbrev pub unmoved : ℕ → Walk → List ℕ → Ending
unmoved number w lent = record { answer = refused number; walk = w; list = lent }

-- of r, which the walk w has still to give, as many words as there are places are written to the front of the list
abbrev pub moved : Walk → List ℕ → List ℕ → Ending
moved w r lent =
    let n : ℕ = min (length lent) (length r) in
    record {
      answer = given record { count = n; finished = none (drop n r) };
      walk = standing w.genus w.window.lowest w.window.highest (drop n r);
      list = take n r ++ drop n lent;
    }

unfoldable pub batch_of : Walk → List ℕ → Ending
batch_of w lent = ask_walk (λ n. unmoved n w lent) w (moved w (rest w) lent)
