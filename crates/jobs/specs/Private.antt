-- What fields that were read say. Assumes nothing: these are definitions.
use Rattle.std.specs.Prelude.{ℕ, Bool, true, false, [], Option, Some, None, unwrap_or}
use Rattle.answers.specs.Answers.{Answer, refused}
use Rattle.windows.specs.Windows.{window_list}
use Rattle.walk.specs.Walks.{standing}
use Rattle.job_format.specs.declared.Fields.{Fields}
use Rattle.jobs.specs.declared.Saved.{Saved}
use Rattle.jobs.specs.Jobs.{saved_of}

-- by the genus, the next word, the finished mark, the window from lo to hi and the number written: question 19, is there a genus, and not both a next
-- word and the finished mark; then questions 3 and 4 about the walk
abbrev pub say : Option ℕ → Option ℕ → Bool → ℕ → ℕ → ℕ → Answer Saved
say None word finished lo hi n = refused 19
say (Some g) (Some x) true lo hi n = refused 19
say (Some g) (Some x) false lo hi n = saved_of record { genus = g; word = x; window = record { lowest = lo; highest = hi }; finished = false } n
say (Some g) None true lo hi n = saved_of (standing g lo hi []) n
say (Some g) None false lo hi n = saved_of (standing g lo hi (window_list g lo hi)) n

-- by the fields: an absent lowest multiplicity is 1, an absent highest one 33, and an absent number 0
unfoldable pub fields_say : Fields → Answer Saved
fields_say f = say f.genus f.word f.finished (unwrap_or f.lowest 1) (unwrap_or f.highest 33) (unwrap_or f.written 0)
