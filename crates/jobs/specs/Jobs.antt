-- What the calls of saved jobs answer, for every walk and every list of bytes. Assumes nothing: these are definitions.
use Rattle.std.specs.Prelude.{ℕ, Bool, true, false, cond, not, ◌&&◌, List, [], ◌∷◌, eqb, length, get_or}
use Rattle.semigroups.specs.Words.{bit, of_bits}
use Rattle.answers.specs.Answers.{Answer, refused, given, ask, ListAnswer, unchanged, into_lent}
use Rattle.windows.specs.Windows.{window_list}
use Rattle.walk.specs.declared.Walk.{Walk}
use Rattle.walk.specs.Walks.{standing, ask_walk}
use Rattle.job_format.specs.Format.{job_length, value_or, laid, map_in, field_in, has_version, version_in}
use Rattle.job_format.specs.Fields.{knows}
use Rattle.jobs.specs.declared.Saved.{Saved}

-- ---- what the fields mean

-- is there a genus, and not both a next word and the finished mark
unfoldable pub complete : ℕ → Bool
complete m = bit m 0 && not (bit m 3 && bit m 5)

-- where the walk of genus g in the window from lo to hi stands: finished with the finished mark, on the next word x where there is one, and
-- else where the fresh walk of the window stands
unfoldable pub placed_by : ℕ → ℕ → ℕ → ℕ → ℕ → Walk
placed_by m x g lo hi =
    cond (bit m 5) (standing g lo hi [])
    (cond (bit m 3) record { genus = g; word = x; window = record { lowest = lo; highest = hi }; finished = false }
    (standing g lo hi (window_list g lo hi)))

-- the walk that the fields say: an absent lowest multiplicity is 1, and an absent highest one 33
unfoldable pub walk_said : ℕ → (ℕ → ℕ) → Walk
walk_said m value = placed_by m (value 3) (value 0) (value_or 1 m value 1) (value_or 33 m value 2)

-- a walk and the number written, after questions 3 and 4 about the walk
unfoldable pub saved_of : Walk → ℕ → Answer Saved
saved_of w n = ask_walk refused w (given record { walk = w; written = n })

-- the walk and the number written that the fields say: an absent number is 0
unfoldable pub saved_by : ℕ → (ℕ → ℕ) → Answer Saved
saved_by m value = saved_of (walk_said m value) (value_or 0 m value 4)

-- what the fields say, after question 19
unfoldable pub said_by : ℕ → (ℕ → ℕ) → Answer Saved
said_by m value = ask (complete m) (refused 19) (saved_by m value)

-- ---- reading

-- what the reader of version r makes of a job, for every list of bytes. The questions in their order: 18, is there a bit map, and where it
-- says so a version; 17, is the version from 1 to r, and has it all bits; 18, are there just the bytes of the fields; then 19, 3 and 4
unfoldable pub read_of : ℕ → List ℕ → Answer Saved
read_of r job =
    ask (has_version job) (refused 18)
    (ask (knows r (version_in job) (map_in job)) (refused 17)
    (ask (eqb (length job) (job_length (map_in job))) (refused 18)
    (said_by (map_in job) (field_in job))))

-- ---- writing

-- the bit map, by rising bit: 0, 1, 2, 4 and 7 stand, 5 for a finished walk and 3 for any other
unfoldable pub map_for : Bool → ℕ
map_for finished = of_bits (true ∷ true ∷ true ∷ not finished ∷ true ∷ finished ∷ false ∷ true ∷ [])

-- the values of the fields, by rising bit: the version is 2
unfoldable pub field_for : Walk → ℕ → ℕ → ℕ
field_for w n i = get_or (w.genus ∷ w.window.lowest ∷ w.window.highest ∷ w.word ∷ n ∷ 0 ∷ 0 ∷ 2 ∷ []) i 0

-- the job of a walk and a number written
unfoldable pub job_of : Walk → ℕ → List ℕ
job_of w n = laid (map_for w.finished) (field_for w n)

-- writing a walk and a number written: questions 3 and 4 about the walk, then 6
unfoldable pub write_of : Walk → ℕ → List ℕ → ListAnswer
write_of w n lent = ask_walk (unchanged lent) w (into_lent (job_of w n) lent)
