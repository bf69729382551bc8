-- Answers as the structs that C callers get: of a call that can be refused the number of the refusal first, 0 for an answer, then the values,
-- 0 where refused. Assumes nothing: these are definitions.
use Rattle.std.specs.Prelude.{◌≡◌, Result, MatchResult, ℕ, Bool, true, false, cond, ◌||◌, List, [], ◌∷◌, eqb, leb, pos}
use Rattle.std.proofs.Math.Option.{Option, none, some}
use Rattle.answers.specs.Answers.{Answer, refused, given, ask, ListAnswer, unchanged}
use Rattle.answers.specs.declared.Refusal.{Refusal}
use Rattle.answers.specs.declared.Refusal.TheVariants.{WalkOutOfOrder}
use Rattle.words.specs.declared.Report.{Report}
use Rattle.tables.specs.declared.Table.{Table}
use Rattle.walk.specs.declared.Walk.{Walk}
use Rattle.walk.specs.declared.Written.{Written}
use Rattle.walk.specs.Walks.{Ending, batch_of}
use Rattle.jobs.specs.declared.Saved.{Saved}
use Rattle.jobs.specs.Jobs.{write_of}
use Rattle.changes.specs.Changes.{Change}
use Rattle.changes.specs.States.{State, Outcome, change_of}
use Rattle.interface.specs.declared.AtlasNumber.{AtlasNumber}
use Rattle.interface.specs.declared.AtlasTable.{AtlasTable}
use Rattle.interface.specs.declared.AtlasFound.{AtlasFound}
use Rattle.interface.specs.declared.AtlasShortest.{AtlasShortest}
use Rattle.interface.specs.declared.AtlasReport.{AtlasReport}
use Rattle.interface.specs.declared.AtlasWalk.{AtlasWalk}
use Rattle.interface.specs.declared.AtlasBegun.{AtlasBegun}
use Rattle.interface.specs.declared.AtlasMoved.{AtlasMoved}
use Rattle.interface.specs.declared.AtlasSaved.{AtlasSaved}
use Rattle.interface.specs.declared.AtlasEditor.{AtlasEditor}
use Rattle.interface.specs.declared.AtlasChanged.{AtlasChanged}

-- a number
abbrev pub number_in : Answer ℕ → AtlasNumber
number_in (refused n) = record { refused = n; value = 0 }
number_in (given v) = record { refused = 0; value = v }

-- a seed table with the number of 1s in its row 0
abbrev pub table_in : Answer Table → AtlasTable
table_in (refused n) = record { refused = n; table = 0; generators = 0 }
table_in (given t) = record { refused = 0; table = t.table; generators = t.generators }

-- a word that was looked for: whether there is one, and which
abbrev pub found_in : Answer (Option ℕ) → AtlasFound
found_in (refused n) = record { refused = n; found = false; word = 0 }
found_in (given none) = record { refused = 0; found = false; word = 0 }
found_in (given (some w)) = record { refused = 0; found = true; word = w }

-- the shortest impossible opening: whether there is one, and how many gaps it has
abbrev pub shortest_in : Option ℕ → AtlasShortest
shortest_in none = record { found = false; length = 0 }
shortest_in (some n) = record { found = true; length = n }

-- what is told of a word
abbrev pub report_in : Answer Report → AtlasReport
report_in (refused n) = record { refused = n; genus = 0; multiplicity = 0; conductor = 0; largest_gap = pos 0 }
report_in (given r) = record {
  refused = 0;
  genus = r.genus;
  multiplicity = r.multiplicity;
  conductor = r.conductor;
  largest_gap = r.largest_gap;
}

-- a finished mark as a byte
abbrev pub mark_in : Bool → ℕ
mark_in true = 1
mark_in false = 0

-- a walk as C callers get it
abbrev pub walk_in : Walk → AtlasWalk
walk_in w = record { genus = w.genus; word = w.word; lowest = w.window.lowest; highest = w.window.highest; finished = mark_in w.finished }

-- and as they hand it over, with any finished mark: 1 says that it is finished, and any other that it is not
abbrev pub walk_from : AtlasWalk → Walk
walk_from w = record { genus = w.genus; word = w.word; window = record { lowest = w.lowest; highest = w.highest }; finished = eqb w.finished 1 }

-- a walk as they hand it over: a finished mark that is neither 0 nor 1 is a walk out of order
abbrev pub HandedWalk : AtlasWalk → Result Walk Refusal → Type 0
HandedWalk w r = MatchResult r (λ k. (leb w.finished 1 ≡ true) × (k ≡ walk_from w)) (λ e. (leb w.finished 1 ≡ false) × (e ≡ WalkOutOfOrder))

-- what they get where there is no walk
abbrev pub no_walk : AtlasWalk
no_walk = record { genus = 0; word = 0; lowest = 0; highest = 0; finished = 0 }

-- a walk that a call began
abbrev pub begun_in : Answer Walk → AtlasBegun
begun_in (refused n) = record { refused = n; walk = no_walk }
begun_in (given w) = record { refused = 0; walk = walk_in w }

-- how a batch ended: refused, with the walk as it was given
abbrev pub unmoved_in : ℕ → AtlasWalk → AtlasMoved
unmoved_in number w = record { refused = number; walk = w; count = 0; finished = false }

-- and with the walk afterwards
abbrev pub moved_in : Walk → Answer Written → AtlasMoved
moved_in w (refused n) = unmoved_in n (walk_in w)
moved_in w (given r) = record { refused = 0; walk = walk_in w; count = r.count; finished = r.finished }

-- the ending of a batch for a C caller: its answer and the lent list
pub record AtlasEnding : Type 0 where
  pub answer : AtlasMoved
  pub list : List ℕ

-- a batch: question 3; then question 4, where a finished mark that is neither 0 nor 1 is a walk out of order
unfoldable pub batch_in : AtlasWalk → List ℕ → AtlasEnding
batch_in w lent =
    ask (leb w.genus 32) record { answer = unmoved_in 3 w; list = lent }
    (ask (leb w.finished 1) record { answer = unmoved_in 4 w; list = lent }
    (let ending : Ending = batch_of (walk_from w) lent in record { answer = moved_in ending.walk ending.answer; list = ending.list }))

-- ---- saved jobs

-- what a job keeps, as they get it
abbrev pub saved_in : Answer Saved → AtlasSaved
saved_in (refused n) = record { refused = n; walk = no_walk; written = 0 }
saved_in (given s) = record { refused = 0; walk = walk_in s.walk; written = s.written }

-- writing a job: question 3; then question 4, where a finished mark that is neither 0 nor 1 is a walk out of order; then 6
unfoldable pub written_in : AtlasWalk → ℕ → List ℕ → ListAnswer
written_in w n lent = ask (leb w.genus 32) (unchanged lent 3) (ask (leb w.finished 1) (unchanged lent 4) (write_of (walk_from w) n lent))

-- ---- a list of generators that changes

-- a state as C callers get it
abbrev pub editor_in : State → AtlasEditor
editor_in s = record { bytes = s.bytes; length = s.length; answer = number_in s.answer }

-- is it an answer that C callers get: with no value beside a refusal
unfoldable pub is_answer : AtlasNumber → Bool
is_answer n = eqb n.refused 0 || eqb n.value 0

-- an answer as they hand it over
unfoldable pub answer_from : AtlasNumber → Answer ℕ
answer_from n = cond (eqb n.refused 0) (given n.value) (refused n.refused)

-- and a state
abbrev pub editor_from : AtlasEditor → State
editor_from e = record { bytes = e.bytes; length = e.length; answer = answer_from e.answer }

-- a change that is refused, with the state as it was given
abbrev pub unchanged_in : ℕ → AtlasEditor → AtlasChanged
unchanged_in number e = record { refused = number; editor = e }

-- and one by its answer, with the state afterwards
abbrev pub changed_by : AtlasEditor → State → Answer (Unit {0}) → AtlasChanged
changed_by e after (refused n) = unchanged_in n e
changed_by e after (given v) = record { refused = 0; editor = editor_in after }

-- by its outcome
abbrev pub changed_in : AtlasEditor → Outcome → AtlasChanged
changed_in e o = changed_by e o.state o.answer

-- a change: question 14, where an answer with a value beside a refusal is one that no bytes give; then the questions of the change
unfoldable pub change_in : Change → AtlasEditor → AtlasChanged
change_in c e = ask (is_answer e.answer) (unchanged_in 14 e) (changed_in e (change_of c (editor_from e)))

-- what a C caller holds after a history of changes of what was held before
unfoldable pub editor_after : AtlasEditor → List Change → AtlasEditor
editor_after e [] = e
editor_after e (c ∷ h) = editor_after (change_in c e).editor h
