-- The questions that each call on a word puts first, a look at a word, and numbers of a word that go into a lent list. Assumes nothing: these
-- are definitions.
use Rattle.std.specs.Prelude.{ℕ, ◌≤◌, ◌≡◌, true, List, leb}
use Rattle.semigroups.specs.Sets.{Set, HasGenus, MultiplicityOf, SignedLargestGapOf, ReportedConductorOf}
use Rattle.semigroups.specs.Words.{genus, reported_conductor, signed_largest_gap, closed}
use Rattle.semigroups.specs.Elements.{multiplicity}
use Rattle.answers.specs.Answers.{Answer, refused, given, ask, ListAnswer, unchanged, into_lent}
use Rattle.words.specs.declared.Report.{Report}

-- questions 1 and 2: has the word at most 32 gaps, and is its set closed under addition
unfoldable pub ask_word : {A : Type 0} → (ℕ → A) → ℕ → A → A
ask_word refuse w answer = ask (leb (genus w) 32) (refuse 1) (ask (closed w) (refuse 2) answer)

-- the word is accepted: its set is closed under addition, and it has at most 32 gaps
pub record Accepted (w : ℕ) : Type 0 where
  pub closed : closed w ≡ true
  pub few : genus w ≤ 32

-- ---- a look at a word

-- what is told of a word: its genus, its multiplicity, its reported conductor and its largest gap as a signed number
unfoldable pub report_of : ℕ → Report
report_of w = record { genus = genus w; multiplicity = multiplicity w; conductor = reported_conductor w; largest_gap = signed_largest_gap w }

-- r tells the genus, the multiplicity, the reported conductor and the largest gap of the set S
pub record Tells (r : Report) (S : Set) : Type 0 where
  pub genus : HasGenus S r.genus
  pub multiplicity : MultiplicityOf S r.multiplicity
  pub conductor : ReportedConductorOf S r.conductor
  pub largest_gap_is : SignedLargestGapOf S r.largest_gap

-- a look: questions 1 and 2
unfoldable pub look_of : ℕ → Answer Report
look_of w = ask_word refused w (given (report_of w))

-- ---- numbers of a word into a lent list

-- the numbers l of the word w: questions 1 and 2, then 6
unfoldable pub listed_into : ℕ → List ℕ → List ℕ → ListAnswer
listed_into w l lent = ask_word (unchanged lent) w (into_lent l lent)
