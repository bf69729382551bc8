-- What the calls answer, by the numbers of the papers: a refusal by the number of its question, or the values that are asked for; and
-- numbers that go into a lent list. Assumes nothing: these are definitions.
use Rattle.std.specs.Prelude.{ℕ, Bool, true, false, cond, List, leb, length, Option, None, Some, Result, Ok, Err}
use Rattle.std.proofs.Math.Option as maybe
use Rattle.semigroups.specs.Lists.{fronted}
use Rattle.answers.specs.declared.Refusal.{Refusal}
use Rattle.answers.specs.declared.Refusal.TheVariants.{TooManyGaps, NotClosed, GenusTooLarge, WalkOutOfOrder, NotAGenerator, ListTooShort, ZeroGenerator, CommonDivisor, TooManyGapsGenerated, MalformedInput, ZeroCoordinate, CoordinateSumTooLarge, FailedInequality, EditorOutOfOrder, EditorFull, ByteNotHeld, WrongJobVersion, WrongJobLength, WrongJobFields}

-- an answer: refused with the number of the question that is answered no, or given a value
pub data Answer (A : Type 0) : Type 0 where
  refused : ℕ → Answer A
  given : A → Answer A

-- is a value given
abbrev pub is_given : {A : Type 0} → Answer A → Bool
is_given (refused n) = false
is_given (given v) = true

-- the number of the question that is answered no
abbrev pub number_of : Refusal → ℕ
number_of TooManyGaps = 1
number_of NotClosed = 2
number_of GenusTooLarge = 3
number_of WalkOutOfOrder = 4
number_of NotAGenerator = 5
number_of ListTooShort = 6
number_of ZeroGenerator = 7
number_of CommonDivisor = 8
number_of TooManyGapsGenerated = 9
number_of MalformedInput = 10
number_of ZeroCoordinate = 11
number_of CoordinateSumTooLarge = 12
number_of FailedInequality = 13
number_of EditorOutOfOrder = 14
number_of EditorFull = 15
number_of ByteNotHeld = 16
number_of WrongJobVersion = 17
number_of WrongJobLength = 18
number_of WrongJobFields = 19

-- what a `Result` says: refused with the number of its refusal, or its value given
abbrev pub answered : {A : Type 0} → Result A Refusal → Answer A
answered (Err r) = refused (number_of r)
answered (Ok v) = given v

-- what is looked for: the number of an `Option`, or none
abbrev pub sought : Option ℕ → maybe.Option ℕ
sought (Some n) = maybe.some n
sought None = maybe.none

-- what the `Result` of a call says that looks for a number
abbrev pub sought_answered : Result (Option ℕ) Refusal → Answer (maybe.Option ℕ)
sought_answered (Err r) = refused (number_of r)
sought_answered (Ok o) = given (sought o)

-- a question before work: what follows where it is answered no, and what where it is answered yes
abbrev pub ask : {A : Type 0} → Bool → A → A → A
ask question no_answer answer = cond question answer no_answer

-- ---- numbers into a lent list

-- what a call that writes into a lent list leaves: its answer, and the list afterwards
pub record ListAnswer : Type 0 where
  pub answer : Answer ℕ
  pub list : List ℕ

-- what the `Result` of a call that gives a number, and the list afterwards, say
abbrev pub listed : Result ℕ Refusal → List ℕ → ListAnswer
listed r after = record { answer = answered r; list = after }

-- refused with the number of the question, with nothing written
abbrev pub unchanged : List ℕ → ℕ → ListAnswer
unchanged lent n = record { answer = refused n; list = lent }

-- a number given, with this list afterwards
abbrev pub giving : ℕ → List ℕ → ListAnswer
giving n after = record { answer = given n; list = after }

-- how many numbers l has, with all of them written
abbrev pub filled : List ℕ → List ℕ → ListAnswer
filled l lent = giving (length l) (fronted l lent)

-- the numbers l into the lent list: question 6, does the list hold all of them
abbrev pub into_lent : List ℕ → List ℕ → ListAnswer
into_lent l lent = ask (leb (length l) (length lent)) (unchanged lent 6) (filled l lent)
