-- That the number of a refusal tells the refusal, how an answer tells which questions were answered yes and no, and what a call that lists
-- numbers does. Assumes nothing.
use Prim.Native.Nat.{ℕ, ◌-◌, ◌≤◌, ◌<◌}
use mathlib.Core.Path.{◌≡◌, refl, sym, ◌∙◌, ap}
use mathlib.Core.Logic.{◌⊎◌, inl, inr}
use mathlib.Core.Bool.{Bool, true, false}
use mathlib.Core.List.{List, [], ◌∷◌}
use native.Mathlib.Omega.{arith}
use lib.Dec.{leb}
use lib.ListN.{length, get_or}
use borrow.Author.Tests.{le-leb, lt-leb}
use Rattle.semigroups.specs.Lists.{fronted}
use Rattle.answers.specs.Answers.{Answer, refused, given, is_given, number_of, answered, ask, ListAnswer, listed, unchanged, filled, into_lent}
use Rattle.std.specs.Prelude.{Result, Ok, Err, IsErrAnd}
use Rattle.answers.specs.declared.Refusal.{Refusal}
use Rattle.answers.specs.declared.Refusal.TheVariants.{TooManyGaps, NotClosed, GenusTooLarge, WalkOutOfOrder, NotAGenerator, ListTooShort, ZeroGenerator, CommonDivisor, TooManyGapsGenerated, MalformedInput, ZeroCoordinate, CoordinateSumTooLarge, FailedInequality, EditorOutOfOrder, EditorFull, ByteNotHeld, WrongJobVersion, WrongJobLength, WrongJobFields}

-- ---- numbers of refusals

-- the refusals by their number
refusals : List Refusal
refusals =
    TooManyGaps ∷ NotClosed ∷ GenusTooLarge ∷ WalkOutOfOrder ∷ NotAGenerator ∷ ListTooShort ∷ ZeroGenerator ∷ CommonDivisor
    ∷ TooManyGapsGenerated ∷ MalformedInput ∷ ZeroCoordinate ∷ CoordinateSumTooLarge ∷ FailedInequality
    ∷ EditorOutOfOrder ∷ EditorFull ∷ ByteNotHeld ∷ WrongJobVersion ∷ WrongJobLength ∷ WrongJobFields ∷ []

refusal_of : ℕ → Refusal
refusal_of n = get_or refusals (n - 1) MalformedInput

refusal_of_number : (r : Refusal) → refusal_of (number_of r) ≡ r
unfolding refusals refusal_of
refusal_of_number TooManyGaps = refl
refusal_of_number NotClosed = refl
refusal_of_number GenusTooLarge = refl
refusal_of_number WalkOutOfOrder = refl
refusal_of_number NotAGenerator = refl
refusal_of_number ListTooShort = refl
refusal_of_number ZeroGenerator = refl
refusal_of_number CommonDivisor = refl
refusal_of_number TooManyGapsGenerated = refl
refusal_of_number MalformedInput = refl
refusal_of_number ZeroCoordinate = refl
refusal_of_number CoordinateSumTooLarge = refl
refusal_of_number FailedInequality = refl
refusal_of_number EditorOutOfOrder = refl
refusal_of_number EditorFull = refl
refusal_of_number ByteNotHeld = refl
refusal_of_number WrongJobVersion = refl
refusal_of_number WrongJobLength = refl
refusal_of_number WrongJobFields = refl

-- no two refusals have the same number, so that an equation of answers leaves no case of an enum free
pub number_decides : (r s : Refusal) → number_of r ≡ number_of s → r ≡ s
number_decides r s e = sym (refusal_of_number r) ∙ ap refusal_of e ∙ refusal_of_number s

-- the numbers are from 1 to 19
pub number_range : (r : Refusal) → (1 ≤ number_of r) × (number_of r ≤ 19)
number_range TooManyGaps = omega arith
number_range NotClosed = omega arith
number_range GenusTooLarge = omega arith
number_range WalkOutOfOrder = omega arith
number_range NotAGenerator = omega arith
number_range ListTooShort = omega arith
number_range ZeroGenerator = omega arith
number_range CommonDivisor = omega arith
number_range TooManyGapsGenerated = omega arith
number_range MalformedInput = omega arith
number_range ZeroCoordinate = omega arith
number_range CoordinateSumTooLarge = omega arith
number_range FailedInequality = omega arith
number_range EditorOutOfOrder = omega arith
number_range EditorFull = omega arith
number_range ByteNotHeld = omega arith
number_range WrongJobVersion = omega arith
number_range WrongJobLength = omega arith
number_range WrongJobFields = omega arith

-- ---- a refusal that is handed on

-- what a `?` hands on is refused with the same number
pub handed_on : {A : Type 0} (r : Result A Refusal) (e : Refusal) {a : Answer A} → IsErrAnd r (λ d. d ≡ e) → refused (number_of e) ≡ a → answered r ≡ a
handed_on (Ok v) e h same = absurd h
handed_on (Err d) e h same = ap (λ (r : Refusal). refused (number_of r)) h ∙ same

-- so does a call into a lent list, which it leaves as it is
pub listed_on : (r : Result ℕ Refusal) (e : Refusal) (lent : List ℕ) {a : ListAnswer} → IsErrAnd r (λ d. d ≡ e) → unchanged lent (number_of e) ≡ a → listed r lent ≡ a
listed_on r e lent h same = ap (λ (x : Answer ℕ). record { answer = x; list = lent }) (handed_on r e h refl) ∙ same

-- ---- questions

-- a value is given after a question that is answered yes
pub ask_given : {A : Type 0} (n : ℕ) (q : Bool) (answer : Answer A) (v : A) → ask q (refused n) answer ≡ given v → (q ≡ true) × (answer ≡ given v)
ask_given n false answer v e = let z : ◌≡◌ {A = ℕ} 0 1 = cc in absurd (omega arith)
ask_given n true answer v e = (refl, e)

-- two questions before a value is given
module _ {A : Type 0} (a b : ℕ) (value : A) where
  -- the answer by the two tests
  abbrev by_two : Bool → Bool → Answer A
  by_two p q = ask p (refused a) (ask q (refused b) (given value))

  -- where it is refused, every other answer by these tests is refused so
  pub two_refused : {B : Type 0} (refuse : ℕ → B) (answer : B) (n : ℕ) (p q : Bool) → by_two p q ≡ refused n
      → ask p (refuse a) (ask q (refuse b) answer) ≡ refuse n
  two_refused refuse answer n false q e = let same : a ≡ n = cc in ap refuse same
  two_refused refuse answer n true false e = let same : b ≡ n = cc in ap refuse same
  two_refused refuse answer n true true e = let z : ◌≡◌ {A = ℕ} 0 1 = cc in absurd (omega arith)

  -- where it is given, both are answered yes
  pub two_given : (v : A) (p q : Bool) → by_two p q ≡ given v → (p ≡ true) × (q ≡ true) × (value ≡ v)
  two_given v p q e =
      let (first, rest) = ask_given a p (ask q (refused b) (given value)) v e in
      let (second, end) = ask_given b q (given value) v rest in
      let same : value ≡ v = cc in
      (first, second, same)

-- which of three questions, with rising numbers, are answered yes and no for which answer
module _ {A : Type 0} (a b c : ℕ) (low : a < b) (high : b < c) (value : A) where
  -- the answer by the three tests
  abbrev by_three : Bool → Bool → Bool → Answer A
  by_three p q r = ask p (refused a) (ask q (refused b) (ask r (refused c) (given value)))

  -- the first answered no
  pub first_no : (p q r : Bool) → by_three p q r ≡ refused a → p ≡ false
  first_no false q r e = refl
  first_no true false r e = let same : b ≡ a = cc in absurd (omega arith)
  first_no true true false e = let same : c ≡ a = cc in absurd (omega arith)
  first_no true true true e = let z : ◌≡◌ {A = ℕ} 0 1 = cc in absurd (omega arith)

  -- the second
  pub second_no : (p q r : Bool) → by_three p q r ≡ refused b → (p ≡ true) × (q ≡ false)
  second_no false q r e = let same : a ≡ b = cc in absurd (omega arith)
  second_no true false r e = (refl, refl)
  second_no true true false e = let same : c ≡ b = cc in absurd (omega arith)
  second_no true true true e = let z : ◌≡◌ {A = ℕ} 0 1 = cc in absurd (omega arith)

  -- the third
  pub third_no : (p q r : Bool) → by_three p q r ≡ refused c → (p ≡ true) × (q ≡ true) × (r ≡ false)
  third_no false q r e = let same : a ≡ c = cc in absurd (omega arith)
  third_no true false r e = let same : b ≡ c = cc in absurd (omega arith)
  third_no true true false e = (refl, refl, refl)
  third_no true true true e = let z : ◌≡◌ {A = ℕ} 0 1 = cc in absurd (omega arith)

  -- a refusal has the number of one of the three
  pub one_no : (n : ℕ) (p q r : Bool) → by_three p q r ≡ refused n → (n ≡ a) ⊎ ((n ≡ b) ⊎ (n ≡ c))
  one_no n false q r e = inl cc
  one_no n true false r e = inr (inl cc)
  one_no n true true false e = inr (inr cc)
  one_no n true true true e = let z : ◌≡◌ {A = ℕ} 0 1 = cc in absurd (omega arith)

  -- all answered yes
  pub all_yes : (v : A) (p q r : Bool) → by_three p q r ≡ given v → (p ≡ true) × (q ≡ true) × (r ≡ true) × (value ≡ v)
  all_yes v false q r e = let z : ◌≡◌ {A = ℕ} 0 1 = cc in absurd (omega arith)
  all_yes v true false r e = let z : ◌≡◌ {A = ℕ} 0 1 = cc in absurd (omega arith)
  all_yes v true true false e = let z : ◌≡◌ {A = ℕ} 0 1 = cc in absurd (omega arith)
  all_yes v true true true e = (refl, refl, refl, cc)

-- after the last question a value is given just where it is answered yes
pub last_yes : {A : Type 0} (n : ℕ) (value : A) (q : Bool) → is_given (ask q (refused n) (given value)) ≡ q
last_yes n value true = refl
last_yes n value false = refl

-- ---- numbers into a lent list

-- what is left after three questions, with these numbers, and l in the lent list
module _ (a b c : ℕ) (l lent : List ℕ) where
  -- the ending by the three tests
  abbrev by_tests : Bool → Bool → Bool → ListAnswer
  by_tests p q r = ask p (unchanged lent a) (ask q (unchanged lent b) (ask r (unchanged lent c) (filled l lent)))

  -- a number is told where all are answered yes: how many l has, with all of it in front
  pub tests_given : (n : ℕ) (p q r : Bool) → (by_tests p q r).answer ≡ given n
      → (p ≡ true) × (q ≡ true) × (n ≡ length l) × ((by_tests p q r).list ≡ fronted l lent)
  tests_given n true true true e = let count : n ≡ length l = cc in (refl, refl, count, refl)
  tests_given n true true false e = let z : ◌≡◌ {A = ℕ} 0 1 = cc in absurd (omega arith)
  tests_given n true false r e = let z : ◌≡◌ {A = ℕ} 0 1 = cc in absurd (omega arith)
  tests_given n false q r e = let z : ◌≡◌ {A = ℕ} 0 1 = cc in absurd (omega arith)

  -- a refusal has the number of one of the three, and writes nothing
  pub tests_refused : (n : ℕ) (p q r : Bool) → (by_tests p q r).answer ≡ refused n → ((by_tests p q r).list ≡ lent) × ((n ≡ a) ⊎ ((n ≡ b) ⊎ (n ≡ c)))
  tests_refused n true true true e = let z : ◌≡◌ {A = ℕ} 0 1 = cc in absurd (omega arith)
  tests_refused n true true false e = (refl, inr (inr cc))
  tests_refused n true false r e = (refl, inr (inl cc))
  tests_refused n false q r e = (refl, inl cc)

-- question 6 by itself
module _ (l lent : List ℕ) where
  -- a list that is too short
  pub lent_short : length lent < length l → into_lent l lent ≡ unchanged lent 6
  lent_short short = rw (lt-leb (length l) (length lent) short)

  -- and one that is not
  pub lent_enough : length l ≤ length lent → into_lent l lent ≡ filled l lent
  lent_enough long = rw (le-leb (length l) (length lent) long)

  -- the number that is given is theirs
  pub lent_given : {r : Result ℕ Refusal} {after : List ℕ} (n : ℕ) → listed r after ≡ into_lent l lent → r ≡ Ok n → n ≡ length l
  lent_given n e g = (tests_given 6 6 6 l lent n true true (leb (length l) (length lent)) (sym (ap (λ (t : ListAnswer). t.answer) e) ∙ ap answered g)).2
