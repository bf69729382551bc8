-- The library's `==` of two answers tells whether they are the same. Assumes nothing.
use Prim.Native.Nat.{ℕ, ◌+◌}
use mathlib.Core.Path.{◌≡◌, refl}
use native.Mathlib.Omega.{arith}
use denote.Enum.Declared.{tag_of}
use lib.Dec.{eqb}
use Rattle.std.specs.Prelude.{Result, Ok, Err}
use Rattle.std.specs.Result.{result_eq}
use Rattle.answers.specs.Answers.{answered, number_of}
use Rattle.answers.specs.declared.Refusal.{Refusal}
use Rattle.answers.specs.declared.Refusal.TheVariants.{TooManyGaps, NotClosed, GenusTooLarge, WalkOutOfOrder, NotAGenerator, ListTooShort, ZeroGenerator, CommonDivisor, TooManyGapsGenerated, MalformedInput, ZeroCoordinate, CoordinateSumTooLarge, FailedInequality, EditorOutOfOrder, EditorFull, ByteNotHeld, WrongJobVersion, WrongJobLength, WrongJobFields}
use Rattle.answers.specs.contracts.Refusal.{the_type}
use Rattle.answers.specs.contracts.RefusalPartialEq.TheImpl.{eq-value}
use Rattle.changes.specs.States.{equal_answers}

-- the refusals stand in the order of their numbers
refusal_tag : (r : Refusal) → number_of r ≡ tag_of the_type r + 1
refusal_tag TooManyGaps = refl
refusal_tag NotClosed = refl
refusal_tag GenusTooLarge = refl
refusal_tag WalkOutOfOrder = refl
refusal_tag NotAGenerator = refl
refusal_tag ListTooShort = refl
refusal_tag ZeroGenerator = refl
refusal_tag CommonDivisor = refl
refusal_tag TooManyGapsGenerated = refl
refusal_tag MalformedInput = refl
refusal_tag ZeroCoordinate = refl
refusal_tag CoordinateSumTooLarge = refl
refusal_tag FailedInequality = refl
refusal_tag EditorOutOfOrder = refl
refusal_tag EditorFull = refl
refusal_tag ByteNotHeld = refl
refusal_tag WrongJobVersion = refl
refusal_tag WrongJobLength = refl
refusal_tag WrongJobFields = refl

next_same : (m n : ℕ) → eqb m n ≡ eqb (m + 1) (n + 1)
next_same m n = grind arith

-- so that two are the same just where their numbers are
refusal_equal : (r s : Refusal) → (eq-value).it r s ≡ eqb (number_of r) (number_of s)
refusal_equal r s = rw (refusal_tag r, refusal_tag s) (next_same (tag_of the_type r) (tag_of the_type s))

pub result_equal : (a b : Result ℕ Refusal) → result_eq eqb (eq-value).it a b ≡ equal_answers (answered a) (answered b)
result_equal (Ok v) (Ok w) = refl
result_equal (Ok v) (Err s) = refl
result_equal (Err r) (Ok w) = refl
result_equal (Err r) (Err s) = refusal_equal r s
