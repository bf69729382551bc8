-- What the programs share, as bytes: the front of what a reader has left, and the text of an answer. Assumes nothing: these are definitions.
use Rattle.std.specs.Prelude.{ℕ, ◌<◌, ◌≤◌, List, ◌++◌, length, take, Option, Result, Ok, Err, MatchResult, codes, decimal}
use Rattle.std.specs.Io.KnownBytes.{Consumes, IsAtEnd}
use Rattle.answers.specs.Answers.{number_of}
use Rattle.answers.specs.declared.Refusal.{Refusal}

-- a reader gave n bytes, and they are the first n of a buffer; old and new are the bytes that it has left before and afterwards, where these are
-- known
pub record Fills (old new : Option (List ℕ)) (buffer : List ℕ) (n : ℕ) : Type 0 where
  pub within : n ≤ length buffer
  pub bytes : Consumes old new (take n buffer)

-- a reader's bytes went to the front of a buffer: n of them at `Ok(n)`, and fewer than the buffer holds only where none is left; some at `Err`
abbrev pub ReadsFront : {E : Type 0} → Option (List ℕ) → Option (List ℕ) → Result ℕ E → List ℕ → Type 0
ReadsFront old new r buffer =
    MatchResult r (λ n. Fills old new buffer n × (n < length buffer → IsAtEnd new)) (λ _. (n : ℕ) × Fills old new buffer n)

-- after a blank, that a call is refused, with the number of its refusal in decimal
abbrev pub refused_text : ℕ → List ℕ
refused_text n = codes " refused " ++ decimal n

-- what a call answered: the number that it gave, in decimal after a blank, or that it is refused
abbrev pub number_text : Result ℕ Refusal → List ℕ
number_text (Ok n) = codes " " ++ decimal n
number_text (Err refusal) = refused_text (number_of refusal)
