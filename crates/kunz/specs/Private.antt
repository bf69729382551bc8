-- What the private functions of the crate compute and require. Assumes nothing: these are definitions.
use Rattle.std.specs.Prelude.{ℕ, ◌%◌, ◌≡◌, eqb}
use Rattle.semigroups.specs.Positions.{bits_from}
use Rattle.semigroups.specs.Elements.{multiplicity}
use Rattle.words.specs.Looks.{Accepted}

-- w is accepted, and m is its multiplicity
pub record AcceptedWithMultiplicity (w m : ℕ) : Type 0 where
  pub accepted : Accepted w
  pub multiplicity_is : m ≡ multiplicity w

-- the multiples of m below 64 as bits: bit j stands where m divides j
abbrev pub multiples_as_bits : ℕ → ℕ
multiples_as_bits m = bits_from (λ j. eqb (j % m) 0) 0
