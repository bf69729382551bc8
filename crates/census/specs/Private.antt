-- Numbers that are counted up at places of a list, of which the private functions of the census speak. Assumes nothing: these are
-- definitions.
use Rattle.std.specs.Prelude.{ℕ, ◌+◌, ◌*◌, ◌%◌, ◌^◌, ◌≤◌, ◌<◌, length, get_or, set, replicate}
use mathlib.Core.List.{List, [], ◌∷◌, Memᴰ}
use Rattle.semigroups.specs.Lists.{run, sum_over}
use Rattle.semigroups.specs.Words.{reported_conductor}
use Rattle.semigroups.specs.Elements.{multiplicity}
use Rattle.semigroups.specs.Positions.{positions}

-- the place of the word w
unfoldable pub census_place : ℕ → ℕ
census_place w = 65 * multiplicity w + reported_conductor w

-- n places without any
unfoldable pub blank : ℕ → List ℕ
blank n = replicate n 0

-- one more at place p
unfoldable pub one_more_at : ℕ → List ℕ → List ℕ
one_more_at p o = set o p (get_or o p 0 + 1)

-- one more at each place of a list, as often as it stands there
unfoldable pub tallied : List ℕ → List ℕ → List ℕ
tallied [] o = o
tallied (p ∷ l) o = tallied l (one_more_at p o)

-- `first` and each position that is a bit of a number make one of the 2,210 places
abbrev pub ArePlaces : ℕ → ℕ → Type 0
ArePlaces first bits = (i : ℕ) → Memᴰ i (positions bits) → first + i < 2210

-- o has the 2,210 places of a census, and at each there is room for n more in 64 bits
pub record RoomFor (n : ℕ) (o : List ℕ) : Type 0 where
  pub places : 2210 ≤ length o
  pub below : (p : ℕ) → p < 2210 → get_or o p 0 + n < 2 ^ 64

-- the sum over the places of a census: the number at each, times its conductor
unfoldable pub conductors_in : List ℕ → ℕ
conductors_in o = sum_over (λ p. p % 65 * get_or o p 0) (run 0 2210)
