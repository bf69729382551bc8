-- The leaves below some children of a word, of which private functions of the crates above speak. Assumes nothing: these are definitions.
use Rattle.std.specs.Prelude.{ℕ, ◌+◌, List}
use mathlib.Core.List.{Memᴰ}
use Rattle.semigroups.specs.Lists.{joined}
use Rattle.semigroups.specs.Words.{conductor, child_word}
use Rattle.semigroups.specs.Positions.{positions}
use Rattle.semigroups.specs.Elements.{right_generators}
use Rattle.semigroups.specs.Tree.{leaves}

-- the words r levels below those children of w whose offsets from the conductor are the bits of rest
unfoldable pub branches : ℕ → ℕ → ℕ → List ℕ
branches r w rest = joined (λ d. leaves r (child_word w (conductor w + d))) (positions rest)

-- the bits of rest are offsets of generators of w not below its conductor
abbrev pub Offsets : ℕ → ℕ → Type 0
Offsets w rest = (d : ℕ) → Memᴰ d (positions rest) → Memᴰ (conductor w + d) (right_generators w)
