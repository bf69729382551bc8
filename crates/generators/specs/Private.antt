-- What the private functions of the crate compute: the generators below the conductor. Assumes nothing: these are definitions.
use Rattle.std.specs.Prelude.{ℕ, ◌&&◌, ltb}
use Rattle.semigroups.specs.Sets.{Set}
use Rattle.semigroups.specs.Words.{conductor}
use Rattle.semigroups.specs.Elements.{generator}

-- a generator below the conductor
unfoldable pub low_generator : ℕ → Set
low_generator w x = ltb x (conductor w) && generator w x
