-- The words with at least a multiplicity, which the private function of the walk that goes on from a word writes. Assumes nothing: these
-- are definitions.
use Rattle.std.specs.Prelude.{ℕ, List, leb}
use Rattle.semigroups.specs.Lists.{keep}
use Rattle.semigroups.specs.Elements.{multiplicity}

-- of a list of words, those with a multiplicity of at least lo
unfoldable pub from_multiplicity : ℕ → List ℕ → List ℕ
from_multiplicity lo = keep (λ v. leb lo (multiplicity v))
