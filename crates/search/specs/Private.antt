-- The words whose largest gap is a given number, of which private functions of the search find the first. Assumes nothing: these are definitions.
use Rattle.std.specs.Prelude.{ℕ, List, eqb}
use Rattle.semigroups.specs.Lists.{keep}
use Rattle.semigroups.specs.Words.{largest_gap}

-- of a list of words, those whose largest gap is f
unfoldable pub with_largest_gap : ℕ → List ℕ → List ℕ
with_largest_gap f = keep (λ v. eqb (largest_gap v) f)
