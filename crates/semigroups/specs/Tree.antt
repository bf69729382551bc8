-- The tree of semigroups as a function that computes, for the contracts of the functions that go down it; that its words at a genus are
-- the genus list is a law. Assumes nothing: these are definitions.
use Rattle.std.specs.Prelude.{ℕ, zero, suc, List, [], ◌∷◌}
use Rattle.semigroups.specs.Lists.{joined}
use Rattle.semigroups.specs.Words.{child_word}
use Rattle.semigroups.specs.Elements.{right_generators}

-- the words r levels below w, in order
unfoldable pub leaves : ℕ → ℕ → List ℕ
leaves zero w = w ∷ []
leaves (suc r) w = joined (λ x. leaves r (child_word w x)) (right_generators w)
