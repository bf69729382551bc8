-- Children and parents in the tree of semigroups. Assumes nothing: these are definitions.
use Rattle.std.specs.Prelude.{ℕ, suc, ◌^◌, ◌≤◌, ◌<◌, ◌≡◌, true, [], ◌∷◌, ◌++◌}
use Rattle.semigroups.specs.Words.{gaps, genus, conductor, closed, child_word}
use Rattle.semigroups.specs.Elements.{generator}

-- what holds of the child of w without the generator x: it is a closed word of 64 bits with x as its one gap more, the last
pub record Child (w x : ℕ) : Type 0 where
  pub high : conductor w ≤ x
  pub low : x ≤ 63
  pub fits : child_word w x < 2 ^ 64
  pub closed : closed (child_word w x) ≡ true
  pub new_gaps : gaps (child_word w x) ≡ gaps w ++ x ∷ []
  pub new_genus : genus (child_word w x) ≡ suc (genus w)
  pub new_conductor : conductor (child_word w x) ≡ suc x

-- v is a parent of w: a closed word from which w comes without the generator e, which is not below the conductor of v
pub record Parent (w v e : ℕ) : Type 0 where
  pub fits : v < 2 ^ 64
  pub closed : closed v ≡ true
  pub high : conductor v ≤ e
  pub generates : generator v e ≡ true
  pub child : child_word v e ≡ w
