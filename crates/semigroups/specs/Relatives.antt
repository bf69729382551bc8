-- Relatives in a genus list: where in it the descendants of a word stand. Assumes nothing: these are definitions.
use Rattle.std.specs.Prelude.{ℕ, Bool, false, ◌&&◌, ◌||◌, List, [], ◌∷◌, eqb, ltb, length}
use Rattle.semigroups.specs.Lists.{keep}
use Rattle.semigroups.specs.Words.{gaps}
use Rattle.semigroups.specs.GenusList.{genus_list}

-- list order as a test: does the first list come before the second
unfoldable pub comes_before : List ℕ → List ℕ → Bool
comes_before [] m = false
comes_before (x ∷ l) [] = false
comes_before (x ∷ l) (y ∷ m) = ltb x y || (eqb x y && comes_before l m)

-- the words of the genus list of g that come before w in list order, whatever the genus of w
unfoldable pub words_before : ℕ → ℕ → List ℕ
words_before g w = keep (λ v. comes_before (gaps v) (gaps w)) (genus_list g)

-- and those that come after it
unfoldable pub words_after : ℕ → ℕ → List ℕ
words_after g w = keep (λ v. comes_before (gaps w) (gaps v)) (genus_list g)

-- the place of w in the genus list of g, where its descendants start: the number of words before it
unfoldable pub place_of : ℕ → ℕ → ℕ
place_of g w = length (words_before g w)
