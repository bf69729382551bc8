-- The minimal generators of a word. Assumes nothing: these are definitions.
use Rattle.std.specs.Prelude.{ℕ, ◌+◌, List}
use Rattle.semigroups.specs.Lists.{run, keep}
use Rattle.semigroups.specs.Words.{conductor}
use Rattle.semigroups.specs.Elements.{multiplicity, generator}
use Rattle.answers.specs.Answers.{ListAnswer}
use Rattle.words.specs.Looks.{listed_into}

-- the generators of the set of w, in rising order: all lie below the conductor plus the multiplicity
unfoldable pub minimal_generators : ℕ → List ℕ
minimal_generators w = keep (generator w) (run 0 (conductor w + multiplicity w))

-- the generators of w into the lent list: questions 1, 2 and 6
unfoldable pub generators_of : ℕ → List ℕ → ListAnswer
generators_of w lent = listed_into w (minimal_generators w) lent
