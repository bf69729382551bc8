-- The elements of a word's set in rising order, its multiplicity and its generators. Assumes nothing: these are definitions.
use Rattle.std.specs.Prelude.{ℕ, ◌+◌, Bool, List, get_or}
use Rattle.semigroups.specs.Lists.{run, keep}
use Rattle.semigroups.specs.Sets.{generator_of}
use Rattle.semigroups.specs.Words.{set_of, conductor}

-- the elements below n, in rising order
unfoldable pub elements_below : ℕ → ℕ → List ℕ
elements_below w n = keep (set_of w) (run 0 n)

-- the element of index i: a word has at most 64 gaps, so that it lies below 65 + i
unfoldable pub element_at : ℕ → ℕ → ℕ
element_at w i = get_or (elements_below w (65 + i)) i 0

-- the least positive element: the first from 1 to 65
unfoldable pub multiplicity : ℕ → ℕ
multiplicity w = get_or (keep (set_of w) (run 1 65)) 0 0

-- x is a generator of the set of w
unfoldable pub generator : ℕ → ℕ → Bool
generator w = generator_of (set_of w)

-- the generators not below the conductor, in rising order: with m the multiplicity, they are among the m numbers from the conductor on
unfoldable pub right_generators : ℕ → List ℕ
right_generators w = keep (generator w) (run (conductor w) (multiplicity w))
