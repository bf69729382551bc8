-- The gaps of a word that are sums, of which the private function speaks that the closure test and the opening share. Assumes nothing: these
-- are definitions.
use Rattle.std.specs.Prelude.{ℕ, List, get_or}
use Rattle.semigroups.specs.Lists.{keep}
use Rattle.semigroups.specs.Sets.{sum_of_two}
use Rattle.semigroups.specs.Words.{set_of, gaps}

-- the gaps of w that are sums of two positive elements, in rising order
unfoldable pub gap_sums : ℕ → List ℕ
gap_sums w = keep (sum_of_two (set_of w)) (gaps w)

-- the least of them, and 65 where there is none
unfoldable pub least_gap_sum : ℕ → ℕ
least_gap_sum w = get_or (gap_sums w) 0 65
