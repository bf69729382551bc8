-- The grandchildren of a word, the numerical semigroups with two gaps more whose smallest gaps are the word's: how many they are, and that
-- number by generators and order-one seeds. Assumes nothing: these are definitions.
use Rattle.std.specs.Prelude.{ℕ, ◌+◌, ◌*◌, ◌-◌, ◌/◌, length}
use Rattle.semigroups.specs.Lists.{keep}
use Rattle.semigroups.specs.Elements.{right_generators}
use Rattle.semigroups.specs.GapLists.{extensions}
use Rattle.seeds.specs.Seeds.{order_one_seed}

-- how many numerical semigroups have two gaps more than w and as their smallest gaps exactly the gaps of w; below a word of genus 31 or 32 they
-- have more than 32 gaps, some of them above 64
unfoldable pub grandchild_count : ℕ → ℕ
grandchild_count w = length (extensions 2 w)

-- the number of pairs among n
unfoldable pub pairs : ℕ → ℕ
pairs n = n * (n - 1) / 2

-- n (n - 1) / 2, where n is the number of generators not below the conductor, plus the number of these that are also order-one seeds
unfoldable pub count_by_generators : ℕ → ℕ
count_by_generators w = pairs (length (right_generators w)) + length (keep (order_one_seed w) (right_generators w))
