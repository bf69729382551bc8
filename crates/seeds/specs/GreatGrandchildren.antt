-- The great-grandchildren of a word, the numerical semigroups with three gaps more whose smallest gaps are the word's: how many they are, and
-- that number as source 001 reads it off the table. Assumes nothing: these are definitions.
use Rattle.std.specs.Prelude.{ℕ, ◌+◌, ◌*◌, ◌-◌, ◌/◌, ◌%◌, ◌^◌, length}
use Rattle.std.specs.Int.Bits.{bit_and}
use Rattle.std.specs.Int.Count.{ones}
use Rattle.semigroups.specs.Elements.{multiplicity}
use Rattle.semigroups.specs.GapLists.{extensions}
use Rattle.seeds.specs.Seeds.{jump, seed_table}

-- how many numerical semigroups have three gaps more than w and as their smallest gaps exactly the gaps of w
unfoldable pub great_grandchild_count : ℕ → ℕ
great_grandchild_count w = length (extensions 3 w)

-- the number of triples among n
unfoldable pub triples : ℕ → ℕ
triples n = n * (n - 1) * (n - 2) / 6

-- the bounded weight of source 001, from bit 0 on: the number of 1s among the first n bits
unfoldable pub weight : ℕ → ℕ → ℕ
weight n bits = ones (bits % 2 ^ n)

-- the theorem of source 001 for k of at least 3, with S the table, m the multiplicity, u and v the lengths of rows 1 and 2, and the weight of m
-- bits of S as the number of children. The source calls u and v the jumps of index 0 and 1; its example has those of index 1 and 2. With k = 2 it
-- has another formula, and with k = 1 it leaves m = 3 out
unfoldable pub great_count_by_weights : ℕ → ℕ
great_count_by_weights w =
    let (S, m) : ℕ × ℕ = (seed_table w, multiplicity w) in
    let (u, v) : ℕ × ℕ = (jump w 1, jump w 2) in
    triples (weight m S) + weight u (bit_and S (S / 2 ^ m)) * (weight m S - 1) + weight v (bit_and (bit_and S (S / 2 ^ u)) (S / 2 ^ (u + m)))
