-- The numbers of grandchildren and great-grandchildren of a word by the rows of its node's table. Assumes nothing: these are definitions.
use Rattle.std.specs.Prelude.{ℕ, ◌+◌, ◌-◌, ◌*◌, ◌/◌, ◌^◌, cond, ◌==◌, bit_and, count_ones, nat_lt}
use Rattle.semigroups.specs.Words.{genus}
use Rattle.semigroups.specs.Elements.{multiplicity}
use Rattle.seeds.specs.Seeds.{jump}
use Rattle.seeds.specs.Grandchildren.{pairs}
use Rattle.seeds.specs.GreatGrandchildren.{triples}
use Rattle.nodes.specs.Nodes.{first_row, second_row, row_at}
use Rattle.nodes.specs.declared.Node.{Node}

-- the number of grandchildren by rows 0 and 1 of a node's table: each two generators not below the conductor make one, and each of them that is
-- an order-one seed makes one more
unfoldable pub count_by_rows : Node → ℕ
count_by_rows n = pairs (count_ones (first_row n)) + count_ones (bit_and (first_row n) (second_row n))

-- the number of grandchildren as it is read off a node: for the word 0; where k, the conductor less the genus, is below 2, by the multiplicity;
-- else by rows 0 and 1
unfoldable pub grandchildren_at : Node → ℕ
grandchildren_at n =
    cond (n.word == 0) 2
    (cond (nat_lt (n.conductor - genus n.word) 2) (pairs (multiplicity n.word) + 3)
    (count_by_rows n))

-- the number of great-grandchildren by rows 0, 1 and 2 of a node's table: with u the length of row 1, each three generators not below the
-- conductor make one, each of them that is an order-one seed makes one with each other, and each of them that is an order-two seed makes one
-- where the table has a 1 that is u entries on
unfoldable pub great_count_by_rows : Node → ℕ
great_count_by_rows n =
    triples (count_ones (first_row n)) + count_ones (bit_and (first_row n) (second_row n)) * (count_ones (first_row n) - 1)
    + count_ones (bit_and (bit_and (first_row n) (row_at n 2)) (n.table / 2 ^ jump n.word 1))
