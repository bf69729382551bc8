-- Known rows of nodes, and numbers of great-grandchildren by them, computed from the definitions. Assumes nothing.
use Rattle.std.proofs.Common.{◌≡◌, ℕ, true, false, [], ◌∷◌, map, refl}
use lib.Count.{ones}
use Rattle.semigroups.specs.Lists.{run, keep, keep_if, every, joined, last_or}
use Rattle.semigroups.specs.Sets.{sum_of_two}
use Rattle.semigroups.specs.Words.{bit, set_of, gaps, genus, digit, largest_gap, conductor, of_bits}
use Rattle.semigroups.specs.Elements.{elements_below, element_at, multiplicity}
use Rattle.seeds.specs.Seeds.{left_after, seed, row, seed_bits, seed_table}
use Rattle.seeds.specs.GreatGrandchildren.{triples}
use Rattle.nodes.specs.Nodes.{node_of, first_row, second_row, row_at, row_of_child, child_row, childless_at}
use Rattle.nodes.specs.RowCounts.{great_count_by_rows}
use Rattle.nodes.specs.declared.Node.{Node}

-- rows 0 and 1 of the two as numbers
pub known_rows : (map (λ w. first_row (node_of w)) (111 ∷ 6527 ∷ []) ≡ 27 ∷ 11 ∷ []) × (map (λ w. second_row (node_of w)) (111 ∷ 6527 ∷ []) ≡ 7 ∷ 2 ∷ [])
unfolding run keep keep_if every joined bit set_of gaps genus last_or largest_gap conductor elements_below element_at multiplicity sum_of_two left_after seed row seed_bits digit of_bits seed_table node_of first_row second_row
known_rows = (refl, refl)

-- rows 0 and 1 of the child of the word 91 at 10, by rows 0, 1 and 2 of its node, which are 5, 5 and 3
pub known_child_rows : let n : Node = record { word = 91; table = 237; conductor = 8 } in map (λ i. child_row n i 2) (0 ∷ 1 ∷ []) ≡ 4 ∷ 0 ∷ []
unfolding run keep keep_if bit set_of elements_below element_at digit row_at row_of_child child_row
known_child_rows = refl

-- the child of the word 91 at its last generator, 10, which is an order-one seed, has generators; that of the word 159 at 11, which is none, has none
pub known_childless : (childless_at record { word = 91; table = 237; conductor = 8 } 2 0 ≡ false) × (childless_at record { word = 159; table = 455; conductor = 9 } 2 0 ≡ true)
unfolding run keep keep_if bit set_of elements_below element_at multiplicity second_row childless_at
known_childless = (refl, refl)

-- the great-grandchildren by rows 0, 1 and 2: of the word 91, of whose two generators both are order-one seeds; of 79, where of two order-two seeds
-- one has a 1 as many entries on as row 1 has; of 463, where one such seed of two is no generator; of 159, which has three generators; and of
-- 427392895, the example of source 001, with the table that it prints
pub known_great_grandchildren : let node : ℕ → ℕ → ℕ → Node = λ w s c. record { word = w; table = s; conductor = c } in
    map great_count_by_rows (node 91 237 8 ∷ node 79 227 8 ∷ node 463 1016 10 ∷ node 159 455 9 ∷ node 427392895 1040845323 30 ∷ []) ≡ 3 ∷ 2 ∷ 1 ∷ 5 ∷ 6 ∷ []
unfolding run keep keep_if bit set_of elements_below element_at multiplicity first_row second_row row_at triples great_count_by_rows ones
known_great_grandchildren = refl
