-- Known seeds, tables of children by rows, and numbers of great-grandchildren, computed from the definitions. Assumes nothing.
use mathlib.Core.Path.{◌≡◌, refl}
use mathlib.Core.Bool.{true, false}
use mathlib.Core.List.{[], ◌∷◌, map}
use lib.Count.{ones}
use lib.ListN.{length}
use Rattle.semigroups.specs.Lists.{run, keep, keep_if, every, joined, last_or}
use Rattle.semigroups.specs.Sets.{sum_of_two}
use Rattle.semigroups.specs.Words.{bit, set_of, gaps, genus, digit, largest_gap, conductor, child_word, of_bits}
use Rattle.semigroups.specs.Elements.{elements_below, element_at, multiplicity, generator, right_generators}
use Rattle.semigroups.specs.Tree.{leaves}
use Rattle.seeds.specs.Seeds.{left_after, seed_of_order, order_one_seed, seed, row, seed_bits, seed_table}
use Rattle.seeds.specs.Child.{struck, struck_bits, padded, last_three_set, child_bits}
use Rattle.seeds.specs.GreatGrandchildren.{triples, weight, great_count_by_weights}

-- the word 0, by the conductor of source 000, which is 1: one row of one entry, and its one generator from there on, at which it has its
-- child, is 1
pub word_zero : (conductor 0 ≡ 1) × (seed_bits 0 ≡ true ∷ []) × (right_generators 0 ≡ 1 ∷ [])
unfolding run keep keep_if every joined bit set_of gaps genus last_or largest_gap conductor elements_below element_at multiplicity generator right_generators sum_of_two left_after seed row seed_bits
word_zero = (refl, refl, refl)

-- the tables of the four children of the word 111, example 1.4 of source 000, by rows
pub known_child_bits : map (λ d. of_bits (child_bits 111 d)) (0 ∷ 1 ∷ 3 ∷ 4 ∷ []) ≡ 509 ∷ 950 ∷ 3585 ∷ 7168 ∷ []
unfolding run keep keep_if every joined bit set_of gaps genus last_or largest_gap conductor elements_below element_at sum_of_two left_after seed row digit of_bits struck struck_bits padded last_three_set child_bits
known_child_bits = refl

-- examples 1.4 and 1.5 of source 000: of the word 111 the elements 8, 9 and 10 are order-one seeds, the last of which is no generator; of the
-- word 6527 the element 14 is no order-one seed, but an order-two seed
pub known_seeds : (keep (order_one_seed 111) (run 8 5) ≡ 8 ∷ 9 ∷ 10 ∷ []) × (right_generators 111 ≡ 8 ∷ 9 ∷ 11 ∷ 12 ∷ [])
    × (seed_of_order 6527 1 14 ≡ false) × (seed_of_order 6527 2 14 ≡ true)
unfolding run keep keep_if every bit set_of gaps genus last_or largest_gap conductor elements_below element_at multiplicity generator right_generators sum_of_two left_after seed_of_order
known_seeds = (refl, refl, refl, refl)

-- as source 001 states the number, and in the tree: of the word 79 it is the same; where k is below 3 it is another, of the word 11, with k = 2, and
-- of the word 3, with k = 1 and m = 3, which the source leaves out
pub known_below_three : (map great_count_by_weights (79 ∷ 11 ∷ 3 ∷ []) ≡ 2 ∷ 1 ∷ 1 ∷ []) × (map (λ w. length (leaves 3 w)) (79 ∷ 11 ∷ 3 ∷ []) ≡ 2 ∷ 3 ∷ 11 ∷ [])
unfolding run keep keep_if every joined bit set_of gaps genus last_or largest_gap conductor child_word elements_below element_at multiplicity generator right_generators leaves sum_of_two left_after seed row seed_bits digit of_bits seed_table triples weight great_count_by_weights ones
known_below_three = (refl, refl)
