-- The known tables with their numbers, children, nodes and numbers of grandchildren, computed from the definitions of the calls. Assumes nothing.
use Prim.Native.Nat.{ℕ}
use mathlib.Core.Path.{◌≡◌, refl}
use mathlib.Core.List.{[], ◌∷◌, map}
use Rattle.semigroups.specs.Lists.{run, keep, keep_if, every, joined, last_or}
use Rattle.semigroups.specs.Sets.{sum_of_two}
use Rattle.semigroups.specs.Words.{bit, set_of, gaps, genus, digit, largest_gap, conductor, closed, child_word, of_bits}
use Rattle.semigroups.specs.Elements.{elements_below, element_at, generator}
use Rattle.semigroups.specs.GenusList.{risings}
use Rattle.semigroups.specs.GapLists.{set_missing, closed_gaps, extensions}
use Rattle.seeds.specs.Seeds.{left_after, seed, row, first_row_ones, seed_bits, seed_table}
use Rattle.seeds.specs.Grandchildren.{grandchild_count}
use Rattle.answers.specs.Answers.{Answer, refused, given}
use Rattle.words.specs.Looks.{ask_word}
use Rattle.nodes.specs.Nodes.{node_of}
use Rattle.tables.specs.Answers.{node_answer, table_of, child_of, child_elements, grandchildren_of}
use Rattle.tables.specs.declared.Table.{Table}

-- a table, and the number of 1s in its row 0
abbrev pub table_given : ℕ → ℕ → Answer Table
table_given s n = given record { table = s; generators = n }

-- the tables of the words 0, 1, 5, 111 and 91 with their numbers of 1s in row 0; the words 13 and that of the gaps 1 to 33 are refused
pub known_tables : map table_of (0 ∷ 1 ∷ 5 ∷ 111 ∷ 91 ∷ 13 ∷ 8589934591 ∷ [])
    ≡ table_given 1 1 ∷ table_given 3 2 ∷ table_given 14 1 ∷ table_given 251 4 ∷ table_given 237 2 ∷ refused 2 ∷ refused 1 ∷ []
unfolding run keep keep_if every joined bit set_of gaps genus last_or largest_gap conductor closed elements_below element_at sum_of_two left_after seed row first_row_ones seed_bits digit of_bits seed_table ask_word table_of
known_tables = refl

-- of genus 32: the words of the generators 2 and 65 and of the gaps 1 to 32
pub known_tables_at_32 : map table_of (6148914691236517205 ∷ 4294967295 ∷ []) ≡ table_given 16909515400900422314 1 ∷ table_given 8589934591 33 ∷ []
unfolding run keep keep_if every joined bit set_of gaps genus last_or largest_gap conductor closed elements_below element_at sum_of_two left_after seed row first_row_ones seed_bits digit of_bits seed_table ask_word table_of
known_tables_at_32 = refl

-- the elements at which the words 0, 1 and 111 have their children
pub known_child_elements : map (λ w. child_elements w 20) (0 ∷ 1 ∷ 111 ∷ []) ≡ (1 ∷ []) ∷ (2 ∷ 3 ∷ []) ∷ (8 ∷ 9 ∷ 11 ∷ 12 ∷ []) ∷ []
unfolding run keep keep_if every bit set_of gaps genus last_or largest_gap conductor closed sum_of_two generator child_word ask_word child_of child_elements
known_child_elements = refl

-- the nodes of the words 91 and 13
pub known_nodes : map node_answer (91 ∷ 13 ∷ []) ≡ given (record { word = 91; table = 237; conductor = 8 }) ∷ refused 2 ∷ []
unfolding run keep keep_if every joined bit set_of gaps genus last_or largest_gap conductor closed elements_below element_at sum_of_two left_after seed row seed_bits digit of_bits seed_table node_of ask_word node_answer
known_nodes = refl

-- the children of the word 0 at 1 and of the word 1 at 2, 3 and 4
pub known_children : (child_of 0 1 ≡ given 1) × (map (child_of 1) (2 ∷ 3 ∷ 4 ∷ []) ≡ given 3 ∷ given 5 ∷ refused 5 ∷ [])
unfolding run keep keep_if every bit set_of gaps genus last_or largest_gap conductor closed sum_of_two generator child_word ask_word child_of
known_children = (refl, refl)

-- the word of the generators 2 and 65 has genus 32
pub no_child_at_32 : (e : ℕ) → child_of 6148914691236517205 e ≡ refused 3
unfolding run keep keep_if every bit set_of gaps genus closed sum_of_two ask_word child_of
no_child_at_32 e = refl

-- the grandchildren of the words 91, 3 and 0, and at genus 32 of the word of the generators 2 and 65, which has the one without 65 and 67; the
-- words 13 and that of the gaps 1 to 33 are refused
pub known_grandchildren : map grandchildren_of (91 ∷ 3 ∷ 0 ∷ 6148914691236517205 ∷ 13 ∷ 8589934591 ∷ [])
    ≡ given 3 ∷ given 6 ∷ given 2 ∷ given 1 ∷ refused 2 ∷ refused 1 ∷ []
unfolding run keep keep_if every joined bit set_of gaps genus last_or largest_gap conductor closed sum_of_two risings set_missing closed_gaps extensions grandchild_count ask_word grandchildren_of
known_grandchildren = refl
