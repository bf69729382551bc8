-- A semigroup under way: its word, table and conductor together, its child, the rows of its table, the lowest of some offsets, and the way to
-- a descendant. Assumes nothing: these are definitions.
use Rattle.std.specs.Prelude.{◌≡◌, ℕ, suc, ◌+◌, ◌-◌, ◌*◌, ◌/◌, ◌%◌, ◌^◌, ◌<◌, ◌∷◌, Bool, cond, not, ◌&&◌, ◌==◌, bit_or, nat_le, nat_lt, slice_index_or}
use Rattle.semigroups.specs.Lists.{keep}
use Rattle.semigroups.specs.Words.{bit, digit, gaps, conductor}
use Rattle.semigroups.specs.Positions.{positions}
use Rattle.semigroups.specs.Elements.{element_at, multiplicity}
use Rattle.seeds.specs.Seeds.{jump, seed_table}
use Rattle.seeds.specs.Child.{child_table}
use Rattle.nodes.specs.declared.Node.{Node}

-- the node of the word w
unfoldable pub node_of : ℕ → Node
node_of w = record { word = w; table = seed_table w; conductor = conductor w }

-- the one child of the word 0: the word 1 with table 11
abbrev pub root_child : Node
root_child = record { word = 1; table = 3; conductor = 2 }

-- the child of a node at the offset d from its conductor c, by lemma 3.1
unfoldable pub child_at : Node → ℕ → Node
child_at n d = record {
  word = bit_or n.word (2 ^ (n.conductor + d - 1));
  table = child_table n.word n.table n.conductor d;
  conductor = n.conductor + d + 1;
}

-- the same for all nodes: the word 0 has one child; where c is below 2 or c + d above 63 there is none, and the node stays
unfoldable pub child_node : Node → ℕ → Node
child_node n d =
    cond (n.word == 0) root_child (cond (nat_lt n.conductor 2) n (cond (nat_lt 63 (n.conductor + d)) n (child_at n d)))

-- row 0 of a node's table as a number: it has as many bits as the multiplicity
unfoldable pub first_row : Node → ℕ
first_row n = n.table % 2 ^ multiplicity n.word

-- row 1 of a node's table as a number: behind row 0 it has as many bits as there are numbers from the multiplicity to the next element
unfoldable pub second_row : Node → ℕ
second_row n = n.table / 2 ^ multiplicity n.word % 2 ^ (element_at n.word 2 - multiplicity n.word)

-- row i of a node's table as a number: behind the rows before it, it has as many bits as the i-th jump of the word
unfoldable pub row_at : Node → ℕ → ℕ
row_at n i = n.table / 2 ^ element_at n.word i % 2 ^ jump n.word i

-- r is the row of a node's table that begins at the element a, whatever its index: what a private function of `Node` ensures
abbrev pub RowFrom : Node → ℕ → ℕ → Type 0
RowFrom n a r = (i : ℕ) → a ≡ element_at n.word i → r ≡ row_at n i

-- a row of the child at offset d, by the same row of the parent, the parent's next row, and the number of entries of the row: the later bits
-- of the row, and its last bit where the next row has bit d; that it is the child's row is a law
unfoldable pub row_of_child : ℕ → ℕ → ℕ → ℕ → ℕ
row_of_child row next size d = bit_or (row / 2 ^ (d + 1)) (digit (bit next d) * 2 ^ (size - 1))

-- row i of the child of a node at offset d, where i + 1 is below k, by rows i and i + 1 of the node: lemma 3.1 of source 000, read row by row
unfoldable pub child_row : Node → ℕ → ℕ → ℕ
child_row n i d = row_of_child (row_at n i) (row_at n (suc i)) (jump n.word i) d

-- the lowest of some offsets, which are the bits of a number of 64 bits, and 64 where there are none
unfoldable pub lowest_offset : ℕ → ℕ
lowest_offset bits = slice_index_or (positions bits) 0 64

-- at is the lowest of the offsets that are the bits of a number of 64 bits, and rest has the others; the difference is that one bit
pub record TakenOff (bits at rest : ℕ) : Type 0 where
  pub fewer : rest < bits
  pub below : at < 64
  pub first : positions bits ≡ at ∷ positions rest
  pub value : bits - rest ≡ 2 ^ at

-- d is the lowest of some offsets of row 0, and others has those after it: the child there has no generators, as far as rows 0 and 1 tell it, where
-- k is at least 2. None comes after d, and d is none of row 1
unfoldable pub childless_at : Node → ℕ → ℕ → Bool
childless_at n d others = others == 0 && (nat_lt (multiplicity n.word) n.conductor && not (bit (second_row n) d))

-- the offset from c of the first gap of v that is not below c, and 0 where there is none or c is 0
unfoldable pub next_offset : ℕ → ℕ → ℕ
next_offset c v = cond (nat_lt 0 c) (slice_index_or (keep (nat_le c) (gaps v)) 0 c - c) 0
