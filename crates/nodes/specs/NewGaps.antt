-- The children of a word by their new gaps as the bits of a number, and the rows of a table moved up to the conductor, whose bits are such gaps:
-- what private functions of `walk` and `census` speak of. As in a word, bit i is the number i + 1. Assumes nothing: these are definitions.
use Rattle.std.specs.Prelude.{◌≡◌, ℕ, suc, ◌-◌, ◌*◌, ◌/◌, ◌%◌, ◌^◌, ◌<◌, ◌≤◌, List, bit_and, bit_or}
use mathlib.Core.List.{Memᴰ}
use Rattle.semigroups.specs.Lists.{joined}
use Rattle.semigroups.specs.Words.{bit, genus, conductor, child_word}
use Rattle.semigroups.specs.Positions.{positions, above}
use Rattle.semigroups.specs.Elements.{multiplicity}
use Rattle.semigroups.specs.Tree.{leaves}
use Rattle.seeds.specs.Seeds.{jump}
use Rattle.nodes.specs.Nodes.{node_of, row_at}
use Rattle.nodes.specs.Levels.{Levels}

-- the words r levels below those children of w whose new gaps are the bits of a number
unfoldable pub gap_branches : ℕ → ℕ → ℕ → List ℕ
gap_branches r w bits = joined (λ i. leaves r (child_word w (suc i))) (positions bits)

-- these children are words of 64 bits
abbrev pub GapsFit : ℕ → ℕ → Type 0
GapsFit w bits = (i : ℕ) → Memᴰ i (positions bits) → child_word w (suc i) < 2 ^ 64

-- row i of the table of w, moved up to the conductor
unfoldable pub moved_row : ℕ → ℕ → ℕ
moved_row w i = row_at (node_of w) i * 2 ^ (conductor w - 1) % 2 ^ 64

-- a moved row of the child without the generator of bit i, by the same row of the parent and the parent's next row: the later bits of the row and,
-- where the next row has bit i, the one that is as many places on as the row has entries
abbrev pub moved_row_of_child : ℕ → ℕ → ℕ → ℕ → ℕ
moved_row_of_child row next size i = bit_or (above row i) (bit_and next (2 ^ i) * 2 ^ size % 2 ^ 64)

-- w has two levels below it and k of at least 2; m is its multiplicity, `generators` has its generators not below the conductor, and `seeds` tells
-- which of these are order-one seeds
pub record TwoRows (w m generators seeds : ℕ) : Type 0 where
  pub levels : Levels 2 w
  pub two : 2 ≤ conductor w - genus w
  pub least : m ≡ multiplicity w
  pub first : generators ≡ moved_row w 0
  pub second : (i : ℕ) → Memᴰ i (positions generators) → bit seeds i ≡ bit (moved_row w 1) i

-- w has three levels below it and k of at least 3; m is its multiplicity, u the length of its row 1, and the others are its moved rows 0, 1 and 2
pub record ThreeRows (w m u generators seeds last : ℕ) : Type 0 where
  pub levels : Levels 3 w
  pub three : 3 ≤ conductor w - genus w
  pub least : m ≡ multiplicity w
  pub size : u ≡ jump w 1
  pub first : generators ≡ moved_row w 0
  pub second : seeds ≡ moved_row w 1
  pub third : last ≡ moved_row w 2

-- bits is a number of 64 bits with its bits below some position cleared: those from one of them on are left
pub record Upper (n bits : ℕ) : Type 0 where
  pub fits : n < 2 ^ 64
  pub from : ℕ
  pub cleared : bits ≡ n / 2 ^ from * 2 ^ from
