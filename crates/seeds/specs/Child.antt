-- The child's table from the parent's, by lemma 3.1 of source 000 and by the pseudocode after it. Assumes nothing: these are definitions.
use Rattle.std.specs.Prelude.{ℕ, zero, suc, ◌+◌, ◌*◌, ◌-◌, ◌/◌, ◌^◌, Bool, true, false, List, ◌++◌, map, length, take, drop, replicate}
use Rattle.std.specs.Int.Bits.{bit_and, bit_or}
use Rattle.semigroups.specs.Lists.{run, joined}
use Rattle.semigroups.specs.Words.{conductor, genus}
use Rattle.seeds.specs.Seeds.{row}

-- ---- lemma 3.1 of source 000, by rows

-- a row with its first d entries 0, or all of them where it has fewer
unfoldable pub struck : ℕ → List Bool → List Bool
struck d r = map (λ b. false) (take d r) ++ drop d r

-- the rows of w joined, with the first d entries of each of the rows 1 to k - 1 struck, where k is the conductor less the genus
unfoldable pub struck_bits : ℕ → ℕ → List Bool
struck_bits w d = row w 0 ++ joined (λ i. struck d (row w i)) (run 1 (conductor w - genus w - 1))

-- l with zeros behind it, up to n entries
unfoldable pub padded : ℕ → List Bool → List Bool
padded n l = l ++ replicate (n - length l) false

-- l with its last three entries 1
unfoldable pub last_three_set : List Bool → List Bool
last_three_set l = take (length l - 3) l ++ replicate 3 true

-- the rows, joined, of the word w of conductor c without the element c + d, from the rows of w
unfoldable pub child_bits : ℕ → ℕ → List Bool
child_bits w d = last_three_set (padded (conductor w + d + 1) (drop (d + 1) (struck_bits w d)))

-- ---- the pseudocode after the lemma

-- the table S of the word w, raked t times
unfoldable pub raked : ℕ → ℕ → ℕ → ℕ
raked w S zero = S
raked w S (suc t) = bit_and (raked w S t) (w * 2 ^ suc t)

-- the table of the word w of conductor c without the element c + d, from the table S of w
unfoldable pub child_table : ℕ → ℕ → ℕ → ℕ → ℕ
child_table w S c d = bit_or (raked w S d / 2 ^ (d + 1)) (7 * 2 ^ (c + d - 2))
