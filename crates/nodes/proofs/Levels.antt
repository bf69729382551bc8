-- Nodes of accepted words: the levels below them, the conductor that they carry, and the number of right generators that their row 0 tells.
-- Assumes nothing.
use Rattle.std.proofs.Common.{◌≡◌, ℕ, ◌+◌, ◌^◌, ◌<◌, ◌≤◌, min, length, sym, refl, ap, ◌∙◌, subst, arith}
use lib.Count.{ones}
use Rattle.semigroups.specs.Words.{genus, conductor}
use Rattle.semigroups.specs.Positions.{positions}
use Rattle.semigroups.specs.Elements.{right_generators}
use Rattle.semigroups.specs.Tree.{leaves}
use Rattle.semigroups.proofs.Words.{genus_zero, closed_zero}
use Rattle.semigroups.proofs.StandingBits.{positions_ones}
use Rattle.semigroups.proofs.Elements.{conductor_pos}
use Rattle.semigroups.proofs.Closure.{conductor_le_64}
use Rattle.words.specs.Looks.{Accepted}
use Rattle.nodes.specs.Nodes.{node_of, first_row}
use Rattle.nodes.specs.Levels.{NodeWithLevels}
use Rattle.nodes.specs.declared.Node.{Node}
use Rattle.nodes.proofs.Nodes.{first_row_fits, first_row_count}

-- an accepted word has the levels up to genus 32 below its node
pub accepted_levels : (r w : ℕ) → w < 2 ^ 64 → Accepted w → genus w + r ≤ 32 → NodeWithLevels r (node_of w)
unfolding node_of
accepted_levels r w fits h few = record { node = refl; levels = record { fits = fits; closed = h.closed; few = few } }

-- so has the word 0, of genus 0
pub root_levels : (r : ℕ) → r ≤ 32 → NodeWithLevels r (node_of 0)
root_levels r h =
    let genus-is = genus_zero in
    accepted_levels r 0 (omega arith) record { closed = closed_zero; few = omega arith } (omega arith)

-- the words at the end of the whole tree down to a genus are those so many levels below the word 0
pub whole_tree : {g left : ℕ} {n : Node} → g ≤ 32 → (n ≡ node_of 0) × (left ≡ min g 32) → leaves left n.word ≡ leaves g 0
unfolding node_of
whole_tree {g} {left} few (root, levels) =
    let same : left ≡ g = omega (arith, levels, few) in
    rw same (ap (λ (n : Node). leaves g n.word) root)

-- a word with levels below its node is accepted
pub node_accepted : (r : ℕ) (n : Node) → NodeWithLevels r n → Accepted n.word
node_accepted r n at = record { closed = at.levels.closed; few = omega (arith, at.levels.few) }

-- the conductor that a node carries is its word's
pub node_conductor : (r : ℕ) (n : Node) → NodeWithLevels r n → n.conductor ≡ conductor n.word
unfolding node_of
node_conductor r n at = ap (λ (m : Node). m.conductor) at.node

-- which is from 1 to 64
pub conductor_within : (r : ℕ) (n : Node) → NodeWithLevels r n → (1 ≤ n.conductor) × (n.conductor ≤ 64)
conductor_within r n at =
    let same = node_conductor r n at in
    (omega (arith, conductor_pos n.word), omega (arith, conductor_le_64 n.word at.levels.fits at.levels.closed (omega (arith, at.levels.few))))

-- and the 1s of its row 0 are as many as its word's right generators
pub node_generators : (r : ℕ) (n : Node) → NodeWithLevels r n → ones (first_row n) ≡ length (right_generators n.word)
node_generators r n at =
    ap (λ (m : Node). ones (first_row m)) at.node ∙ sym (first_row_count n.word at.levels.fits at.levels.closed (node_accepted r n at).few)

-- they stand at as many offsets, as row 0 is a number of 64 bits
pub node_offsets : (r : ℕ) (n : Node) → NodeWithLevels r n → length (positions (first_row n)) ≡ ones (first_row n)
node_offsets r n at =
    positions_ones (first_row n)
    (subst (λ (m : Node). first_row m < 2 ^ 64) (sym at.node) (first_row_fits n.word at.levels.fits at.levels.closed (node_accepted r n at).few))
