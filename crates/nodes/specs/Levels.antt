-- Words and nodes with levels of the tree below them, up to genus 32: what private functions of `tables`, `walk`, `generators`, `search` and
-- `census` require. Assumes nothing: these are definitions.
use Rattle.std.specs.Prelude.{◌≡◌, ℕ, ◌+◌, ◌^◌, ◌<◌, ◌≤◌, true}
use Rattle.semigroups.specs.Words.{genus, closed}
use Rattle.nodes.specs.Nodes.{node_of}
use Rattle.nodes.specs.declared.Node.{Node}

-- w is a closed word of 64 bits with r levels below it up to genus 32
pub record Levels (r w : ℕ) : Type 0 where
  pub fits : w < 2 ^ 64
  pub closed : closed w ≡ true
  pub few : genus w + r ≤ 32

-- n is the node of such a word
pub record NodeWithLevels (r : ℕ) (n : Node) : Type 0 where
  pub node : n ≡ node_of n.word
  pub levels : Levels r n.word
