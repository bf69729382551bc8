-- `Subtree::of_genus` gives a part of the tree: the word 0 has so many levels below it. Assumes nothing.
use Rattle.std.proofs.Common.{sym, subst, arith}
use Rattle.nodes.specs.Levels.{NodeWithLevels}
use Rattle.nodes.proofs.Levels.{root_levels}
use Rattle.nodes.proofs.subtree.Subtree.of_genus.Goals as goal

pub invariant_of-result : goal.invariant_of-result
invariant_of-result c = record { levels = subst (NodeWithLevels _) (sym c.root.ensures) (root_levels _ (omega (arith, c.min.ensures))) }
