-- `descendants::put_children` meets its contract: the offsets, moved up to the conductor, are the new gaps. Assumes nothing.
use native.Mathlib.Omega.{arith}
use Rattle.nodes.proofs.Levels.{conductor_within}
use Rattle.nodes.proofs.NewGaps.{node_gaps}
use Rattle.descendants.proofs.NewWords.{gap_words}
use Rattle.descendants.proofs.put_children.Goals as goal

pub overflow_sub-n : goal.overflow_sub-n
overflow_sub-n c = (conductor_within 1 _ c.requires.node_with_levels).0

pub overflow_shl-row : goal.overflow_shl-row
overflow_shl-row c = omega (arith, conductor_within 1 _ c.requires.node_with_levels)

pub returns : goal.returns
returns c =
    let gaps = node_gaps 0 _ _ c.requires.node_with_levels c.requires.offsets in
    rw (← gaps.0, ← gap_words _ _ gaps.1) c.put_bits.ensures
