use Rattle.nodes.specs.NewGaps.{gap_branches, Upper}
use Rattle.lending.proofs.Lending.{Putting}
use Rattle.descendants.proofs.put_great_grandchildren.Given as goal

abbrev pub invariant-loop-low : goal.invariant-loop-low
invariant-loop-low l = Upper l.generators l.low-iterator.0 × Putting (gap_branches 2 l.w) l.generators l.initial.out l.initial.at l.low-iterator.0 l.out l.at
