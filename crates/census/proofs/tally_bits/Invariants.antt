-- What is left to count makes, with what was counted, all that there is to count.
use Rattle.std.proofs.Common.{◌+◌}
use Rattle.semigroups.specs.Positions.{positions}
use Rattle.nodes.specs.NewGaps.{Upper}
use Rattle.census.proofs.Tallies.{Tallying}
use Rattle.census.proofs.tally_bits.Given as goal

abbrev pub invariant-loop-low : goal.invariant-loop-low
invariant-loop-low l = Upper l.bits l.low-iterator.0 × Tallying (λ i. l.first + i) (positions l.bits) (positions l.low-iterator.0) l.initial.out l.out
