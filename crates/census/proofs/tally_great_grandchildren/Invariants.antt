-- What is left to count makes, with what was counted, all that there is to count, and the bits that are left are the generators from one of them on.
use Rattle.census.proofs.RowPlaces.{TallyingGaps}
use Rattle.census.proofs.tally_great_grandchildren.Given as goal

abbrev pub invariant-loop-low : goal.invariant-loop-low
invariant-loop-low l = TallyingGaps 2 l.w l.generators l.initial.out l.low-iterator.0 l.out
