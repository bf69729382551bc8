-- `totals::search` ends: the next place to try goes up to 64.
use Rattle.std.proofs.Common.{◌-◌}
use Rattle.totals.proofs.+search.Given as goal

abbrev pub decreases-search : goal.decreases-search
decreases-search l = 64 - l.x
