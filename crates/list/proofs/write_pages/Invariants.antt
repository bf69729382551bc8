-- `list::write_pages` ends: with each page that is not the last, fewer semigroups are left.
use Rattle.std.proofs.Common.{◌≡◌, length}
use Rattle.walk.specs.Walks.{rest}
use Rattle.list.proofs.write_pages.Given as goal

abbrev pub invariant-loop-page : goal.invariant-loop-page
invariant-loop-page g l = length l.out ≡ 65536

abbrev pub decreases-loop-page : goal.decreases-loop-page
decreases-loop-page g l = length (rest l.listing.walk)
