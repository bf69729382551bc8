-- `walk::fresh` meets its contract: it sets the window from 1 to 33. Assumes nothing.
use Rattle.walk.specs.Walks.{fresh_of}
use Rattle.walk.proofs.fresh.Goals as goal

pub returns : goal.returns
unfolding fresh_of
returns c = c.fresh_in.ensures
