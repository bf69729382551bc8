-- `walk::start` meets its contract: it sets the window from 1 to 33. Assumes nothing.
use Rattle.walk.specs.Walks.{start_of}
use Rattle.walk.proofs.start.Goals as goal

pub returns : goal.returns
unfolding start_of
returns c = c.start_in.ensures
