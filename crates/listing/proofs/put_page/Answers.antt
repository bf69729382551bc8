-- `listing::put_page` meets its contract: the lines are written behind the header. Assumes nothing.
use Rattle.listing.proofs.Writing.{puts_on}
use Rattle.listing.proofs.put_page.Goals as goal

pub returns : goal.returns
returns c = puts_on c.put_heading-at.ensures c.put_lines.ensures
