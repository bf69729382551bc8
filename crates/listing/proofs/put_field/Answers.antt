-- `listing::put_field` meets its contract: the byte stands where the number ends. Assumes nothing.
use Rattle.std.proofs.Common.{arith}
use Rattle.listing.specs.Text.{field}
use Rattle.listing.proofs.Lines.{length_field}
use Rattle.listing.proofs.Writing.{puts_on, puts_byte}
use Rattle.listing.proofs.put_field.Goals as goal

pub returns : goal.returns
unfolding field
returns c = puts_on c.put_number-next.ensures (puts_byte _ _ _ (omega (arith, length_field c.args.n c.args.end)))
