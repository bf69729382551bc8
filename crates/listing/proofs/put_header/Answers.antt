-- `listing::put_header` meets its contract: its parts are written one behind the other. Assumes nothing.
use Rattle.std.proofs.Common.{arith}
use Rattle.listing.specs.Text.{header}
use Rattle.listing.proofs.Lines.{header_parts, header_le}
use Rattle.listing.proofs.Writing.{puts_on}
use Rattle.listing.proofs.put_header.Goals as goal

pub put_field-second-requires : goal.put_field-second-requires
put_field-second-requires c =
    omega (arith, header_parts c.args.genus c.args.count, header_le c.args.genus c.args.count (omega arith) c.ranges.count.fits)

pub put_bytes-third-requires : goal.put_bytes-third-requires
put_bytes-third-requires c =
    omega (arith, header_parts c.args.genus c.args.count, header_le c.args.genus c.args.count (omega arith) c.ranges.count.fits)

pub put_field-requires : goal.put_field-requires
put_field-requires c =
    omega (arith, header_parts c.args.genus c.args.count, header_le c.args.genus c.args.count (omega arith) c.ranges.count.fits)

pub returns : goal.returns
unfolding header
returns c =
    puts_on (puts_on (puts_on c.put_bytes-first.ensures c.put_field-second.ensures) c.put_bytes-third.ensures)
    c.put_field.ensures
