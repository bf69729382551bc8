-- `list::write_headers` is safe: the lines have their places. Assumes nothing.
use Rattle.std.proofs.Common.{sym, arith}
use lib.Seq.{length-take-le}
use Rattle.listing.proofs.HeaderLines.{headers_given}
use Rattle.list.proofs.write_headers.Goals as goal

pub slice_bounds-lines-end : goal.slice_bounds-lines-end
slice_bounds-lines-end g c = omega (arith, headers_given _ _ c.headers.ensures c.in-Ok.is)

pub slice_bounds-write_all-end : goal.slice_bounds-write_all-end
slice_bounds-write_all-end g c =
    let within = headers_given _ _ c.headers.ensures c.in-Ok.is in
    sym (length-take-le _ _ (omega arith))
