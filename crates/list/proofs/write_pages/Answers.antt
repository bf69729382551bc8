-- `list::write_pages` is safe, as each page has its places in the list, and ends. Assumes nothing.
use Rattle.std.proofs.Common.{sym, ap, arith}
use lib.Seq.{length-take-le}
use Rattle.answers.specs.Answers.{answered}
use Rattle.listing.proofs.Pages.{page_bytes, page_falls}
use Rattle.list.proofs.write_pages.Goals as goal

pub slice_bounds-out-end : goal.slice_bounds-out-end
slice_bounds-out-end g c =
    let within = page_bytes _ _ _ c.next_page.ensures (ap answered c.in-Ok.is) (omega arith) in
    omega arith

pub slice_bounds-write_all-end : goal.slice_bounds-write_all-end
slice_bounds-write_all-end g c =
    let within = page_bytes _ _ _ c.next_page.ensures (ap answered c.in-Ok.is) (omega arith) in
    sym (length-take-le _ _ (omega arith))

pub loop-page-smaller : goal.loop-page-smaller
loop-page-smaller g c =
    page_falls _ _ _ c.next_page.ensures (ap answered c.in-Ok.is) (omega arith) c.if-page.false
