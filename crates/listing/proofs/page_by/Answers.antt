-- `listing::page_by` meets its contract: a page is refused where the batch is, and has the lines of the words of the batch. Assumes nothing.
use Rattle.std.proofs.Common.{refl, sym, ◌∙◌, ap, ◌++◌, length, drop, arith}
use Rattle.std.proofs.Math.Seq.{length-take-le}
use Rattle.answers.specs.Answers.{Answer}
use Rattle.answers.proofs.Answers.{handed_on}
use Rattle.walk.specs.Walks.{Ending}
use Rattle.listing.specs.declared.Page.{Page}
use Rattle.listing.proofs.Pages.{page_refused, batch_given, page_short, lines_most, Batched, batched, batched_fits, page_by}
use Rattle.listing.proofs.Writing.{puts_front}
use Rattle.listing.proofs.page_by.Goals as goal
use Rattle.listing.proofs.page_by.Goals.{Else-out-lt64}

-- what the batch gave, where the list has room
batch : (c : Else-out-lt64) → Batched c.args.listing.now c.args.out.now (c.batch.new.out ++ drop c.lines_within-most.result c.args.words.now) c.in_ok-written.written c.batch.new.walk
batch c = batched _ _ _ _ c.requires c.if-out-lt64.false c.lines_within-most.ensures _ _ _ c.in_ok-written.ensures

pub slice_bounds-batch-end : goal.slice_bounds-batch-end
slice_bounds-batch-end c = omega (arith, lines_most c.args.listing.now.headed (length c.args.out.now))

pub slice_bounds-batch-end-2 : goal.slice_bounds-batch-end-2
slice_bounds-batch-end-2 c = sym (length-take-le _ _ (omega (arith, lines_most c.args.listing.now.headed (length c.args.out.now))))

pub returns-in_err-written : goal.returns-in_err-written
returns-in_err-written c =
    ap (λ (a : Answer Page). record { answer = a; listing = c.args.listing.now; list = c.args.out.now }) (handed_on _ _ c.from_residual.ensures.1 refl)
    ∙ sym (page_refused _ _ _ _ (sym (ap (λ (d : Ending). d.answer) c.in_err-written.ensures)))

pub returns-then-out-lt64 : goal.returns-then-out-lt64
returns-then-out-lt64 c =
    let (small, order) = batch_given _ _ _ (sym (ap (λ (d : Ending). d.answer) c.in_ok-written.ensures)) in
    sym (page_short _ _ small order c.if-out-lt64.true)

pub slice_bounds-put_page-end : goal.slice_bounds-put_page-end
slice_bounds-put_page-end c = (batch (goal.at.slice_bounds-put_page-end c).Else-out-lt64).within

pub slice_bounds-put_page-end-2 : goal.slice_bounds-put_page-end-2
slice_bounds-put_page-end-2 c = sym (length-take-le _ _ (batch (goal.at.slice_bounds-put_page-end-2 c).Else-out-lt64).within)

pub put_page-bytes-requires : goal.put_page-bytes-requires
put_page-bytes-requires c =
    let b = batch (goal.at.put_page-bytes-requires c).Else-out-lt64 in
    record { genus_bound = (b.small, omega arith); words_in_bounds = batched_fits _ _ _ c.if-out-lt64.false _ _ b }

pub returns : goal.returns
returns c = page_by _ _ _ c.if-out-lt64.false _ _ (batch (goal.at.returns c).Else-out-lt64) (puts_front c.put_page-bytes.ensures)
