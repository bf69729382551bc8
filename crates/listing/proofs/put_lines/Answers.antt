-- `listing::put_lines` meets its contract. Assumes nothing.
use Rattle.std.proofs.Common.{ℕ, ◌<◌, length, get_or, arith}
use Rattle.std.proofs.Math.Seq.{take_all}
use Rattle.semigroups.specs.Lists.{joined}
use Rattle.semigroups.proofs.Lists.{joined_more}
use Rattle.listing.specs.Text.{line_of}
use Rattle.listing.proofs.Lines.{line_le}
use Rattle.listing.proofs.Writing.{puts_nothing, puts_on, puts_length}
use Rattle.listing.proofs.put_lines.Goals as goal

pub loop-word-init : goal.loop-word-init
unfolding joined
loop-word-init c = (omega arith, puts_nothing _ _ (omega arith))

pub put_line-next-requires : goal.put_line-next-requires
put_line-next-requires c = omega (arith, puts_length c.loop-word.invariant.1)

pub loop-word-preserved : goal.loop-word-preserved
loop-word-preserved c =
    let now = c.loop-word in
    let words = c.args.words.now in
    let word : ℕ = get_or words now.word-index 0 in
    let within : now.word-index < length words = omega arith in
    let put = c.put_line-next.ensures in (
      omega (arith, put.next, line_le word (c.type_inv.words now.word-index).fits),
      rw (joined_more line_of words now.word-index 0 within) (puts_on now.invariant.1 put),
    )

pub shape_of-out : goal.shape_of-out
shape_of-out c = puts_length c.loop-word.invariant.1

pub returns : goal.returns
returns c =
    let all = take_all c.loop-word.word-index c.args.words.now (omega arith) in
    rw all at c.loop-word.invariant.1
