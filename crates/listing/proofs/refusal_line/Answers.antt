-- `listing::refusal_line` meets its contract. Assumes nothing.
use Rattle.std.proofs.Common.{ℕ, ◌<◌, ap, ap₂, List, ◌++◌, arith}
use borrow.Author.Tests.{lt-leb, le-leb}
use Rattle.answers.specs.Answers.{given}
use Rattle.answers.proofs.Answers.{number_range}
use Rattle.requests.specs.Digits.{line_feed}
use Rattle.listing.specs.Text.{field, refused_word, refusal_line, refusal_line_of}
use Rattle.listing.proofs.Lines.{field_le_3}
use Rattle.listing.proofs.Writing.{puts_as, puts_on, puts_front}
use Rattle.listing.proofs.refusal_line.Goals as goal

pub returns-then-out-lt11 : goal.returns-then-out-lt11
unfolding refusal_line_of
returns-then-out-lt11 c = rw (lt-leb 11 _ c.if-out-lt11.true)

pub put_field-end-requires : goal.put_field-end-requires
put_field-end-requires c =
    let few : c.number.result < 100 = omega (arith, number_range c.args.refusal) in
    omega (arith, field_le_3 c.number.result line_feed few)

pub returns : goal.returns
unfolding refusal_line_of refusal_line
returns c =
    let text = ap (λ (n : ℕ). refused_word ++ field n line_feed) c.number.ensures in
    let (end, list) = puts_front (puts_as text (puts_on c.put_bytes-next.ensures c.put_field-end.ensures)) in
    rw (le-leb 11 _ c.if-out-lt11.false) (ap₂ (λ (i : ℕ) (l : List ℕ). (given i, l)) end list)
