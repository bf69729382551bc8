-- `listing::headers` meets its contract: the lines are made in a list of their own first, so that their length is known. Assumes nothing.
use Rattle.std.proofs.Common.{◌≡◌, ℕ, ◌∙◌, sym, ap, ap₂, List, length, take, arith}
use Rattle.std.proofs.Math.Seq.{length-take-le}
use Rattle.semigroups.specs.Lists.{fronted}
use Rattle.semigroups.proofs.Lists.{fronted_front}
use Rattle.answers.specs.Answers.{giving}
use Rattle.answers.proofs.Answers.{lent_short, lent_enough}
use Rattle.listing.specs.Text.{header_lines, headers_of}
use Rattle.listing.specs.Writing.{Puts}
use Rattle.listing.proofs.Writing.{puts_front}
use Rattle.listing.proofs.headers.Goals as goal

-- the lines stand at the front of the list that they are made in
made : {lent lines : List ℕ} {end : ℕ} → Puts lent 0 header_lines lines end → (end ≡ length header_lines) × (take end lines ≡ header_lines)
made {lent} {lines} {end} p =
    let (ends, list) = puts_front p in
    (ends, ap₂ take ends list ∙ fronted_front header_lines lent)

pub returns-then-out-end : goal.returns-then-out-end
unfolding headers_of
returns-then-out-end c = sym (lent_short header_lines c.args.out.now (omega (arith, (made c.put_headers-end.ensures).0)))

pub slice_bounds-put_bytes-end : goal.slice_bounds-put_bytes-end
slice_bounds-put_bytes-end c = sym (length-take-le _ _ (omega arith))

pub put_bytes-requires : goal.put_bytes-requires
put_bytes-requires c = omega (arith, (made c.put_headers-end.ensures).0, ap length (made c.put_headers-end.ensures).1)

pub returns : goal.returns
unfolding headers_of
returns c =
    let (end, text) = made c.put_headers-end.ensures in
    ap₂ giving end ((puts_front c.put_bytes.ensures).1 ∙ ap (λ (t : List ℕ). fronted t c.args.out.now) text)
    ∙ sym (lent_enough header_lines c.args.out.now (omega (arith, end)))
