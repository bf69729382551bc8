-- `listing::put_headers` meets its contract. Assumes nothing.
use Rattle.std.proofs.Common.{◌≡◌, ℕ, sym, ap, arith}
use Rattle.semigroups.specs.Lists.{run, joined}
use Rattle.listing.specs.Text.{header_of, headers_to}
use Rattle.listing.proofs.Lines.{header_of_le}
use Rattle.listing.proofs.HeaderLines.{headers_next}
use Rattle.listing.proofs.Writing.{puts_nothing, puts_on, puts_as, puts_length}
use Rattle.listing.proofs.put_headers.Goals as goal

pub loop-genus-init : goal.loop-genus-init
unfolding run joined
loop-genus-init c = (omega arith, puts_nothing _ _ (omega arith))

pub put_header_of-next-requires : goal.put_header_of-next-requires
put_header_of-next-requires c = (omega arith, omega (arith, puts_length c.loop-genus.invariant.1))

pub loop-genus-preserved : goal.loop-genus-preserved
loop-genus-preserved c =
    let now = c.loop-genus in
    let put = c.put_header_of-next.ensures in (
      omega (arith, put.next, header_of_le now.genus (omega arith)),
      puts_as (sym (headers_next now.genus)) (puts_on now.invariant.1 put),
    )

pub shape_of-out : goal.shape_of-out
shape_of-out c = puts_length c.loop-genus.invariant.1

pub returns : goal.returns
unfolding headers_to
returns c =
    let all : c.loop-genus.genus ≡ 21 = omega arith in
    puts_as (ap (λ (g : ℕ). joined header_of (run 0 g)) all) c.loop-genus.invariant.1
