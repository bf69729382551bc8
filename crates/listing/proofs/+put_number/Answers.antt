-- `listing::put_number` meets its contract, by recursion on n: the digits of n are those of n / 100 and the last two, and are stored in that order. Assumes nothing.
use Rattle.std.proofs.Common.{length, ap, arith}
use Rattle.listing.specs.Writing.{pair_of}
use Rattle.listing.proofs.Decimal.{decimal_one, decimal_pair, decimal_pairs, length_pairs}
use Rattle.listing.proofs.Writing.{puts_on, puts_byte}
use Rattle.listing.proofs.+put_number.Goals as goal

pub bounds-out-at : goal.bounds-out-at
bounds-out-at t c = omega (arith, ap length (decimal_one c.args.n (omega arith)))

pub returns-then-n-lt10 : goal.returns-then-n-lt10
returns-then-n-lt10 t c =
    let one = decimal_one c.args.n (omega arith) in
    rw one (puts_byte _ _ _ (omega (arith, ap length one)))

pub put_pair-requires : goal.put_pair-requires
unfolding pair_of
put_pair-requires t c = omega (arith, ap length (decimal_pair c.args.n (omega arith) (omega arith)))

pub returns-then-n-lt100 : goal.returns-then-n-lt100
returns-then-n-lt100 t c = rw (decimal_pair c.args.n (omega arith) (omega arith)) c.put_pair.ensures

pub put_number-next-requires : goal.put_number-next-requires
put_number-next-requires t c = (omega arith, omega (arith, length_pairs c.args.n (omega arith) c.ranges.n.fits))

pub put_pair-requires-2 : goal.put_pair-requires-2
put_pair-requires-2 t c = omega (arith, length_pairs c.args.n (omega arith) c.ranges.n.fits)

pub returns : goal.returns
returns t c = rw (decimal_pairs c.args.n (omega arith) c.ranges.n.fits) (puts_on c.put_number-next.ensures c.put_pair-2.ensures)
