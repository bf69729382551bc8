-- `words::genus_of` meets its contract: the standing bits are the gaps. Assumes nothing.
use native.Mathlib.Omega.{arith}
use lib.Count.{ones-le}
use Rattle.semigroups.proofs.Operations.{genus_ones}
use Rattle.words.proofs.genus_of.Goals as goal

pub overflow_cast-result : goal.overflow_cast-result
overflow_cast-result c = omega (arith, ones-le 64 c.args.word c.ranges.word.fits)

pub returns : goal.returns
returns c = omega (arith, genus_ones c.args.word c.ranges.word.fits)
