-- `job_format::stands` meets its contract: a byte has no bit from number 8 on. Assumes nothing.
use mathlib.Core.Path.{refl, sym}
use native.Mathlib.Omega.{arith}
use Rattle.semigroups.specs.Words.{bit}
use Rattle.semigroups.proofs.Bits.{bit_past}
use Rattle.job_format.proofs.stands.Goals as goal

pub returns-then-at-ge8 : goal.returns-then-at-ge8
returns-then-at-ge8 c = sym (bit_past _ 8 _ (omega arith) c.if-at-ge8.true)

pub returns : goal.returns
unfolding bit
returns c = refl
