-- `sums::is_sum` meets its contract: each answer computes by the tests that led there. Assumes nothing.
use borrow.Author.Tests.{eq-eqb, le-leb}
use Rattle.semigroups.proofs.Bits.{bit_test}
use Rattle.sums.proofs.is_sum.Goals as goal

pub returns : goal.returns
returns c = simp (eq-eqb _ 0 c.if-seen-low-ne0.false, le-leb 64 _ c.if-k-lt64.false) (bit_test _ _)
