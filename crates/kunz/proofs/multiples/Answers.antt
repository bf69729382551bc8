-- `kunz::multiples` meets its contract. Assumes nothing.
use native.Mathlib.Omega.{arith}
use Rattle.kunz.proofs.MultiplesFound.{multiples_none, multiples_next, multiples_all}
use Rattle.kunz.proofs.multiples.Goals as goal

pub loop-at-init : goal.loop-at-init
loop-at-init c = multiples_none c.args.m

pub loop-at-preserved : goal.loop-at-preserved
loop-at-preserved c = multiples_next _ _ _ c.requires.0 (omega arith) c.loop-at.invariant

pub returns : goal.returns
returns c = multiples_all _ _ _ (omega arith) c.loop-at.invariant

pub returns-2 : goal.returns-2
returns-2 c = multiples_all _ _ _ (omega arith) (multiples_next _ c.loop-at.bits c.loop-at.at c.requires.0 (omega arith) c.loop-at.invariant)
