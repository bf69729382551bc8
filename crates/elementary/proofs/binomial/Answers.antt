-- `elementary::binomial` meets its contract: one test of the addition rule, computed over the whole table, gives each entry.
-- Assumes nothing.
use mathlib.Core.Path.{refl}
use native.Mathlib.Omega.{arith}
use Rattle.elementary.proofs.Binomials.{follows_from, follows_rule, entry_binomial}
use Rattle.elementary.specs.declared.pascal.TheConstants.{PASCAL}
use Rattle.elementary.proofs.binomial.Goals as goal

-- the table is the constant of the code
pub returns : goal.returns
unfolding follows_from follows_rule
returns c = entry_binomial PASCAL refl c.args.n c.args.k (omega arith) (omega arith)
