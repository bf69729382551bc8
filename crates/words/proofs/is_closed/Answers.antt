-- `words::is_closed` meets its contract: all gaps are below the least one that is a sum just where the set is closed under addition. Assumes
-- nothing.
use Prim.Native.Nat.{ℕ}
use mathlib.Core.Path.{sym, ◌∙◌}
use lib.Dec.{eqb}
use borrow.Author.Tests.{eqb-true, eq-eqb}
use Rattle.semigroups.specs.Words.{closed}
use Rattle.semigroups.proofs.Booleans.{true_together}
use Rattle.semigroups.proofs.GapSums.{possible_all}
use Rattle.words.proofs.is_closed.Goals as goal

pub returns : goal.returns
returns c =
    let w : ℕ = c.args.word in
    let (all, back) = possible_all w c.ranges.word.fits in
    let given = c.possible_gaps.ensures in
    true_together (eqb c.possible_gaps.result w) (closed w) (λ e. all (sym given ∙ eqb-true _ w e)) (λ t. eq-eqb _ w (given ∙ back t))
