-- `jobs::map_for` meets its contract: the two bit maps, computed. Assumes nothing.
use mathlib.Core.Path.{refl}
use Rattle.semigroups.specs.Words.{digit, of_bits}
use Rattle.jobs.specs.Jobs.{map_for}
use Rattle.jobs.proofs.map_for.Goals as goal

pub returns-then-finished : goal.returns-then-finished
unfolding map_for of_bits digit
returns-then-finished c = rw c.if-finished.true refl

pub returns : goal.returns
unfolding map_for of_bits digit
returns c = rw c.if-finished.false refl
