-- `Window::contains` meets its contract: two tests. Assumes nothing.
use Rattle.std.proofs.Common.{arith}
use Rattle.std.proofs.lemmas.Bool.Decides.{nat_tests}
use Rattle.windows.specs.Windows.{within}
use Rattle.windows.proofs.Window.contains.Goals as goal

pub returns : goal.returns
unfolding within
returns c = grind (arith, nat_tests)
