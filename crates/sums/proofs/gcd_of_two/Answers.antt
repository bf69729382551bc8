-- `sums::gcd_of_two` meets its contract. Assumes nothing.
use Prim.Native.Nat.{ℕ}
use mathlib.Core.Path.{◌≡◌, sym, ap, ◌∙◌}
use native.Mathlib.Omega.{arith}
use Rattle.sums.specs.Divisors.{gcd}
use Rattle.sums.proofs.Divisors.{gcd_step, gcd_zero}
use Rattle.sums.proofs.gcd_of_two.Goals as goal

pub loop-y-preserved : goal.loop-y-preserved
loop-y-preserved c = sym (gcd_step c.loop-y.x c.loop-y.y) ∙ c.loop-y.invariant

pub returns : goal.returns
returns c =
    let x : ℕ = c.loop-y.x in
    let none : c.loop-y.y ≡ 0 = omega arith in
    sym (gcd_zero x) ∙ ap (gcd x) (sym none) ∙ c.loop-y.invariant
