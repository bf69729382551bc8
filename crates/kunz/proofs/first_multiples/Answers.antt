-- `kunz::first_multiples` meets its contract. Assumes nothing.
use Prim.Native.Nat.{ℕ, ◌*◌, ◌-◌}
use mathlib.Core.Path.{sym, ap, ◌∙◌}
use native.Mathlib.Omega.{arith}
use native.Mathlib.Nat.{mod-eq_of_lt, lt_of_lt_of_le}
use lib.Bits.{bit_and, and_mask}
use lib.Pow.{pow_mono}
use Rattle.semigroups.proofs.Bits.{one_shl}
use Rattle.kunz.proofs.first_multiples.Goals as goal

pub returns-then-end-ge64 : goal.returns-then-end-ge64
returns-then-end-ge64 c = sym (mod-eq_of_lt (lt_of_lt_of_le c.ranges.places.fits (pow_mono {i = 64} c.if-end-ge64.true)))

pub returns : goal.returns
returns c =
    let end : ℕ = c.args.m * c.args.x in
    let places : ℕ = c.args.places in
    ap (λ (n : ℕ). bit_and places (n - 1)) (one_shl end (omega arith)) ∙ and_mask places end
