-- `sums::bit_from` meets its contract. Assumes nothing.
use Prim.Native.Nat.{ℕ, ◌+◌, ◌-◌}
use mathlib.Core.Path.{◌≡◌, ap, ◌∙◌}
use native.Mathlib.Omega.{arith}
use lib.Dec.{eqb}
use borrow.Author.Tests.{ne_eqb}
use Rattle.semigroups.specs.Positions.{bits_from}
use Rattle.semigroups.proofs.Bits.{one_shl}
use Rattle.semigroups.proofs.BitSets.{bits_from_none, bits_from_one}
use Rattle.sums.proofs.bit_from.Goals as goal

pub returns-then-a-first : goal.returns-then-a-first
returns-then-a-first c = bits_from_none (eqb c.args.a) c.args.first (λ x low high. ne_eqb _ x (λ e. omega arith))

pub returns-then-place-ge64 : goal.returns-then-place-ge64
returns-then-place-ge64 c = bits_from_none (eqb c.args.a) c.args.first (λ x low high. ne_eqb _ x (λ e. omega arith))

pub returns : goal.returns
returns c =
    let a : ℕ = c.args.a in
    let first : ℕ = c.args.first in
    let whole : first + (a - first) ≡ a = omega arith in
    one_shl (a - first) (omega arith) ∙ bits_from_one first (a - first) (omega arith) ∙ ap (λ (x : ℕ). bits_from (eqb x) first) whole
