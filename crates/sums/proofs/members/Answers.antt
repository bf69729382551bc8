-- `sums::members` meets its contract. Assumes nothing.
use Prim.Native.Nat.{ℕ}
use mathlib.Core.Path.{refl, sym, ap, ap₂, fun_ext, ◌∙◌}
use native.Mathlib.Omega.{arith}
use lib.Bits.{bit_or}
use lib.Dec.{eqb}
use lib.ListN.{take, get_or}
use Rattle.semigroups.specs.Lists.{every, member_of}
use Rattle.semigroups.specs.Sets.{Set}
use Rattle.semigroups.specs.Positions.{bits_from}
use Rattle.semigroups.proofs.Membership.{member_more}
use Rattle.semigroups.proofs.BitSets.{bits_from_none, bits_from_or}
use Rattle.sums.proofs.members.Goals as goal

pub loop-a-init : goal.loop-a-init
unfolding member_of every
loop-a-init c = bits_from_none _ _ (λ x low high. refl)

pub loop-a-preserved : goal.loop-a-preserved
loop-a-preserved c =
    let l = c.args.list.now in
    let first : ℕ = c.args.first in
    let i : ℕ = c.loop-a.a-index in
    ap₂ bit_or c.loop-a.invariant (c.bit_from-bits.ensures ∙ ap (λ (a : ℕ). bits_from (eqb a) first) c.from.ensures)
    ∙ bits_from_or (member_of (take i l)) (eqb (get_or l i 0)) first
    ∙ ap (λ (S : Set). bits_from S first) (sym (fun_ext (λ x. member_more l i x (omega arith))))
