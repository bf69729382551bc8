-- `words::possible_gaps` meets its contract: the sums that are gaps are taken away element by element. Assumes nothing.
use Prim.Native.Nat.{ℕ, ◌+◌, ◌*◌, ◌-◌, ◌/◌, ◌%◌, ◌^◌, ◌≤◌, ◌<◌}
use mathlib.Core.Path.{◌≡◌, sym, ap, subst, ◌∙◌}
use mathlib.Core.Bool.{not}
use mathlib.Core.Logic.{inl, inr}
use native.Mathlib.Omega.{arith}
use lib.Count.{trailing_le, count_trailing_zeros}
use lib.Pow.{pow_pos, shr-shr}
use lib.Bits.{and_mask}
use lib.Dec.{eqb}
use Rattle.semigroups.specs.Words.{set_of}
use Rattle.semigroups.proofs.Bits.{bit_first, one_shl}
use Rattle.semigroups.proofs.Operations.{complement}
use Rattle.semigroups.proofs.GapSums.{sums_among, next_element, possible_none, Tried, tried_none, tried_less, tried_same, tried_left}
use Rattle.words.proofs.possible_gaps.Goals as goal
use Rattle.words.proofs.possible_gaps.Goals.{then-sums-ne0, else-sums-ne0, Then-sums-ne0, Joined-sums-ne0, Else-left-a-eq0}

-- the lowest of the sums that are gaps, as a bit
lower : (c : Then-sums-ne0)
    → let zeros = count_trailing_zeros 64 (sums_among c.args.word c.loop-a.a c.loop-a.left) in
    (zeros < 64) × (1 ≤ 1 * 2 ^ zeros % 2 ^ 64)
lower c =
    let loop = c.loop-a in
    let zeros : ℕ = count_trailing_zeros 64 (sums_among c.args.word loop.a loop.left) in
    let (h, t) = tried_less _ c.ranges.word.fits _ _ loop.invariant c.if-sums-ne0.true in
    (h, omega (arith, one_shl zeros h, pow_pos zeros))

-- the sums with `a` are tried, and the element after it is next
tried : (c : Joined-sums-ne0)
    → let w = c.args.word in Tried w (next_element w c.loop-a.a) c.if-sums-ne0.left
tried c =
    let fits = c.ranges.word.fits in
    let inv = c.loop-a.invariant in
    elim c.if-sums-ne0.branch [
      | then-sums-ne0 w ↦ subst (Tried _ _) (sym w.left-is) (tried_less _ fits _ _ inv w.if-sums-ne0.true).1
      | else-sums-ne0 w ↦ subst (Tried _ _) (sym w.left-is) (tried_same _ fits _ _ inv w.if-sums-ne0.false)
    ]

-- the zeros below the next element
zeros_le : (c : Else-left-a-eq0)
    → count_trailing_zeros 64 (complement c.args.word / 2 ^ c.loop-a.a) ≤ 64
zeros_le c = trailing_le 64 _

-- 1 is an element where the last bit does not stand
pub returns-then-word-eq0 : goal.returns-then-word-eq0
unfolding set_of
returns-then-word-eq0 c =
    let w : ℕ = c.args.word in
    let even : w % 2 ≡ 0 = sym (and_mask w 1) ∙ c.if-word-eq0.true in
    possible_none w c.ranges.word.fits (ap not (bit_first w ∙ ap (λ (n : ℕ). eqb n 1) even))

pub loop-a-init : goal.loop-a-init
loop-a-init c =
    let w : ℕ = c.args.word in
    subst (λ (m : ℕ). Tried w m w) (sym c.multiplicity_of-a.ensures) (tried_none w c.ranges.word.fits)

pub overflow_cast-left : goal.overflow_cast-left
overflow_cast-left c = omega (arith, (lower (goal.at.overflow_cast-left c).Then-sums-ne0).0)

pub overflow_shl-left : goal.overflow_shl-left
overflow_shl-left c = (lower (goal.at.overflow_shl-left c).Then-sums-ne0).0

pub overflow_sub-left : goal.overflow_sub-left
overflow_sub-left c = (lower (goal.at.overflow_sub-left c).Then-sums-ne0).1

-- no gap of at least twice the number after `a` is left
pub returns-then-left-a-eq0 : goal.returns-then-left-a-eq0
returns-then-left-a-eq0 c =
    let a : ℕ = c.loop-a.a in
    let twice : 2 * (a + 1) - 1 ≡ a + (a + 1) = omega arith in
    tried_left _ c.ranges.word.fits _ _ (tried (goal.at.returns-then-left-a-eq0 c).Joined-sums-ne0) (a + 1) (omega arith) (omega arith)
    (inr (ap (λ (n : ℕ). c.if-sums-ne0.left / 2 ^ n) twice ∙ sym (shr-shr c.if-sums-ne0.left a (a + 1)) ∙ c.if-left-a-eq0.true))

pub overflow_cast-a : goal.overflow_cast-a
overflow_cast-a c = omega (arith, zeros_le (goal.at.overflow_cast-a c).Else-left-a-eq0)

pub overflow_add-a-in-loop-a : goal.overflow_add-a-in-loop-a
overflow_add-a-in-loop-a c = omega (arith, zeros_le (goal.at.overflow_add-a-in-loop-a c).Else-left-a-eq0)

pub overflow_add-a-in-loop-a-2 : goal.overflow_add-a-in-loop-a-2
overflow_add-a-in-loop-a-2 c = omega (arith, zeros_le (goal.at.overflow_add-a-in-loop-a-2 c).Else-left-a-eq0)

pub loop-a-preserved : goal.loop-a-preserved
loop-a-preserved c = tried (goal.at.loop-a-preserved c).Joined-sums-ne0

pub returns : goal.returns
returns c =
    let loop = c.loop-a in
    tried_left _ c.ranges.word.fits _ _ loop.invariant loop.a loop.invariant.positive (omega arith) (inl (omega arith))
