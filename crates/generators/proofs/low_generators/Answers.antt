-- `generators::low_generators` meets its contract. Assumes nothing.
use Prim.Native.Nat.{ℕ, ◌*◌, ◌-◌, ◌%◌, ◌^◌}
use mathlib.Core.Path.{refl, ap, ◌∙◌}
use mathlib.Core.List.{[]}
use native.Mathlib.Omega.{arith}
use lib.Bits.{bit_and}
use Rattle.semigroups.proofs.Elements.{conductor_pos}
use Rattle.seeds.proofs.Seeds.{below_in}
use Rattle.generators.proofs.LowGenerators.{below_conductor, below_bits, sums_none, next_element, sums_next, low_bits_found}
use Rattle.generators.proofs.low_generators.Goals as goal

pub overflow_sub-elements : goal.overflow_sub-elements
overflow_sub-elements c = omega (arith, conductor_pos c.args.word)

pub loop-low-init : goal.loop-low-init
loop-low-init c =
    let w : ℕ = c.args.word in
    rw c.into_iter-low-iterator.ensures.into_iter_gives
    record {
      elements = ap (λ (n : ℕ). bit_and (2 ^ 64 - 1 - w) (1 * 2 ^ (n - 1) % 2 ^ 64 - 1)) c.requires.0 ∙ below_bits w c.ranges.word.fits (omega arith);
      passed = [];
      split = refl;
      found = sums_none (below_conductor w);
    }

pub overflow_shl-sums : goal.overflow_shl-sums
overflow_shl-sums c = omega (arith, (below_in _ _ _ (next_element c.loop-low.invariant c.in-Some.ensures.steps.0)).1)

pub loop-low-preserved : goal.loop-low-preserved
loop-low-preserved c = rw c.in-Some.ensures.steps.1 (sums_next c.loop-low.invariant c.in-Some.ensures.steps.0)

pub returns : goal.returns
returns c = low_bits_found c.args.word (rw c.in-None.ensures.steps.0 at c.loop-low.invariant)
