-- `windows::not_divided` meets its contract: no shift drops a bit, and the word is a difference of two sums of powers. Assumes nothing.
use Prim.Native.Nat.{ℕ, ◌+◌, ◌-◌, ◌*◌, ◌/◌, ◌%◌, ◌^◌, ◌≤◌}
use mathlib.Core.Path.{◌≡◌, ap₂}
use native.Mathlib.Omega.{arith}
use native.Mathlib.Nat.{mod-eq_of_lt}
use lib.Pow.{pow_mono}
use Rattle.semigroups.specs.Words.{word_of}
use Rattle.semigroups.proofs.Bits.{one_shl}
use Rattle.windows.specs.Windows.{not_divided}
use Rattle.windows.proofs.NotDivided.{passed_over, passed_over_room, not_divided_word}
use Rattle.windows.proofs.not_divided.Goals as goal

-- the three powers as they are shifted, and the word
module _ (g m : ℕ) (pre : (1 ≤ g) × (g ≤ 32) × (2 ≤ m) × (m ≤ g + 1)) where
  room : (m * passed_over g m ≤ 62) × (g + passed_over g m ≤ 63)
  room = passed_over_room g m pre.0 pre.1 pre.2

  divisor : 1 * 2 ^ m % 2 ^ 64 ≡ 2 ^ m
  divisor = one_shl m (omega arith)

  divisor_large : 4 ≤ 1 * 2 ^ m % 2 ^ 64
  divisor_large = let four : 2 ^ 2 ≤ 2 ^ m = pow_mono pre.2 in omega (arith, divisor)

  dividend : 1 * 2 ^ (m * passed_over g m) % 2 ^ 64 ≡ 2 ^ (m * passed_over g m)
  dividend = one_shl (m * passed_over g m) (omega (arith, room))

  top : 1 * 2 ^ (g + passed_over g m) % 2 ^ 64 ≡ 2 ^ (g + passed_over g m)
  top = one_shl (g + passed_over g m) (omega (arith, room))

  word : (1 * 2 ^ (m * passed_over g m) % 2 ^ 64 - 1) / (1 * 2 ^ m % 2 ^ 64 - 1) * 2 ^ (m - 1) % 2 ^ 64 + word_of (not_divided g m) + 1 ≡ 2 ^ (g + passed_over g m)
  word =
      let sum = not_divided_word g m pre.0 pre.1 pre.2 pre.3 in
      let small : 2 ^ (g + passed_over g m) ≤ 2 ^ 63 = pow_mono {j = 63} room.1 in
      let exact = mod-eq_of_lt {n = (2 ^ (m * passed_over g m) - 1) / (2 ^ m - 1) * 2 ^ (m - 1)} {m = 2 ^ 64} (omega arith) in
      omega (arith, ap₂ (λ (a b : ℕ). (a - 1) / (b - 1) * 2 ^ (m - 1) % 2 ^ 64) dividend divisor)

pub nonzero_div-multiples : goal.nonzero_div-multiples
nonzero_div-multiples c = omega (arith, divisor_large c.args.genus c.args.m c.requires)

pub overflow_sub-result-3 : goal.overflow_sub-result-3
overflow_sub-result-3 c = omega (arith, top c.args.genus c.args.m c.requires, word c.args.genus c.args.m c.requires)

pub returns : goal.returns
returns c = omega (arith, top c.args.genus c.args.m c.requires, word c.args.genus c.args.m c.requires)
