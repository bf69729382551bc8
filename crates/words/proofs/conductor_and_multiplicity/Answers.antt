-- `words::conductor_and_multiplicity` meets its contract: the highest standing bit is the largest gap, the lowest clear bit the least
-- positive element. Assumes nothing.
use Prim.Native.Nat.{ℕ, ◌+◌, ◌^◌, ◌≤◌, ◌<◌}
use native.Mathlib.Omega.{arith}
use native.Mathlib.Nat.{le_trans}
use lib.Dec.{lit≤}
use lib.Count.{leading_le, trailing_le}
use Rattle.semigroups.proofs.Operations.{conductor_leading, multiplicity_trailing}
use Rattle.words.proofs.conductor_and_multiplicity.Goals as goal

-- a count of bits is far below the numbers that 64 bits hold, and so is one more
bit_count_fits : {n : ℕ} → n ≤ 64 → (n < 2 ^ 64) × (n + 1 < 2 ^ 64)
bit_count_fits h = (omega arith, omega arith)

pub overflow_cast-conductor : goal.overflow_cast-conductor
overflow_cast-conductor c = record { fits = (bit_count_fits (leading_le 64 _)).0 }

pub overflow_sub-conductor : goal.overflow_sub-conductor
overflow_sub-conductor c = le_trans (leading_le 64 _) (lit≤ tt)

pub overflow_cast-multiplicity : goal.overflow_cast-multiplicity
overflow_cast-multiplicity c = record { fits = (bit_count_fits (trailing_le 64 _)).0 }

pub overflow_add-multiplicity : goal.overflow_add-multiplicity
overflow_add-multiplicity c = record { fits = (bit_count_fits (trailing_le 64 _)).1 }

pub returns : goal.returns
returns c =
    let word : ℕ = c.args.word in
    let fits = c.ranges.word.fits in
    (omega (arith, conductor_leading word fits), omega (arith, multiplicity_trailing word fits))
