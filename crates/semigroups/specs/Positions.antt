-- The positions of the standing bits of a number, by which `tables` says the lowest of some offsets, and sets of 64 numbers as bits, of which
-- private functions of the crates above speak. Assumes nothing: these are definitions.
use Rattle.std.specs.Prelude.{ℕ, ◌+◌, ◌*◌, ◌/◌, ◌^◌, List, map}
use Rattle.semigroups.specs.Lists.{run, keep}
use Rattle.semigroups.specs.Sets.{Set}
use Rattle.semigroups.specs.Words.{bit, of_bits}

-- the positions of the standing bits of a number of 64 bits, in rising order
unfoldable pub positions : ℕ → List ℕ
positions n = keep (bit n) (run 0 64)

-- n with its bits up to position d cleared
abbrev pub above : ℕ → ℕ → ℕ
above n d = n / 2 ^ (d + 1) * 2 ^ (d + 1)

-- the 64 numbers from `first` on as bits: bit i tells whether first + i is in S
unfoldable pub bits_from : Set → ℕ → ℕ
bits_from S first = of_bits (map S (run first 64))
