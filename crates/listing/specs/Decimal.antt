-- Numbers in decimal, as bytes. Assumes nothing: these are definitions.
use Rattle.std.specs.Prelude.{ℕ, zero, suc, ◌+◌, ◌/◌, ◌%◌, cond, List, [], ◌∷◌, ◌++◌, ltb}

-- the byte of a digit
abbrev pub byte_of : ℕ → ℕ
byte_of d = 48 + d

-- the digits of n as bytes, the most significant first, of which there are at most k
unfoldable pub digits : ℕ → ℕ → List ℕ
digits zero n = []
digits (suc k) n = cond (ltb n 10) (byte_of n ∷ []) (digits k (n / 10) ++ byte_of (n % 10) ∷ [])

-- a number of 64 bits in decimal: it has at most 20 digits
unfoldable pub decimal : ℕ → List ℕ
decimal n = digits 20 n
