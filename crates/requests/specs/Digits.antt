-- Bytes of digits, the number that they say, and the byte of a line feed. Assumes nothing: these are definitions.
use Rattle.std.specs.Prelude.{ℕ, ◌+◌, ◌-◌, ◌*◌, Bool, ◌&&◌, List, [], ◌∷◌, leb}

-- the byte at the end of a line
abbrev pub line_feed : ℕ
line_feed = 10

-- is the byte that of a digit
unfoldable pub is_digit : ℕ → Bool
is_digit b = leb 48 b && leb b 57

-- the number that bytes of digits say, the most significant first, behind those that say n
unfoldable pub value_after : ℕ → List ℕ → ℕ
value_after n [] = n
value_after n (b ∷ l) = value_after (n * 10 + (b - 48)) l

-- the number that bytes of digits say
abbrev pub value : List ℕ → ℕ
value = value_after 0
