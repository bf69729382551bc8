-- Text written into a lent list of bytes from a place on, of which the private functions speak. Assumes nothing: these are definitions.
use Rattle.std.specs.Prelude.{ℕ, ◌+◌, ◌/◌, ◌%◌, ◌≤◌, ◌≡◌, List, [], ◌∷◌, length}
use Rattle.std.proofs.lemmas.List.Edits.{sets}
use Rattle.listing.specs.Decimal.{byte_of}

-- the two digits of a number below 100
unfoldable pub pair_of : ℕ → List ℕ
pair_of n = byte_of (n / 10) ∷ byte_of (n % 10) ∷ []

-- the list after is the list before with the text stored from the place `at` on, where it has its places, up to the place `end`
pub record Puts (before : List ℕ) (at : ℕ) (text after : List ℕ) (end : ℕ) : Type 0 where
  pub list : after ≡ sets before at text
  pub next : end ≡ at + length text
  pub within : at + length text ≤ length before
