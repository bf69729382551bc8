-- An input of no bytes: what request 2026-14 says of it, as one statement. Assumes nothing: these are definitions.
use Rattle.std.specs.Prelude.{ℕ, ◌≤◌, ◌≡◌, ◌↔◌, false, List, [], ◌∷◌, map}
use Rattle.semigroups.specs.Lists.{run}
use Rattle.answers.specs.Answers.{refused, given}
use Rattle.counts.specs.Counts.{count_of}
use Rattle.requests.specs.Digits.{line_feed}
use Rattle.requests.specs.Request.{well_formed, request_of}
use Rattle.requests.specs.declared.Request.TheVariants as R
use Rattle.listing.specs.Text.{header, listing_of, header_lines, text_of, lines_of, first_line}

-- the sentences of the request, for every input
pub record NoInput : Type 0 where
  -- an input of no bytes, and no other, asks for header lines alone
  pub asked_iff : (input : List ℕ) → (request_of input ≡ given R.Headers) ↔ (input ≡ [])
  -- its text has 21 lines: the first lines of the listings of genus 0 to 20, in order, and so no semigroups
  pub text : text_of [] ≡ header_lines
  pub lines : lines_of (text_of []) ≡ map (λ g. first_line (listing_of g)) (run 0 21)
  -- each has the genus and the number that the count call gives for it, as in a full listing
  pub counts : (g : ℕ) → g ≤ 32 → (n : ℕ) × (count_of 0 g ≡ given n) × (first_line (listing_of g) ≡ header g n)
  -- every other malformed input is refused 10
  pub malformed_iff : (input : List ℕ) → (request_of input ≡ refused 10) ↔ ((¬ (input ≡ [])) × (well_formed input ≡ false))
  -- a lone line feed among them
  pub line_feed_refused : request_of (line_feed ∷ []) ≡ refused 10
