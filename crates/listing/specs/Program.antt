-- What the listing program writes for every input: only the line of a refusal, only header lines, or the pages of a listing. Assumes
-- nothing: these are definitions.
use Rattle.std.specs.Prelude.{ℕ, ◌≤◌, ◌≡◌, ◌⊎◌, true, length}
use mathlib.Core.List.{List, [], ◌∷◌, ◌++◌, Memᴰ}
use Rattle.semigroups.specs.Lists.{joined, fronted}
use Rattle.semigroups.specs.GenusList.{genus_list}
use Rattle.answers.specs.Answers.{refused, given, filled}
use Rattle.requests.specs.Request.{request_of}
use Rattle.requests.specs.declared.Request.TheVariants as R
use Rattle.listing.specs.Text.{listing_of, header_lines, headers_of, refusal_line, refusal_line_of, text_of}
use Rattle.listing.specs.Pages.{fresh_listing_of, PageCall, pages, wrote_bytes}
use Rattle.listing.specs.declared.Listing.{Listing}
use Rattle.listing.specs.declared.Page.{Page}

-- a refused input: the text is the line of the refusal, which the call for the line puts at the front of any list of 11 places
pub record RefusalText (input : List ℕ) : Type 0 where
  pub number : ℕ
  pub asked : request_of input ≡ refused number
  pub text : text_of input ≡ refusal_line number
  pub fits : length (text_of input) ≤ 11
  pub line : (lent : List ℕ) → 11 ≤ length lent → refusal_line_of number lent ≡ (given (length (text_of input)), fronted (text_of input) lent)

-- an input that asks for header lines alone, which is that of no bytes: the call for them puts them at the front of any list of 756 places
pub record HeadersText (input : List ℕ) : Type 0 where
  pub empty : input ≡ []
  pub asked : request_of input ≡ given R.Headers
  pub text : text_of input ≡ header_lines
  pub fits : length (text_of input) ≤ 756
  pub written : (lent : List ℕ) → 756 ≤ length lent → headers_of lent ≡ filled (text_of input) lent

-- an input that asks for a genus: the text is the listing of the genus, given page by page
pub record PagesText (input : List ℕ) : Type 0 where
  pub genus : ℕ
  pub small : genus ≤ 32
  pub asked : request_of input ≡ given (R.Listing genus)
  pub text : text_of input ≡ listing_of genus
  pub fresh : Listing
  pub fresh_answers : fresh_listing_of genus ≡ given fresh
  -- the pages up to one that says finished, where the program stops, are the text, whatever lists of at least 64 places are lent
  pub up_to_last : (lents : List (List ℕ)) → ((lent : List ℕ) → Memᴰ lent lents → 64 ≤ length lent)
      → (before after : List PageCall) (c : PageCall) → pages fresh lents ≡ before ++ c ∷ after
      → (page : Page) → c.turn.answer ≡ given page → page.finished ≡ true → joined wrote_bytes (before ++ c ∷ []) ≡ text_of input
  -- as many pages as there are semigroups of the genus are always enough: joined, they are the text
  pub all_pages : (lents : List (List ℕ)) → ((lent : List ℕ) → Memᴰ lent lents → 64 ≤ length lent)
      → length (genus_list genus) ≤ length lents → joined wrote_bytes (pages fresh lents) ≡ text_of input

-- for every input, one of the three
abbrev pub ProgramTexts : Type 0
ProgramTexts = (input : List ℕ) → RefusalText input ⊎ (HeadersText input ⊎ PagesText input)
