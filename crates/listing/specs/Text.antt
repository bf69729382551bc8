-- The text of a listing, of header lines alone and of a refusal, as bytes; what the listing program writes for an input; and a text by its
-- lines. Assumes nothing: these are definitions.
use Rattle.std.specs.Prelude.{ℕ, suc, cond, List, [], ◌∷◌, ◌++◌, leb, eqb, length, get_or}
use Rattle.semigroups.specs.Lists.{run, joined, fronted}
use Rattle.semigroups.specs.Words.{reported_conductor}
use Rattle.semigroups.specs.Elements.{multiplicity}
use Rattle.semigroups.specs.GenusList.{genus_list}
use Rattle.answers.specs.Answers.{Answer, refused, given, ask, ListAnswer, into_lent}
use Rattle.requests.specs.Digits.{line_feed}
use Rattle.requests.specs.Request.{request_of}
use Rattle.requests.specs.declared.Request.{Request}
use Rattle.requests.specs.declared.Request.TheVariants as R
use Rattle.listing.specs.Decimal.{decimal}

-- the byte between fields
abbrev pub blank : ℕ
blank = 32

-- a number in decimal and the byte that ends it
unfoldable pub field : ℕ → ℕ → List ℕ
field n end = decimal n ++ end ∷ []

-- the words "genus", "count" and "refused", each with a blank
abbrev pub genus_word : List ℕ
genus_word = 103 ∷ 101 ∷ 110 ∷ 117 ∷ 115 ∷ blank ∷ []

abbrev pub count_word : List ℕ
count_word = 99 ∷ 111 ∷ 117 ∷ 110 ∷ 116 ∷ blank ∷ []

abbrev pub refused_word : List ℕ
refused_word = 114 ∷ 101 ∷ 102 ∷ 117 ∷ 115 ∷ 101 ∷ 100 ∷ blank ∷ []

-- a header with a genus and a count
unfoldable pub header : ℕ → ℕ → List ℕ
header genus count = genus_word ++ field genus blank ++ count_word ++ field count line_feed

-- the header of genus g: the genus and the number of its semigroups
unfoldable pub header_of : ℕ → List ℕ
header_of g = header g (length (genus_list g))

-- the line of a semigroup: its word, the reported conductor and the multiplicity
unfoldable pub line_of : ℕ → List ℕ
line_of w = field w blank ++ field (reported_conductor w) blank ++ field (multiplicity w) line_feed

-- the listing of genus g: the header, and the lines of all semigroups of the genus in list order
unfoldable pub listing_of : ℕ → List ℕ
listing_of g = header_of g ++ joined line_of (genus_list g)

-- the header lines of genus 0 to n, in order
unfoldable pub headers_to : ℕ → List ℕ
headers_to n = joined header_of (run 0 (suc n))

-- those that are written where no genus is asked for: of genus 0 to 20
abbrev pub header_lines : List ℕ
header_lines = headers_to 20

-- those in a lent list: question 6, does it hold all of them
unfoldable pub headers_of : List ℕ → ListAnswer
headers_of lent = into_lent header_lines lent

-- the line of a refusal with the number n
unfoldable pub refusal_line : ℕ → List ℕ
refusal_line n = refused_word ++ field n line_feed

-- the line of a refusal with the number n in a list that has 11 places: its length, and the list afterwards; else question 6
unfoldable pub refusal_line_of : ℕ → List ℕ → Answer ℕ × List ℕ
refusal_line_of n lent = ask (leb 11 (length lent)) (refused 6, lent) (given (length (refusal_line n)), fronted (refusal_line n) lent)

-- ---- the text for an input

-- the line of a refusal, the header lines of genus 0 to 20, or the listing of the genus
unfoldable pub answer_text : Answer Request → List ℕ
answer_text (refused n) = refusal_line n
answer_text (given R.Headers) = header_lines
answer_text (given (R.Listing g)) = listing_of g

-- what the program writes for an input
unfoldable pub text_of : List ℕ → List ℕ
text_of input = answer_text (request_of input)

-- ---- a text by its lines

-- a byte in front of the first of some lines; a line of its own where there are none
unfoldable pub onto_first : ℕ → List (List ℕ) → List (List ℕ)
onto_first b [] = (b ∷ []) ∷ []
onto_first b (line ∷ lines) = (b ∷ line) ∷ lines

-- the lines of a text, each with the line feed that ends it
unfoldable pub lines_of : List ℕ → List (List ℕ)
lines_of [] = []
lines_of (b ∷ text) = cond (eqb b line_feed) ((b ∷ []) ∷ lines_of text) (onto_first b (lines_of text))

-- the first line of a text; no bytes where it has none
unfoldable pub first_line : List ℕ → List ℕ
first_line text = get_or (lines_of text) 0 []
