-- What the listing program is asked by its input. Assumes nothing: these are definitions.
use Rattle.std.specs.Prelude.{ℕ, ◌-◌, Bool, cond, ◌&&◌, List, leb, eqb, length, take}
use Rattle.semigroups.specs.Lists.{none, every, last_or}
use Rattle.answers.specs.Answers.{Answer, refused, given, ask}
use Rattle.requests.specs.Digits.{line_feed, is_digit, value}
use Rattle.requests.specs.declared.Request.{Request}
use Rattle.requests.specs.declared.Request.TheVariants.{Headers, Listing}

-- the input without its last byte
abbrev pub all_but_last : List ℕ → List ℕ
all_but_last l = take (length l - 1) l

-- question 10: is the input exactly one or two digits and a line feed
unfoldable pub well_formed : List ℕ → Bool
well_formed input =
    let digits : List ℕ = all_but_last input in
    leb 1 (length digits) && leb (length digits) 2 && every is_digit digits && eqb (last_or 0 input) line_feed

-- a genus is asked for: question 3
abbrev pub genus_asked : ℕ → Answer Request
genus_asked g = ask (leb g 32) (refused 3) (given (Listing g))

-- what the input asks for: no bytes ask for header lines alone; of any other input, questions 10 and 3
unfoldable pub request_of : List ℕ → Answer Request
request_of input = cond (none input) (given Headers) (ask (well_formed input) (refused 10) (genus_asked (value (all_but_last input))))
