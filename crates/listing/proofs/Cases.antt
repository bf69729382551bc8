-- Known listings. Assumes nothing.
use Prim.Native.Nat.{ℕ}
use mathlib.Core.Path.{◌≡◌, refl, ap}
use mathlib.Core.List.{List, [], ◌∷◌, ◌++◌}
use native.Mathlib.Omega.{arith}
use lib.ListN.{length}
use Rattle.semigroups.specs.Lists.{none, run, keep, keep_if, every, joined, last_or}
use Rattle.semigroups.specs.Words.{bit, set_of, gaps, largest_gap, conductor, reported_conductor}
use Rattle.semigroups.specs.Elements.{multiplicity}
use Rattle.semigroups.proofs.Cases.{known_list}
use Rattle.requests.specs.Digits.{is_digit, value_after}
use Rattle.requests.specs.Request.{well_formed, request_of}
use Rattle.listing.specs.Decimal.{digits, decimal}
use Rattle.listing.specs.Text.{field, header, header_of, line_of, listing_of, headers_to, refusal_line, answer_text, text_of}

-- the header lines of genus 0 to 4:
--     genus 0 count 1
--     genus 1 count 1
--     genus 2 count 2
--     genus 3 count 4
--     genus 4 count 7
pub known_headers : headers_to 4
    ≡ (103 ∷ 101 ∷ 110 ∷ 117 ∷ 115 ∷ 32 ∷ 48 ∷ 32 ∷ 99 ∷ 111 ∷ 117 ∷ 110 ∷ 116 ∷ 32 ∷ 49 ∷ 10 ∷ [])
    ++ (103 ∷ 101 ∷ 110 ∷ 117 ∷ 115 ∷ 32 ∷ 49 ∷ 32 ∷ 99 ∷ 111 ∷ 117 ∷ 110 ∷ 116 ∷ 32 ∷ 49 ∷ 10 ∷ [])
    ++ (103 ∷ 101 ∷ 110 ∷ 117 ∷ 115 ∷ 32 ∷ 50 ∷ 32 ∷ 99 ∷ 111 ∷ 117 ∷ 110 ∷ 116 ∷ 32 ∷ 50 ∷ 10 ∷ [])
    ++ (103 ∷ 101 ∷ 110 ∷ 117 ∷ 115 ∷ 32 ∷ 51 ∷ 32 ∷ 99 ∷ 111 ∷ 117 ∷ 110 ∷ 116 ∷ 32 ∷ 52 ∷ 10 ∷ [])
    ++ (103 ∷ 101 ∷ 110 ∷ 117 ∷ 115 ∷ 32 ∷ 52 ∷ 32 ∷ 99 ∷ 111 ∷ 117 ∷ 110 ∷ 116 ∷ 32 ∷ 55 ∷ 10 ∷ [])
unfolding run joined digits decimal field header header_of headers_to
known_headers =
    rw (known_list 0 (omega arith), known_list 1 (omega arith), known_list 2 (omega arith), known_list 3 (omega arith), known_list 4 (omega arith)) refl

-- the line of the word 0, which has no gap: "0 0 1"
pub line_zero : line_of 0 ≡ 48 ∷ 32 ∷ 48 ∷ 32 ∷ 49 ∷ 10 ∷ []
unfolding none run keep keep_if last_or bit set_of gaps largest_gap conductor reported_conductor multiplicity digits decimal field line_of
line_zero = refl

-- the listing of genus 0:
--     genus 0 count 1
--     0 0 1
pub listing_zero : listing_of 0
    ≡ (103 ∷ 101 ∷ 110 ∷ 117 ∷ 115 ∷ 32 ∷ 48 ∷ 32 ∷ 99 ∷ 111 ∷ 117 ∷ 110 ∷ 116 ∷ 32 ∷ 49 ∷ 10 ∷ [])
    ++ (48 ∷ 32 ∷ 48 ∷ 32 ∷ 49 ∷ 10 ∷ [])
unfolding none run keep keep_if joined last_or bit set_of gaps largest_gap conductor reported_conductor multiplicity digits decimal field header header_of line_of listing_of
listing_zero = ap (λ (l : List ℕ). header 0 (length l) ++ joined line_of l) (known_list 0 (omega arith))

-- the listing of genus 3:
--     genus 3 count 4
--     7 4 4
--     11 5 3
--     19 6 3
--     21 6 2
pub listing_three : listing_of 3
    ≡ (103 ∷ 101 ∷ 110 ∷ 117 ∷ 115 ∷ 32 ∷ 51 ∷ 32 ∷ 99 ∷ 111 ∷ 117 ∷ 110 ∷ 116 ∷ 32 ∷ 52 ∷ 10 ∷ [])
    ++ (55 ∷ 32 ∷ 52 ∷ 32 ∷ 52 ∷ 10 ∷ [])
    ++ (49 ∷ 49 ∷ 32 ∷ 53 ∷ 32 ∷ 51 ∷ 10 ∷ [])
    ++ (49 ∷ 57 ∷ 32 ∷ 54 ∷ 32 ∷ 51 ∷ 10 ∷ [])
    ++ (50 ∷ 49 ∷ 32 ∷ 54 ∷ 32 ∷ 50 ∷ 10 ∷ [])
unfolding none run keep keep_if joined last_or bit set_of gaps largest_gap conductor reported_conductor multiplicity digits decimal field header header_of line_of listing_of
listing_three =
    let list : List ℕ → List ℕ = λ l. 103 ∷ 101 ∷ 110 ∷ 117 ∷ 115 ∷ 32 ∷ 51 ∷ 32 ∷ 99 ∷ 111 ∷ 117 ∷ 110 ∷ 116 ∷ 32 ∷ [] ++ field (length l) 10 ++ joined line_of l in
    ap list (known_list 3 (omega arith))

-- the program writes the listing of genus 3 for "03", the header lines of genus 0 to 20 for an empty input and "refused 10" for a line feed
pub known_texts : (text_of (48 ∷ 51 ∷ 10 ∷ []) ≡ listing_of 3)
    × (text_of [] ≡ headers_to 20)
    × (text_of (10 ∷ []) ≡ 114 ∷ 101 ∷ 102 ∷ 117 ∷ 115 ∷ 101 ∷ 100 ∷ 32 ∷ 49 ∷ 48 ∷ 10 ∷ [])
unfolding none every last_or is_digit value_after well_formed request_of answer_text text_of digits decimal field refusal_line
known_texts = (refl, refl, refl)
