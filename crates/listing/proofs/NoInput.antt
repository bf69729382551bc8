-- An input of no bytes, and no other, is given the header lines of genus 0 to 20; every other malformed input is refused 10. Assumes nothing.
use Prim.Native.Nat.{ℕ}
use mathlib.Core.Path.{◌≡◌, refl, sym, ap}
use mathlib.Core.Logic.{◌↔◌}
use mathlib.Core.Bool.{Bool, true, false}
use mathlib.Core.List.{List, [], ◌∷◌, nil≢cons}
use native.Mathlib.Omega.{arith}
use lib.Dec.{leb}
use lib.ListN.{length}
use Rattle.semigroups.specs.Lists.{none, every, last_or}
use Rattle.semigroups.specs.GenusList.{genus_list}
use Rattle.answers.specs.Answers.{refused, given, ask}
use Rattle.answers.proofs.Answers.{two_given}
use Rattle.counts.proofs.Counts.{count_all}
use Rattle.requests.specs.Digits.{value}
use Rattle.requests.specs.Request.{all_but_last, well_formed, request_of}
use Rattle.requests.specs.declared.Request.TheVariants as R
use Rattle.listing.specs.Text.{header_of, answer_text, text_of}
use Rattle.listing.specs.NoInput.{NoInput}
use Rattle.listing.proofs.HeaderLines.{first_line_header, header_lines_are}

-- what an input with bytes asks for is never header lines alone
not_headers : (formed small : Bool) (g : ℕ) → ask formed (refused 10) (ask small (refused 3) (given (R.Listing g))) ≡ given R.Headers → ⊥
not_headers formed small g e = let same = (two_given 10 3 (R.Listing g) R.Headers formed small e).2 in let z : ◌≡◌ {A = ℕ} 0 1 = cc in omega arith

-- and it is refused 10 just by question 10
malformed : (formed small : Bool) (g : ℕ) → ask formed (refused 10) (ask small (refused 3) (given (R.Listing g))) ≡ refused 10 → formed ≡ false
malformed true true g e = let z : ◌≡◌ {A = ℕ} 0 1 = cc in absurd (omega arith)
malformed true false g e = let z : ◌≡◌ {A = ℕ} 3 10 = cc in absurd (omega arith)
malformed false small g e = refl

-- just no bytes ask for header lines alone
asked_iff : (input : List ℕ) → (request_of input ≡ given R.Headers) ↔ (input ≡ [])
unfolding none request_of
asked_iff [] = (λ e. refl, λ e. refl)
asked_iff (b ∷ l) = (λ e. absurd (not_headers (well_formed (b ∷ l)) (leb (value (all_but_last (b ∷ l))) 32) (value (all_but_last (b ∷ l))) e), λ e. ap request_of e)

-- and just malformed inputs with bytes are refused 10
malformed_iff : (input : List ℕ) → (request_of input ≡ refused 10) ↔ ((¬ (input ≡ [])) × (well_formed input ≡ false))
unfolding none request_of
malformed_iff [] = (λ e. let z : ◌≡◌ {A = ℕ} 0 1 = cc in absurd (omega arith), λ (some, wrong). absurd (some refl))
malformed_iff (b ∷ l) = (
  λ e. (λ same. nil≢cons (sym same), malformed (well_formed (b ∷ l)) (leb (value (all_but_last (b ∷ l))) 32) (value (all_but_last (b ∷ l))) e),
  λ (some, wrong). rw wrong,
)

pub no_input : NoInput
unfolding none every last_or header_of well_formed request_of answer_text text_of
no_input = record {
  asked_iff = asked_iff;
  text = refl;
  lines = header_lines_are;
  counts = λ g small. (length (genus_list g), count_all g small, first_line_header g small);
  malformed_iff = malformed_iff;
  line_feed_refused = refl;
}
