-- What an input asks for, by its length: no bytes, two digits and a line feed, one digit, which is as two, the first of which is 0, or
-- other inputs, which are refused; so four bytes are enough to read. Assumes nothing.
use Prim.Native.Nat.{ℕ, ◌+◌, ◌-◌, ◌*◌, ◌≤◌, ◌<◌}
use mathlib.Core.Path.{◌≡◌, refl, sym, ◌∙◌, ap, ap₂}
use mathlib.Core.Bool.{Bool, true, ◌&&◌, and-true, and-eq-true_iff}
use mathlib.Core.List.{List, [], ◌∷◌}
use native.Mathlib.Omega.{arith}
use native.Mathlib.Decide.{dec_lt}
use lib.Dec.{leb, eqb}
use lib.ListN.{length, get_or, take}
use lib.Seq.{length-take-le, take_all}
use borrow.Author.Tests.{leb-true, eqb-true, le-leb, lt-leb, eq-eqb}
use Rattle.semigroups.specs.Lists.{none, every, last_or}
use Rattle.semigroups.proofs.Booleans.{is_false}
use Rattle.semigroups.proofs.Lists.{none_iff}
use Rattle.answers.specs.Answers.{refused, given, ask}
use Rattle.requests.specs.Digits.{is_digit, value_after, value}
use Rattle.requests.specs.declared.Request.TheVariants.{Headers, Listing}
use Rattle.requests.specs.Request.{all_but_last, well_formed, genus_asked, request_of}

-- the bytes of digits are from 48 to 57
pub digit_range : (b : ℕ) → is_digit b ≡ true → (48 ≤ b) × (b ≤ 57)
unfolding is_digit
digit_range b e = let (low, high) = (and-eq-true_iff (leb 48 b) (leb b 57)).0 e in (leb-true 48 b low, leb-true b 57 high)

module _ (a b e : ℕ) where
  abbrev requested : ℕ
  requested = (a - 48) * 10 + (b - 48)

  pub request_two : request_of (a ∷ b ∷ e ∷ []) ≡ ask (is_digit a && is_digit b && eqb e 10) (refused 10) (genus_asked requested)
  unfolding none request_of well_formed every last_or value_after
  request_two =
      let same : value (a ∷ b ∷ []) ≡ requested = omega arith in
      ap₂ (λ (t : Bool) (g : ℕ). ask (is_digit a && t && eqb e 10) (refused 10) (genus_asked g)) (and-true (is_digit b)) same

  -- both digits and the line feed stand there
  pub request_two_asked : is_digit a ≡ true → is_digit b ≡ true → e ≡ 10 → request_of (a ∷ b ∷ e ∷ []) ≡ genus_asked requested
  request_two_asked p q r = request_two ∙ rw (p, q, eq-eqb e 10 r)

  -- where one of them does not, question 10
  request_two_refused : (is_digit a && is_digit b && eqb e 10 ≡ true → ⊥) → request_of (a ∷ b ∷ e ∷ []) ≡ refused 10
  request_two_refused wrong = request_two ∙ rw (is_false (is_digit a && is_digit b && eqb e 10) wrong)

-- two digits and a line feed ask for the listing of the genus g that they say, where it is at most 32
module _ (a b g : ℕ) (a_low : 48 ≤ a) (a_high : a ≤ 57) (b_low : 48 ≤ b) (b_high : b ≤ 57) (says : g ≡ (a - 48) * 10 + (b - 48)) where
  asks : request_of (a ∷ b ∷ 10 ∷ []) ≡ genus_asked g
  unfolding is_digit
  asks = request_two_asked a b 10 (rw (le-leb 48 a a_low, le-leb a 57 a_high)) (rw (le-leb 48 b b_low, le-leb b 57 b_high)) refl ∙ ap genus_asked (sym says)

  pub request_listing : g ≤ 32 → request_of (a ∷ b ∷ 10 ∷ []) ≡ given (Listing g)
  request_listing small = asks ∙ rw (le-leb g 32 small)

  pub request_too_large : 32 < g → request_of (a ∷ b ∷ 10 ∷ []) ≡ refused 3
  request_too_large large = asks ∙ rw (lt-leb g 32 large)

-- other bytes in front of a line feed are refused
pub request_no_digits : (a b : ℕ) → (48 ≤ a → a ≤ 57 → 48 ≤ b → b ≤ 57 → ⊥) → request_of (a ∷ b ∷ 10 ∷ []) ≡ refused 10
request_no_digits a b wrong =
    request_two_refused a b 10 (λ t.
    let (p, q) = (and-eq-true_iff (is_digit a) (is_digit b)).0 ((and-eq-true_iff (is_digit a && is_digit b) (eqb 10 10)).0 t).0 in
    let (a_low, a_high) = digit_range a p in
    let (b_low, b_high) = digit_range b q in
    wrong a_low a_high b_low b_high)

-- 03 is 3
pub request_one : (a e : ℕ) → request_of (48 ∷ a ∷ e ∷ []) ≡ request_of (a ∷ e ∷ [])
unfolding none request_of well_formed every last_or is_digit value_after
request_one a e = refl

-- no bytes ask for header lines alone
pub request_empty : (l : List ℕ) → length l ≡ 0 → request_of l ≡ given Headers
unfolding request_of
request_empty l e = rw ((none_iff l).1 e)

-- an input that asks for a genus has two or three bytes
pub request_none : (l : List ℕ) → (length l ≡ 0 → ⊥) → (length l ≡ 2 → ⊥) → (length l ≡ 3 → ⊥) → request_of l ≡ refused 10
unfolding request_of well_formed
request_none l some two three =
    rw (
      is_false (none l) (λ t. some ((none_iff l).0 t)),
      is_false (well_formed l) (λ t.
          let digits : List ℕ = all_but_last l in
          let others = ((and-eq-true_iff (leb 1 (length digits) && leb (length digits) 2 && every is_digit digits) (eqb (last_or 0 l) 10)).0 t).0 in
          let (low, high) = (and-eq-true_iff (leb 1 (length digits)) (leb (length digits) 2)).0 ((and-eq-true_iff (leb 1 (length digits) && leb (length digits) 2) (every is_digit digits)).0 others).0 in
          let many : length digits ≡ length l - 1 = length-take-le (length l - 1) l (omega arith) in
          by_cases (length l) (omega (arith, leb-true 1 (length digits) low)) (omega (arith, leb-true (length digits) 2 high)) two three),
    )
  where
    by_cases : (n : ℕ) → 2 ≤ n → n ≤ 3 → (n ≡ 2 → ⊥) → (n ≡ 3 → ⊥) → ⊥
    by_cases n low high two three = elim (dec_lt 2 n) [ yes h ↦ three (omega arith) | no h ↦ two (omega arith) ]

-- an input that does not end in a line feed is refused, where it has two or three bytes, and so are those of other lengths but 0
pub request_other : (l : List ℕ) → 0 < length l → (length l ≡ 2 → get_or l 1 0 ≡ 10 → ⊥) → (length l ≡ 3 → get_or l 2 0 ≡ 10 → ⊥)
    → request_of l ≡ refused 10
request_other [] some two three = absurd (omega arith)
request_other (a ∷ []) some two three = request_none (a ∷ []) (λ e. omega arith) (λ e. omega arith) (λ e. omega arith)
request_other (a ∷ e ∷ []) some two three =
    sym (request_one a e) ∙ request_two_refused 48 a e (λ t. two refl (eqb-true e 10 ((and-eq-true_iff (is_digit 48 && is_digit a) (eqb e 10)).0 t).1))
request_other (a ∷ b ∷ e ∷ []) some two three =
    request_two_refused a b e (λ t. three refl (eqb-true e 10 ((and-eq-true_iff (is_digit a && is_digit b) (eqb e 10)).0 t).1))
request_other (a ∷ b ∷ e ∷ x ∷ l) some two three = request_none (a ∷ b ∷ e ∷ x ∷ l) (λ e. omega arith) (λ e. omega arith) (λ e. omega arith)

-- four bytes are enough to read: they ask for what the whole input asks for
pub request_of_four : (input : List ℕ) → request_of (take 4 input) ≡ request_of input
request_of_four input =
    elim (dec_lt (length input) 4) [
      | yes h ↦ ap request_of (take_all 4 input (omega arith))
      | no h ↦
          let many : length (take 4 input) ≡ 4 = length-take-le 4 input (omega arith) in
          request_none (take 4 input) (λ e. omega arith) (λ e. omega arith) (λ e. omega arith)
          ∙ sym (request_none input (λ e. omega arith) (λ e. omega arith) (λ e. omega arith))
    ]

-- an input of two bytes or three that ends in a line feed, by its digits
pub request_of_two_bytes : (l : List ℕ) → length l ≡ 2 → get_or l 1 0 ≡ 10 → request_of l ≡ request_of (48 ∷ get_or l 0 0 ∷ 10 ∷ [])
request_of_two_bytes [] n e = absurd (omega arith)
request_of_two_bytes (a ∷ []) n e = absurd (omega arith)
request_of_two_bytes (a ∷ b ∷ []) n e = sym (request_one a b) ∙ rw e
request_of_two_bytes (a ∷ b ∷ x ∷ l) n e = absurd (omega arith)

pub request_of_three_bytes : (l : List ℕ) → length l ≡ 3 → get_or l 2 0 ≡ 10 → request_of l ≡ request_of (get_or l 0 0 ∷ get_or l 1 0 ∷ 10 ∷ [])
request_of_three_bytes [] n e = absurd (omega arith)
request_of_three_bytes (a ∷ []) n e = absurd (omega arith)
request_of_three_bytes (a ∷ b ∷ []) n e = absurd (omega arith)
request_of_three_bytes (a ∷ b ∷ x ∷ []) n e = rw e
request_of_three_bytes (a ∷ b ∷ x ∷ y ∷ l) n e = absurd (omega arith)
