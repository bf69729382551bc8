-- Numbers in decimal: the digits say the number, a leading 0 stands only for 0, and how many digits there are. Assumes nothing.
use Prim.Native.Nat.{ℕ, zero, suc, ◌+◌, ◌-◌, ◌*◌, ◌/◌, ◌%◌, ◌^◌, ◌≤◌, ◌<◌}
use mathlib.Core.Path.{◌≡◌, refl, sym, ◌∙◌, ap, subst}
use mathlib.Core.Bool.{true}
use mathlib.Core.List.{List, [], ◌∷◌, ◌++◌, append_assoc}
use native.Mathlib.Omega.{arith}
use native.Mathlib.Nat.{div-lt_iff_lt-mul, pow-suc}
use lib.Dec.{ltb, lit<}
use lib.ListN.{length, get_or, length-append, get_or-append}
use borrow.Author.Tests.{lt-ltb, le-ltb, le-leb, ltb-true, ltb-false}
use Rattle.semigroups.specs.Lists.{every}
use Rattle.semigroups.proofs.Booleans.{by_value}
use Rattle.semigroups.proofs.Lists.{every_append}
use Rattle.requests.specs.Digits.{is_digit, value_after, value}
use Rattle.listing.specs.Decimal.{byte_of, digits, decimal}
use Rattle.listing.specs.Writing.{pair_of}

-- ---- the digits of n, where there is room for k + 1

module _ (k n : ℕ) where
  digits_one : n < 10 → digits (suc k) n ≡ byte_of n ∷ []
  unfolding digits
  digits_one h = rw (lt-ltb n 10 h)

  digits_more : 10 ≤ n → digits (suc k) n ≡ digits k (n / 10) ++ byte_of (n % 10) ∷ []
  unfolding digits
  digits_more h = rw (le-ltb n 10 h)

  -- a number without its last digit has one digit less
  tenth : n < 10 ^ suc k → n / 10 < 10 ^ k
  tenth h = (div-lt_iff_lt-mul (lit< tt)).1 (rw pow-suc at h)

-- by the digits: one that has one digit, and one that has one digit more
by_digits : (P : ℕ → List ℕ → Type 0) → ((n : ℕ) → n < 10 → P n (byte_of n ∷ []))
    → ((n : ℕ) (l : List ℕ) → 10 ≤ n → P (n / 10) l → P n (l ++ byte_of (n % 10) ∷ []))
    → (k n : ℕ) → n < 10 ^ suc k → P n (digits (suc k) n)
by_digits P one more zero n h = subst (P n) (sym (digits_one zero n h)) (one n h)
by_digits P one more (suc k) n h =
    by_value (ltb n 10) (λ e. subst (P n) (sym (digits_one (suc k) n (ltb-true n 10 e))) (one n (ltb-true n 10 e)))
    (λ e.
    let many = ltb-false n 10 e in
    subst (P n) (sym (digits_more (suc k) n many)) (more n (digits (suc k) (n / 10)) many (by_digits P one more k (n / 10) (tenth (suc k) n h))))

-- the room does not matter where it is large enough
enough : (k n : ℕ) → n < 10 ^ suc k → digits (suc k) n ≡ digits (suc (suc k)) n
enough zero n h = digits_one 0 n h ∙ sym (digits_one 1 n h)
enough (suc k) n h =
    by_value (ltb n 10) (λ e. digits_one (suc k) n (ltb-true n 10 e) ∙ sym (digits_one (suc (suc k)) n (ltb-true n 10 e)))
    (λ e.
    let many = ltb-false n 10 e in
    digits_more (suc k) n many ∙ ap (λ (l : List ℕ). l ++ byte_of (n % 10) ∷ []) (enough k (n / 10) (tenth (suc k) n h)) ∙ sym (digits_more (suc (suc k)) n many))

-- ---- numbers of 64 bits

pub decimal_one : (n : ℕ) → n < 10 → decimal n ≡ byte_of n ∷ []
unfolding decimal
decimal_one = digits_one 19

pub decimal_more : (n : ℕ) → 10 ≤ n → n < 2 ^ 64 → decimal n ≡ decimal (n / 10) ++ byte_of (n % 10) ∷ []
unfolding decimal
decimal_more n h fits = digits_more 19 n h ∙ ap (λ (l : List ℕ). l ++ byte_of (n % 10) ∷ []) (enough 18 (n / 10) (omega arith))

-- two digits are a pair
pub decimal_pair : (n : ℕ) → 10 ≤ n → n < 100 → decimal n ≡ pair_of n
unfolding pair_of
decimal_pair n h small = rw (decimal_more n h (omega arith), decimal_one (n / 10) (omega arith))

module _ (n : ℕ) (h : 100 ≤ n) (fits : n < 2 ^ 64) where
  -- more than two are those of n / 100 and a pair
  pub decimal_pairs : decimal n ≡ decimal (n / 100) ++ pair_of (n % 100)
  unfolding pair_of
  decimal_pairs =
      let hundreds : n / 10 / 10 ≡ n / 100 = omega arith in
      let tens : n / 10 % 10 ≡ n % 100 / 10 = omega arith in
      let ones : n % 10 ≡ n % 100 % 10 = omega arith in
      rw (decimal_more n (omega arith) fits, decimal_more (n / 10) (omega arith) (omega arith), append_assoc, hundreds, tens, ones)

  -- and two more in number
  pub length_pairs : length (decimal n) ≡ length (decimal (n / 100)) + 2
  unfolding pair_of
  length_pairs = ap length decimal_pairs ∙ length-append (decimal (n / 100)) (pair_of (n % 100))

module _ (n : ℕ) (fits : n < 2 ^ 64) where
  by_decimal : (P : ℕ → List ℕ → Type 0) → ((n : ℕ) → n < 10 → P n (byte_of n ∷ []))
      → ((n : ℕ) (l : List ℕ) → 10 ≤ n → P (n / 10) l → P n (l ++ byte_of (n % 10) ∷ [])) → P n (decimal n)
  unfolding decimal
  by_decimal P one more = by_digits P one more 19 n (omega arith)

  -- the digits say the number
  pub value_decimal : value (decimal n) ≡ n
  unfolding value_after
  value_decimal = by_decimal (λ n l. value l ≡ n) (λ n h. omega arith) (λ n l h e. omega (arith, value_last 0 l (byte_of (n % 10))))
    where
      value_last : (m : ℕ) (l : List ℕ) (b : ℕ) → value_after m (l ++ b ∷ []) ≡ value_after m l * 10 + (b - 48)
      value_last m [] b = refl
      value_last m (x ∷ l) b = value_last (m * 10 + (x - 48)) l b

  -- they are digits
  pub decimal_digits : every is_digit (decimal n) ≡ true
  unfolding every is_digit
  decimal_digits =
      by_decimal (λ n l. every is_digit l ≡ true) (λ n h. rw (digit_byte n h))
      (λ n l h e. every_append is_digit l (byte_of (n % 10) ∷ []) ∙ rw (e, digit_byte (n % 10) (omega arith)))
    where
      digit_byte : (d : ℕ) → d < 10 → is_digit (byte_of d) ≡ true
      digit_byte d h = rw (le-leb 48 (byte_of d) (omega arith), le-leb (byte_of d) 57 (omega arith))

  -- there is one, and the first is 0 only where the number is 0
  pub decimal_first : (0 < length (decimal n)) × (get_or (decimal n) 0 0 ≡ 48 → n ≡ 0)
  decimal_first =
      by_decimal (λ n l. (0 < length l) × (get_or l 0 0 ≡ 48 → n ≡ 0)) (λ n h. (omega arith, λ e. omega arith))
      (λ n l h (some, first). (
        omega (arith, length-append l (byte_of (n % 10) ∷ [])),
        λ e. absurd (omega (arith, first (sym (get_or-append l (byte_of (n % 10) ∷ []) 0 0 some) ∙ e))),
      ))

  -- below 10 ^ (k + 1) there are at most k + 1
  pub length_decimal : (k : ℕ) → n < 10 ^ suc k → length (decimal n) ≤ suc k
  length_decimal =
      by_decimal (λ n l. (k : ℕ) → n < 10 ^ suc k → length l ≤ suc k) (λ n h k b. omega arith)
      (λ n l h shorter k b. omega (arith, length-append l (byte_of (n % 10) ∷ []), one_less n l h shorter k b))
    where
      one_less : (n : ℕ) (l : List ℕ) → 10 ≤ n → ((k : ℕ) → n / 10 < 10 ^ suc k → length l ≤ suc k) → (k : ℕ) → n < 10 ^ suc k → length l ≤ k
      one_less n l h shorter zero b = absurd (omega arith)
      one_less n l h shorter (suc k) b = shorter k (tenth (suc k) n b)
