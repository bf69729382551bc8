-- The bits of a number: of `bit_and` and `bit_or`, of shifts, of the complement, of powers of two; and that the bits decide the number.
-- Assumes nothing.
use Prim.Native.Nat.{ℕ, zero, suc, ◌+◌, ◌*◌, ◌-◌, ◌/◌, ◌%◌, ◌^◌, ◌≤◌, ◌<◌}
use mathlib.Core.Path.{◌≡◌, refl, sym, ap, ap₂, ◌∙◌, subst}
use mathlib.Core.Logic.{◌≢◌}
use mathlib.Core.Bool.{Bool, true, false, not, ◌||◌, ◌&&◌, and-true, and-false, or_comm}
use mathlib.Core.List.{List, [], ◌∷◌}
use native.Mathlib.Omega.{arith}
use native.Mathlib.Nat.{zero-mul, mul-one, add-div_right, lt_of_not-le, le_of_suc-le-suc, div-eq_of_lt, add-zero, mul_assoc, div-one, pow-suc, mod-eq_of_lt, lt_of_lt_of_le, lt_of_le_of_lt, le_dest, le_refl, mod-lt, one-mul}
use lib.Dec.{ltb, eqb, eqb-suc-zero, eqb-zero-suc, eqb-suc-suc}
use lib.Pow.{pow_pos, pow_mono, pow-add, pow-lt, shr-shr, shl-shr, field, mod-mod-pow, shl_exact, shl_lt}
use lib.ListN.{length, get_or}
use lib.Bits.{bit_and, bit_or, and_shr, or_shr, shifted_even, or_disjoint, or_lt, and_le_l, and_le_r, and_mod, or_mod, and_mask, bit_xor, xor_step, xor_self}
use borrow.Author.Tests.{ltb-true, ltb-false, eqb-true, eqb-false, eq-eqb, ne_eqb}
use Rattle.semigroups.specs.Words.{bit, digit, of_bits}
use Rattle.semigroups.proofs.Booleans.{by_value}

-- ---- the digits of a number

pub digit_lt : (b : Bool) → digit b < 2
unfolding digit
digit_lt true = omega arith
digit_lt false = omega arith

pub digit_bit : (b : Bool) → eqb (digit b) 1 ≡ b
unfolding digit
digit_bit true = refl
digit_bit false = refl

-- the last digit of a number, by its bit
last_digit : (n : ℕ) → n % 2 ≡ digit (eqb (n % 2) 1)
unfolding digit
last_digit n =
    by_value (eqb (n % 2) 1) (λ e. eqb-true (n % 2) 1 e ∙ ap digit (sym e))
    (λ e. let other = eqb-false (n % 2) 1 e in let none : n % 2 ≡ 0 = omega arith in none ∙ ap digit (sym e))

-- an operation that goes digit by digit, and is g on each two digits
bit_by : (op : ℕ → ℕ → ℕ) (g : Bool → Bool → Bool)
    → ((a b k : ℕ) → op a b / 2 ^ k ≡ op (a / 2 ^ k) (b / 2 ^ k)) → ((a b k : ℕ) → op a b % 2 ^ k ≡ op (a % 2 ^ k) (b % 2 ^ k))
    → ((p q : Bool) → op (digit p) (digit q) ≡ digit (g p q)) → (a b i : ℕ) → bit (op a b) i ≡ g (bit a i) (bit b i)
unfolding bit
bit_by op g shifts ends table a b i =
    let x : ℕ = a / 2 ^ i in
    let y : ℕ = b / 2 ^ i in
    ap (λ (n : ℕ). eqb (n % 2) 1) (shifts a b i)
    ∙ ap (λ (n : ℕ). eqb n 1) (ends x y 1 ∙ ap₂ op (last_digit x) (last_digit y) ∙ table (eqb (x % 2) 1) (eqb (y % 2) 1)) ∙ digit_bit _

and_digits : (p q : Bool) → bit_and (digit p) (digit q) ≡ digit (p && q)
unfolding digit
and_digits true true = refl
and_digits true false = refl
and_digits false true = refl
and_digits false false = refl

or_digits : (p q : Bool) → bit_or (digit p) (digit q) ≡ digit (p || q)
unfolding digit
or_digits true true = refl
or_digits true false = refl
or_digits false true = refl
or_digits false false = refl

pub bit_of_and : (a b i : ℕ) → bit (bit_and a b) i ≡ (bit a i && bit b i)
bit_of_and = bit_by bit_and ◌&&◌ and_shr and_mod and_digits

pub bit_of_or : (a b i : ℕ) → bit (bit_or a b) i ≡ (bit a i || bit b i)
bit_of_or = bit_by bit_or ◌||◌ or_shr or_mod or_digits

-- ---- shifts, and numbers of few bits

-- bits past a number's length do not stand
pub bit_past : (a n i : ℕ) → a < 2 ^ n → n ≤ i → bit a i ≡ false
unfolding bit
bit_past a n i h k = ap (λ (q : ℕ). eqb (q % 2) 1) (div-eq_of_lt (lt_of_lt_of_le h (pow_mono k)))

pub bit_zero : (i : ℕ) → bit 0 i ≡ false
bit_zero i = bit_past 0 0 i (omega arith) (omega arith)

-- a right shift by k drops the first k bits
pub bit_shr : (a k i : ℕ) → bit (a / 2 ^ k) i ≡ bit a (k + i)
unfolding bit
bit_shr a k i = ap (λ (q : ℕ). eqb (q % 2) 1) (shr-shr a k i)

pub bit_half : (a i : ℕ) → bit (a / 2) i ≡ bit a (suc i)
bit_half a i = bit_shr a 1 i ∙ ap (bit a) (omega arith)

pub bit_first : (a : ℕ) → bit a 0 ≡ eqb (a % 2) 1
unfolding bit
bit_first a = ap (λ (q : ℕ). eqb (q % 2) 1) (div-one a)

pub digit_first : (a : ℕ) → a % 2 ≡ digit (bit a 0)
digit_first a = last_digit a ∙ ap digit (sym (bit_first a))

-- bit i, shifted down to be the last
pub bit_test : (a i : ℕ) → eqb (bit_and (a / 2 ^ i) 1) 1 ≡ bit a i
unfolding bit
bit_test a i = ap (λ (x : ℕ). eqb x 1) (and_mask (a / 2 ^ i) 1)

-- a left shift by k puts k clear bits in front
pub bit_shl : (a k i : ℕ) → bit (a * 2 ^ k) (k + i) ≡ bit a i
bit_shl a k i = sym (bit_shr (a * 2 ^ k) k i) ∙ ap (λ (n : ℕ). bit n i) (shl-shr a k)

pub bit_shl_low : (a k i : ℕ) → i < k → bit (a * 2 ^ k) i ≡ false
bit_shl_low a k i h =
    let (r, e) = le_dest h in
    let sum : k ≡ suc r + i = omega (arith, e) in
    let parts : a * 2 ^ k ≡ a * 2 ^ suc r * 2 ^ i = ap (λ (x : ℕ). a * 2 ^ x) sum ∙ ap (λ (x : ℕ). a * x) (pow-add 2 (suc r) i) ∙ sym (mul_assoc a (2 ^ suc r) (2 ^ i)) in
    ap₂ bit parts (sym (add-zero i)) ∙ bit_shl (a * 2 ^ suc r) i 0 ∙ bit_first (a * 2 ^ suc r) ∙ ap (λ (x : ℕ). eqb x 1) (shifted_even a r)

-- the n low bits of a number are its own
pub bit_mod : (a n i : ℕ) → i < n → bit (a % 2 ^ n) i ≡ bit a i
unfolding bit
bit_mod a n i h =
    let (r, e) = le_dest h in
    let parts : n ≡ r + 1 + i = omega (arith, e) in
    ap (λ (x : ℕ). eqb (x % 2) 1) (ap (λ (x : ℕ). a % 2 ^ x / 2 ^ i) parts ∙ field a (r + 1) i)
    ∙ ap (λ (x : ℕ). eqb x 1) (mod-mod-pow (a / 2 ^ i) r 1)

-- and the only ones that stand
pub bit_low : (a n i : ℕ) → bit (a % 2 ^ n) i ≡ (bit a i && ltb i n)
bit_low a n i =
    by_value (ltb i n)
    (λ e. bit_mod a n i (ltb-true i n e) ∙ sym (ap (λ (b : Bool). bit a i && b) e ∙ and-true (bit a i)))
    (λ e. bit_past (a % 2 ^ n) n i (mod-lt a (pow_pos n)) (ltb-false i n e) ∙ sym (ap (λ (b : Bool). bit a i && b) e ∙ and-false (bit a i)))

-- 1 shifted by less than 64 is a power of two
pub one_shl : (k : ℕ) → k < 64 → 1 * 2 ^ k % 2 ^ 64 ≡ 2 ^ k
one_shl k h = shl_exact {a = 1} 1 k 64 (omega arith) (omega arith) ∙ one-mul (2 ^ k)

-- the complement in n bits
pub bit_not : (n a i : ℕ) → a < 2 ^ n → i < n → bit (2 ^ n - 1 - a) i ≡ not (bit a i)
bit_not zero a i fits h = absurd (omega arith)
bit_not (suc n) a zero fits h =
    let other : (2 ^ suc n - 1 - a) % 2 ≡ 1 - a % 2 = omega (arith, pow-suc 2 n) in
    bit_first (2 ^ suc n - 1 - a) ∙ ap (λ (x : ℕ). eqb x 1) other
    ∙ by_value (eqb (a % 2) 1)
    (λ e. ne_eqb (1 - a % 2) 1 (λ d. omega (arith, eqb-true (a % 2) 1 e)) ∙ ap not (sym e))
    (λ e. let even = eqb-false (a % 2) 1 e in eq-eqb (1 - a % 2) 1 (omega arith) ∙ ap not (sym e))
    ∙ ap not (sym (bit_first a))
bit_not (suc n) a (suc i) fits h =
    let halves : (2 ^ suc n - 1 - a) / 2 ≡ 2 ^ n - 1 - a / 2 = omega (arith, pow-suc 2 n) in
    sym (bit_half (2 ^ suc n - 1 - a) i) ∙ ap (λ (x : ℕ). bit x i) halves
    ∙ bit_not n (a / 2) i (omega (arith, pow-suc 2 n)) (omega arith) ∙ ap not (bit_half a i)

-- numbers below 2 ^ n with the same bits are equal
pub bits_decide : (n a b : ℕ) → a < 2 ^ n → b < 2 ^ n → ((i : ℕ) → i < n → bit a i ≡ bit b i) → a ≡ b
bits_decide zero a b ha hb e = omega arith
bits_decide (suc n) a b ha hb e =
    let halves : a / 2 ≡ b / 2 =
    bits_decide n (a / 2) (b / 2) (omega (arith, pow-suc 2 n)) (omega (arith, pow-suc 2 n))
    (λ i h. bit_half a i ∙ e (suc i) (omega arith) ∙ sym (bit_half b i)) in
    let last : a % 2 ≡ b % 2 = digit_first a ∙ ap digit (e 0 (omega arith)) ∙ sym (digit_first b) in
    omega arith

-- the one bit of a power of two
pub bit_pow : (k i : ℕ) → bit (2 ^ k) i ≡ eqb i k
unfolding bit
bit_pow zero zero = refl
bit_pow zero (suc i) = bit_past 1 1 (suc i) (omega arith) (omega arith) ∙ sym (eqb-suc-zero i)
bit_pow (suc k) zero =
    let even : 2 ^ suc k % 2 ≡ 0 = omega (arith, pow-suc 2 k) in
    bit_first (2 ^ suc k) ∙ ap (λ (x : ℕ). eqb x 1) even ∙ sym (eqb-zero-suc k)
bit_pow (suc k) (suc i) = sym (bit_half (2 ^ suc k) i) ∙ ap (λ (x : ℕ). bit x i) (omega (arith, pow-suc 2 k)) ∙ bit_pow k i ∙ sym (eqb-suc-suc i k)

-- the bits of a digit in place k
pub bit_digit_at : (b : Bool) (k j : ℕ) → bit (digit b * 2 ^ k) j ≡ (eqb j k && b)
unfolding digit
bit_digit_at true k j = ap (λ (n : ℕ). bit n j) (one-mul (2 ^ k)) ∙ bit_pow k j ∙ sym (and-true (eqb j k))
bit_digit_at false k j = ap (λ (n : ℕ). bit n j) (zero-mul (2 ^ k)) ∙ bit_zero j ∙ sym (and-false (eqb j k))

-- and of a digit by itself
pub bit_digit : (b : Bool) (j : ℕ) → bit (digit b) j ≡ (eqb j 0 && b)
bit_digit b j = ap (λ (n : ℕ). bit n j) (sym (mul-one (digit b))) ∙ bit_digit_at b 0 j

-- of a number and a power of two, what they have in common is that one bit
pub and_one_bit : (a k : ℕ) → bit_and a (2 ^ k) ≡ digit (bit a k) * 2 ^ k
and_one_bit a k =
    bits_decide (1 + k) (bit_and a (2 ^ k)) (digit (bit a k) * 2 ^ k)
    (lt_of_le_of_lt (and_le_r a (2 ^ k)) (pow-lt {j = 1 + k} (omega arith))) (shl_lt 1 k (digit_lt (bit a k))) (λ i h.
    bit_of_and a (2 ^ k) i ∙ ap (λ (b : Bool). bit a i && b) (bit_pow k i) ∙ swap i ∙ sym (bit_digit_at (bit a k) k i))
  where
    swap : (i : ℕ) → (bit a i && eqb i k) ≡ (eqb i k && bit a k)
    swap i = by_value (eqb i k) (λ e. rw (e, eqb-true i k e) (and-true (bit a k))) (λ e. rw e (and-false (bit a i)))

-- a clear bit is disjoint from its power of two
pub clear_disjoint : (w k : ℕ) → bit w k ≡ false → bit_and w (2 ^ k) ≡ 0
unfolding digit
clear_disjoint w k h = and_one_bit w k ∙ rw h (zero-mul (2 ^ k))

-- setting a clear bit by addition
pub bit_set : (w k i : ℕ) → bit w k ≡ false → bit (w + 2 ^ k) i ≡ (eqb i k || bit w i)
bit_set w k i h =
    ap (λ (x : ℕ). bit x i) (sym (or_disjoint w (2 ^ k) (clear_disjoint w k h))) ∙ bit_of_or w (2 ^ k) i ∙ or_comm (bit w i) (bit (2 ^ k) i)
    ∙ ap (λ (b : Bool). b || bit w i) (bit_pow k i)

-- the highest bit of a number of j + 1 bits
pub bit_highest : (a j : ℕ) → 2 ^ j ≤ a → a < 2 ^ suc j → bit a j ≡ true
bit_highest a j low high =
    let rest : ℕ = a - 2 ^ j in
    let whole : a ≡ rest + 2 ^ j = omega arith in
    let clear = bit_past rest j j (omega (arith, pow-suc 2 j)) (le_refl j) in
    ap (λ (x : ℕ). bit x j) whole ∙ bit_set rest j j clear ∙ ap (λ (b : Bool). b || bit rest j) (eq-eqb j j refl)

-- under a number of n bits only the n low bits of another count
pub and_low : (n a b : ℕ) → a < 2 ^ n → bit_and a (b % 2 ^ n) ≡ bit_and a b
and_low n a b h =
    ap (λ (x : ℕ). bit_and x (b % 2 ^ n)) (sym (mod-eq_of_lt h)) ∙ sym (and_mod a b n) ∙ mod-eq_of_lt (lt_of_le_of_lt (and_le_l a b) h)

-- below 2 ^ n a number stays with a clear bit below n set
pub bit_set_lt : (n w k : ℕ) → w < 2 ^ n → k < n → bit w k ≡ false → w + 2 ^ k < 2 ^ n
bit_set_lt n w k fits h clear = subst (λ (x : ℕ). x < 2 ^ n) (or_disjoint w (2 ^ k) (clear_disjoint w k clear)) (or_lt n w (2 ^ k) fits (pow-lt h))

-- a standing bit is cleared by subtraction
pub bit_cleared : (w k : ℕ) → bit w k ≡ true → (2 ^ k ≤ w) × (bit (w - 2 ^ k) k ≡ false)
unfolding bit
bit_cleared w k h =
    let odd = eqb-true (w / 2 ^ k % 2) 1 h in
    let room : 2 ^ k ≤ w = le_of_suc-le-suc (lt_of_not-le (λ l. omega (arith, div-eq_of_lt l))) in
    let whole : w - 2 ^ k + 2 ^ k ≡ w = omega arith in
    let next : w / 2 ^ k ≡ (w - 2 ^ k) / 2 ^ k + 1 = ap (λ (x : ℕ). x / 2 ^ k) (sym whole) ∙ add-div_right (w - 2 ^ k) (pow_pos k) in
    (room, ne_eqb ((w - 2 ^ k) / 2 ^ k % 2) 1 (λ e. omega arith))

-- the others stay
pub bit_other : (w k i : ℕ) → bit w k ≡ true → i ≢ k → bit (w - 2 ^ k) i ≡ bit w i
bit_other w k i h other =
    let (room, clear) = bit_cleared w k h in
    let whole : w - 2 ^ k + 2 ^ k ≡ w = omega arith in
    ap (λ (b : Bool). b || bit (w - 2 ^ k) i) (sym (ne_eqb i k other)) ∙ sym (bit_set (w - 2 ^ k) k i clear) ∙ ap (λ (x : ℕ). bit x i) whole

-- a number and the next differ in the lowest clear bit and those below it
pub xor_next : (k a : ℕ) → ((i : ℕ) → i < k → bit a i ≡ true) → bit a k ≡ false → bit_xor a (a + 1) ≡ 2 ^ suc k - 1
unfolding digit
xor_next zero a stand clear =
    let even : a % 2 ≡ 0 = digit_first a ∙ ap digit clear in
    let last : (a + 1) % 2 ≡ 1 = omega arith in
    let half : (a + 1) / 2 ≡ a / 2 = omega arith in
    xor_step a (a + 1) ∙ rw (even, last, half, xor_self)
xor_next (suc k) a stand clear =
    let odd : a % 2 ≡ 1 = digit_first a ∙ ap digit (stand 0 (omega arith)) in
    let last : (a + 1) % 2 ≡ 0 = omega arith in
    let half : (a + 1) / 2 ≡ a / 2 + 1 = omega arith in
    let rest = xor_next k (a / 2) (λ i h. bit_half a i ∙ stand (suc i) (omega arith)) (bit_half a k ∙ clear) in
    xor_step a (a + 1) ∙ rw (odd, last, half, rest) (omega (arith, pow-suc 2 (suc k), pow_pos (suc k)))

-- ---- a number by its list of bits

-- its bits are those of the list, and clear past it
pub bit_of_bits : (l : List Bool) (i : ℕ) → bit (of_bits l) i ≡ get_or l i false
unfolding of_bits
bit_of_bits [] i = bit_zero i
bit_of_bits (b ∷ l) zero =
    let last : of_bits (b ∷ l) % 2 ≡ digit b = omega (arith, digit_lt b) in
    bit_first (of_bits (b ∷ l)) ∙ ap (λ (x : ℕ). eqb x 1) last ∙ digit_bit b
bit_of_bits (b ∷ l) (suc i) =
    let half : of_bits (b ∷ l) / 2 ≡ of_bits l = omega (arith, digit_lt b) in
    sym (bit_half (of_bits (b ∷ l)) i) ∙ ap (λ (x : ℕ). bit x i) half ∙ bit_of_bits l i

-- it has no more bits than the list
pub of_bits_lt : (l : List Bool) → of_bits l < 2 ^ length l
unfolding of_bits
of_bits_lt [] = omega arith
of_bits_lt (b ∷ l) = omega (arith, of_bits_lt l, digit_lt b, pow-suc 2 (length l))
