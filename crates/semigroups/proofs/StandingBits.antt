-- The standing bits of a number: how many they are, the lowest of them, and their positions. Assumes nothing.
use Prim.Native.Nat.{ℕ, zero, suc, ◌+◌, ◌*◌, ◌-◌, ◌/◌, ◌%◌, ◌^◌, ◌≤◌, ◌<◌}
use mathlib.Core.Path.{◌≡◌, sym, ap, ap₂, ◌∙◌, refl, subst}
use mathlib.Core.Logic.{◌≢◌, ⊎_elim}
use mathlib.Core.Bool.{Bool, true, false}
use mathlib.Core.List.Memᴰ
use mathlib.Core.List.{List, [], ◌∷◌, ◌++◌, map, Memᴰ}
use native.Mathlib.Omega.{arith}
use native.Mathlib.Nat.{lt_of_not-le, le_dest, pow-suc, div-mul-le_self}
use native.Mathlib.Decide.{dec_lt, ℕ_discrete}
use lib.Bits.{bit_and, and_step, and_self}
use lib.Count.{ones, ones_step, under, count_trailing_zeros, trailing_le}
use lib.ListN.{length}
use lib.Pow.{pow_pos}
use Rattle.semigroups.specs.Lists.{run, keep, Ordered}
use Rattle.semigroups.specs.Words.{bit, digit}
use Rattle.semigroups.specs.Positions.{positions, above}
use Rattle.semigroups.proofs.Booleans.{not_both, is_false, by_value}
use Rattle.semigroups.proofs.Lists.{nothing, run_mem, mem_run, keep_mem, mem_keep, ordered_run, ordered_keep, ordered_unique, ordered_map, mem_split, ordered_parts}
use Rattle.semigroups.proofs.Kept.{keep_same, keep_both}
use Rattle.semigroups.proofs.Bits.{bit_of_and, bit_zero, bit_half, bits_decide, bit_cleared, bit_other, digit_first, bit_shr, bit_shl, bit_shl_low, bit_mod}
use Rattle.semigroups.proofs.Counting.{count_below, count_first, count_not, count_same, length_kept}

-- ---- how many

-- `ones` counts the standing bits
pub ones_count : (n a : ℕ) → a < 2 ^ n → ones a ≡ count_below (bit a) n
unfolding count_below ones
ones_count zero a h = let none : a ≡ 0 = omega arith in ap ones none
ones_count (suc n) a h =
    ones_step a
    ∙ ap₂ ◌+◌ (digit_first a) (ones_count n (a / 2) (omega (arith, pow-suc 2 n)) ∙ count_same _ _ n (bit_half a))
    ∙ sym (count_first (bit a) n)

-- ---- the lowest

-- `count_trailing_zeros` by the first bit and those after it
trailing_step : (k a : ℕ) (b : Bool) → bit a 0 ≡ b → count_trailing_zeros (suc k) a ≡ under (digit b) (count_trailing_zeros k (a / 2))
unfolding count_trailing_zeros
trailing_step k a b e = ap (λ (d : ℕ). under d (count_trailing_zeros k (a / 2))) (digit_first a ∙ ap digit e)

-- below the trailing zeros of k bits no bit stands
pub trailing_below : (k a i : ℕ) → i < count_trailing_zeros k a → bit a i ≡ false
unfolding digit
trailing_below zero a i h = absurd (omega (arith, trailing_le 0 a))
trailing_below (suc k) a zero h = is_false (bit a 0) (λ e. omega (arith, trailing_step k a true e))
trailing_below (suc k) a (suc i) h =
    by_value (bit a 0) (λ e. absurd (omega (arith, trailing_step k a true e)))
    (λ e. sym (bit_half a i) ∙ trailing_below k (a / 2) i (omega (arith, trailing_step k a false e)))

-- the bit after them stands, where one of the k does
pub trailing_stands : (k a : ℕ) → count_trailing_zeros k a < k → bit a (count_trailing_zeros k a) ≡ true
unfolding digit
trailing_stands zero a h = absurd (omega arith)
trailing_stands (suc k) a h =
    by_value (bit a 0) (λ e. ap (bit a) (trailing_step k a true e) ∙ e)
    (λ e.
    let step = trailing_step k a false e in
    ap (bit a) step ∙ sym (bit_half a (count_trailing_zeros k (a / 2))) ∙ trailing_stands k (a / 2) (omega arith))

-- one of the k does, where the number has k bits and is not 0
pub trailing_lt : (k a : ℕ) → 0 < a → a < 2 ^ k → count_trailing_zeros k a < k
trailing_lt k a pos fits =
    lt_of_not-le (λ l.
    let none : a ≡ 0 = bits_decide k a 0 fits (pow_pos k) (λ i h. trailing_below k a i (omega arith) ∙ sym (bit_zero i)) in
    omega arith)

-- so that a number of k bits other than 0 has a standing bit
pub some_stands : (k a : ℕ) → a < 2 ^ k → a ≢ 0 → (i : ℕ) × (i < k) × (bit a i ≡ true)
some_stands k a fits nonzero =
    let pos : 0 < a = lt_of_not-le (λ l. nonzero (omega arith)) in
    let low = trailing_lt k a pos fits in
    (count_trailing_zeros k a, low, trailing_stands k a low)

-- without the lowest, a number is what it has in common with the number before it
pub trailing_off : (k a : ℕ) → 0 < a → a < 2 ^ k → bit_and a (a - 1) ≡ a - 2 ^ count_trailing_zeros k a
unfolding digit
trailing_off zero a pos fits = absurd (omega arith)
trailing_off (suc k) a pos fits =
    by_value (bit a 0)
    (λ e.
    let odd : a % 2 ≡ 1 = digit_first a ∙ ap digit e in
    let half : (a - 1) / 2 ≡ a / 2 = omega arith in
    and_step a (a - 1) ∙ rw (half, and_self, trailing_step k a true e) (omega arith))
    (λ e.
    let even : a % 2 ≡ 0 = digit_first a ∙ ap digit e in
    let half : (a - 1) / 2 ≡ a / 2 - 1 = omega arith in
    let rest = trailing_off k (a / 2) (omega arith) (omega (arith, pow-suc 2 k)) in
    and_step a (a - 1) ∙ rw (half, rest, trailing_step k a false e) (omega (arith, pow-suc 2 (count_trailing_zeros k (a / 2)))))

-- ---- their positions

pub positions_mem : {i : ℕ} (n : ℕ) → Memᴰ i (positions n) → (i < 64) × (bit n i ≡ true)
unfolding positions
positions_mem n m = let (r, e) = keep_mem (bit n) (run 0 64) m in (omega (arith, (run_mem 0 64 r).1), e)

pub mem_positions : (n i : ℕ) → i < 64 → bit n i ≡ true → Memᴰ i (positions n)
unfolding positions
mem_positions n i h e = mem_keep (bit n) (run 0 64) (mem_run 0 64 (omega arith) (omega arith)) e

pub positions_ordered : (n : ℕ) → Ordered ◌<◌ (positions n)
unfolding positions
positions_ordered n = ordered_keep ◌<◌ (bit n) (run 0 64) (ordered_run 0 64)

-- as many as stand, of 64
pub positions_ones : (a : ℕ) → a < 2 ^ 64 → length (positions a) ≡ ones a
unfolding positions
positions_ones a h = length_kept (bit a) 64 ∙ sym (ones_count 64 a h)

pub positions_le : (a : ℕ) → length (positions a) ≤ 64
unfolding positions
positions_le a = omega (arith, length_kept (bit a) 64, count_not (bit a) 64)

-- those that two numbers have in common
pub positions_and : (a b : ℕ) → keep (bit b) (positions a) ≡ positions (bit_and a b)
unfolding positions
positions_and a b = keep_both (bit b) (bit a) (run 0 64) ∙ keep_same _ _ (run 0 64) (λ i m. sym (bit_of_and a b i))

-- 0 has none
pub positions_zero : positions 0 ≡ []
positions_zero = nothing (positions 0) (λ i m. not_both (positions_mem 0 m).1 (bit_zero i))

-- the first is the lowest, and those after it are the positions in the number without that bit
pub positions_step : (n : ℕ) → 0 < n → n < 2 ^ 64 → positions n ≡ count_trailing_zeros 64 n ∷ positions (n - 2 ^ count_trailing_zeros 64 n)
unfolding Ordered
positions_step n pos fits =
    ordered_unique ◌<◌ (λ x y p q. omega arith) (positions n) (d ∷ positions rest) (positions_ordered n)
    (λ i m. let (other, l, e) = later m in lt_of_not-le (λ k. not_both e (trailing_below 64 n i (omega arith))), positions_ordered rest)
    (λ i m. let (l, e) = positions_mem n m in
    elim (ℕ_discrete i d) [ yes q ↦ Memᴰ.head q | no q ↦ Memᴰ.tail (mem_positions rest i l (bit_other n d i stands q ∙ e)) ])
    (λ i m. ⊎_elim (λ q. mem_positions n i (omega (arith, trailing_lt 64 n pos fits)) (ap (bit n) q ∙ stands))
    (λ k. let (other, l, e) = later k in mem_positions n i l e) (Memᴰ.cases_cons m))
  where
    d : ℕ
    d = count_trailing_zeros 64 n

    rest : ℕ
    rest = n - 2 ^ d

    stands : bit n d ≡ true
    stands = trailing_stands 64 n (trailing_lt 64 n pos fits)

    -- the other positions
    later : {i : ℕ} → Memᴰ i (positions rest) → (i ≢ d) × (i < 64) × (bit n i ≡ true)
    later {i} m =
        let (l, e) = positions_mem rest m in
        let other : i ≢ d = λ q. not_both (ap (bit rest) (sym q) ∙ e) (bit_cleared n d stands).1 in
        (other, l, sym (bit_other n d i stands other) ∙ e)

-- a number with its bits below j cleared keeps the others
bit_from : (n j i : ℕ) → j ≤ i → bit (n / 2 ^ j * 2 ^ j) i ≡ bit n i
bit_from n j i h = let (k, e) = le_dest h in ap (bit (n / 2 ^ j * 2 ^ j)) (sym e) ∙ bit_shl (n / 2 ^ j) j k ∙ bit_shr n j k ∙ ap (bit n) e

-- so has one with its bits up to d cleared
pub bit_above : (n d i : ℕ) → d < i → bit (above n d) i ≡ bit n i
bit_above n d i h = bit_from n (d + 1) i (omega arith)

-- no position up to d is left
pub above_high : {i : ℕ} (n d : ℕ) → Memᴰ i (positions (above n d)) → d < i
above_high {i} n d m =
    lt_of_not-le (λ h. not_both (positions_mem (above n d) m).1 (bit_shl_low (n / 2 ^ (d + 1)) (d + 1) i (omega arith)))

-- before position d are lower ones, and after it the positions in the number with the bits up to d cleared
pub positions_split : (n d : ℕ) → Memᴰ d (positions n)
    → (k : List ℕ) × ((i : ℕ) → Memᴰ i k → i < d) × (k ++ d ∷ positions (above n d) ≡ positions n)
unfolding Ordered
positions_split n d m = (k, λ i j. lower i d j (Memᴰ.head refl), ap (λ (u : List ℕ). k ++ d ∷ u) (sym same) ∙ parts)
  where
    k : List ℕ
    k = (mem_split (positions n) m).0

    t : List ℕ
    t = (mem_split (positions n) m).1

    parts : k ++ d ∷ t ≡ positions n
    parts = (mem_split (positions n) m).2

    order : Ordered ◌<◌ (d ∷ t) × ((x y : ℕ) → Memᴰ x k → Memᴰ y (d ∷ t) → x < y)
    order = ordered_parts ◌<◌ k (d ∷ t) (subst (Ordered ◌<◌) (sym parts) (positions_ordered n))

    lower : (x y : ℕ) → Memᴰ x k → Memᴰ y (d ∷ t) → x < y
    lower = order.1

    same : t ≡ positions (above n d)
    same =
        ordered_unique ◌<◌ (λ x y p q. omega arith) t (positions (above n d)) order.0.1 (positions_ordered (above n d))
        (λ i j.
        let (l, e) = positions_mem n (subst (Memᴰ i) parts (Memᴰ.append_right k (Memᴰ.tail j))) in
        mem_positions (above n d) i l (bit_above n d i (order.0.0 i j) ∙ e))
        (λ i j.
        let (l, e) = positions_mem (above n d) j in
        let high = above_high n d j in
        ⊎_elim (λ q. absurd (omega (arith, lower i d q (Memᴰ.head refl))))
        (λ q. ⊎_elim (λ p. absurd (omega arith)) (λ p. p) (Memᴰ.cases_cons q))
        (Memᴰ.append_cases k (subst (Memᴰ i) (sym parts) (mem_positions n i l (sym (bit_above n d i high) ∙ e)))))

-- a number with its bits below j cleared has no other positions
pub from_positions : {i : ℕ} (n j : ℕ) → Memᴰ i (positions (n / 2 ^ j * 2 ^ j)) → Memᴰ i (positions n)
from_positions {i} n j m =
    let (l, e) = positions_mem (n / 2 ^ j * 2 ^ j) m in
    let high : j < suc i = lt_of_not-le (λ low. not_both e (bit_shl_low (n / 2 ^ j) j i low)) in
    mem_positions n i l (sym (bit_from n j i (omega arith)) ∙ e)

-- a number with its bits below j cleared, and then the lowest of the others, is the number with its bits up to that one cleared
pub above_lowest : (n j : ℕ) → n < 2 ^ 64 → 0 < n / 2 ^ j * 2 ^ j
    → let rest = n / 2 ^ j * 2 ^ j in rest - 2 ^ count_trailing_zeros 64 rest ≡ above n (count_trailing_zeros 64 rest)
above_lowest n j fits pos =
    bits_decide 64 (rest - 2 ^ d) (above n d) (omega (arith, small)) (omega (arith, div-mul-le_self n (2 ^ (d + 1)))) (λ i h.
    elim (dec_lt d i) [
      | yes l ↦ bit_other rest d i stands (λ e. omega arith) ∙ bit_from n j i (omega (arith, low)) ∙ sym (bit_above n d i l)
      | no l ↦ cleared i (omega arith) ∙ sym (bit_shl_low (n / 2 ^ (d + 1)) (d + 1) i (omega arith))
    ])
  where
    rest : ℕ
    rest = n / 2 ^ j * 2 ^ j

    small : rest < 2 ^ 64
    small = omega (arith, div-mul-le_self n (2 ^ j))

    d : ℕ
    d = count_trailing_zeros 64 rest

    stands : bit rest d ≡ true
    stands = trailing_stands 64 rest (trailing_lt 64 rest pos small)

    low : j ≤ d
    low = omega (arith, lt_of_not-le {n = suc d} {m = j} (λ l. not_both stands (bit_shl_low (n / 2 ^ j) j d l)))

    cleared : (i : ℕ) → i ≤ d → bit (rest - 2 ^ d) i ≡ false
    cleared i h = elim (ℕ_discrete i d) [
      | yes e ↦ ap (bit (rest - 2 ^ d)) e ∙ (bit_cleared rest d stands).1
      | no e ↦ bit_other rest d i stands e ∙ trailing_below 64 rest i (omega arith)
    ]

-- moved up by k, where all of them stay among the 64
pub positions_shl : (n k : ℕ) → ((i : ℕ) → Memᴰ i (positions n) → k + i < 64) → positions (n * 2 ^ k % 2 ^ 64) ≡ map (λ i. k + i) (positions n)
positions_shl n k near =
    ordered_unique ◌<◌ (λ x y p q. omega arith) (positions (n * 2 ^ k % 2 ^ 64)) (map (λ i. k + i) (positions n)) (positions_ordered _)
    (ordered_map ◌<◌ ◌<◌ (λ i. k + i) (positions n) (positions_ordered n) (λ x y a b l. omega arith))
    (λ i m.
    let (l, e) = positions_mem (n * 2 ^ k % 2 ^ 64) m in
    let stands : bit (n * 2 ^ k) i ≡ true = sym (bit_mod (n * 2 ^ k) 64 i l) ∙ e in
    let high : k < suc i = lt_of_not-le (λ low. not_both stands (bit_shl_low n k i low)) in
    let (j, at) = le_dest {n = k} {m = i} (omega arith) in
    Memᴰ.cast (sym at) (Memᴰ.map (λ i. k + i) (mem_positions n j (omega arith) (sym (bit_shl n k j) ∙ ap (bit (n * 2 ^ k)) at ∙ stands))))
    (λ i m.
    let (j, a, at) = Memᴰ.of_map (λ i. k + i) (positions n) m in
    let l = near j a in
    mem_positions (n * 2 ^ k % 2 ^ 64) i (omega arith) (ap (bit (n * 2 ^ k % 2 ^ 64)) (sym at) ∙ bit_mod (n * 2 ^ k) 64 (k + j) l ∙ bit_shl n k j ∙ (positions_mem n a).1))
