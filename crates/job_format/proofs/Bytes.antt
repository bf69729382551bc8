-- Numbers as bytes: as many as are asked for, and a number that fits is read back from them. Assumes nothing.
use Prim.Native.Nat.{ℕ, zero, suc, ◌+◌, ◌-◌, ◌*◌, ◌/◌, ◌%◌, ◌^◌, ◌≤◌, ◌<◌}
use mathlib.Core.Path.{◌≡◌, refl, sym, ap, ap₂, ◌∙◌, subst}
use mathlib.Core.List.{List, [], ◌∷◌, ◌++◌, Memᴰ}
use native.Mathlib.Omega.{arith}
use native.Mathlib.Nat.{pow-suc, pow-le-pow_right, div-one}
use lib.Pow.{shr-shr}
use Rattle.std.specs.Int.{w64, from_le_bytes}
use Rattle.std.proofs.lemmas.List.{drop-replicate, length-replicate}
use lib.ListN.{length, get_or, take, drop, replicate, length-append, take-append-drop, length-take, length-drop}
use Rattle.semigroups.specs.Lists.{Bytes}
use Rattle.job_format.specs.Bytes.{bytes_of, value_of}

-- ---- a number and its bytes

-- the bytes of a known number, lowest byte first
pub known_bytes : (bytes_of 2 0x0102 ≡ 2 ∷ 1 ∷ []) × (value_of (2 ∷ 1 ∷ []) ≡ 0x0102)
unfolding bytes_of value_of
known_bytes = (refl, refl)

-- a number has as many bytes as are asked for
pub bytes_length : (n v : ℕ) → length (bytes_of n v) ≡ n
unfolding bytes_of
bytes_length zero v = refl
bytes_length (suc n) v = ap suc (bytes_length n (v / 256))

-- a number that fits is read back
pub bytes_value : (n v : ℕ) → v < 256 ^ n → value_of (bytes_of n v) ≡ v
unfolding bytes_of value_of
bytes_value zero v h = omega arith
bytes_value (suc n) v h = omega (arith, bytes_value n (v / 256) (omega (arith, pow-suc 256 n)))

-- byte i is what stands 8 i bits up
pub bytes_entry : (n v i : ℕ) → i < n → get_or (bytes_of n v) i 0 ≡ v / 2 ^ (8 * i) % 256
unfolding bytes_of
bytes_entry zero v i h = absurd (omega arith)
bytes_entry (suc n) v zero h = ap (λ (x : ℕ). x % 256) (sym (div-one v))
bytes_entry (suc n) v (suc i) h =
    let further : 8 + 8 * i ≡ 8 * suc i = omega arith in
    bytes_entry n (v / 256) i (omega arith) ∙ ap (λ (x : ℕ). x % 256) (shr-shr v 8 (8 * i) ∙ ap (λ (k : ℕ). v / 2 ^ k) further)

-- ---- the library's bytes

-- at most 8 bytes have their number
eight_bytes : (l : List ℕ) → length l ≤ 8 → from_le_bytes w64 l ≡ value_of l
unfolding value_of
eight_bytes [] long = refl
eight_bytes (a ∷ []) long = omega arith
eight_bytes (a ∷ b ∷ []) long = omega arith
eight_bytes (a ∷ b ∷ c ∷ []) long = omega arith
eight_bytes (a ∷ b ∷ c ∷ d ∷ []) long = omega arith
eight_bytes (a ∷ b ∷ c ∷ d ∷ e ∷ []) long = omega arith
eight_bytes (a ∷ b ∷ c ∷ d ∷ e ∷ f ∷ []) long = omega arith
eight_bytes (a ∷ b ∷ c ∷ d ∷ e ∷ f ∷ g ∷ []) long = omega arith
eight_bytes (a ∷ b ∷ c ∷ d ∷ e ∷ f ∷ g ∷ h ∷ []) long = omega arith
eight_bytes (a ∷ b ∷ c ∷ d ∷ e ∷ f ∷ g ∷ h ∷ i ∷ l) long = absurd (omega arith)

-- bytes of 0 above others add nothing
zeros_above : (l : List ℕ) (n : ℕ) → value_of (l ++ replicate n 0) ≡ value_of l
unfolding value_of
zeros_above [] zero = refl
zeros_above [] (suc n) = omega (arith, zeros_above [] n)
zeros_above (b ∷ l) n = ap (λ (v : ℕ). b + v * 256) (zeros_above l n)

-- 8 bytes, those above the first n being 0
pub padded_value : (n : ℕ) (l : List ℕ) → n ≤ 8 → length l ≡ n → from_le_bytes w64 (l ++ drop n (replicate 8 0)) ≡ value_of l
padded_value n l few long =
    let padded : drop n (replicate 8 0) ≡ replicate (8 - n) 0 = drop-replicate n 8 0 in
    ap (λ (k : List ℕ). from_le_bytes w64 (l ++ k)) padded
    ∙ eight_bytes (l ++ replicate (8 - n) 0) (omega (arith, length-append l (replicate (8 - n) 0), length-replicate {A = ℕ} (8 - n) 0))
    ∙ zeros_above l (8 - n)

-- ---- lists of bytes

-- a list of which each entry is a byte
pub entries_bytes : (l : List ℕ) → ((i : ℕ) → get_or l i 0 < 256) → Bytes l
entries_bytes [] h x m = absurd (mathlib.Core.List.Memᴰ.not-nil m)
entries_bytes (b ∷ l) h x (mathlib.Core.List.Memᴰ.head e) = omega (arith, e, h 0)
entries_bytes (b ∷ l) h x (mathlib.Core.List.Memᴰ.tail m) = entries_bytes l (λ i. h (suc i)) x m

-- a part of a list of bytes is one
pub bytes_part : (n p : ℕ) (l : List ℕ) → Bytes l → Bytes (take n (drop p l))
bytes_part n p l h x m =
    let later : Memᴰ x (drop p l) = subst (Memᴰ x) (take-append-drop n (drop p l)) (mathlib.Core.List.Memᴰ.append_left (drop n (drop p l)) m) in
    h x (subst (Memᴰ x) (take-append-drop p l) (mathlib.Core.List.Memᴰ.append_right (take p l) later))

-- n bytes have a number below 256 ^ n
pub value_lt : (l : List ℕ) → Bytes l → value_of l < 256 ^ length l
unfolding value_of
value_lt [] h = omega arith
value_lt (b ∷ l) h = omega (arith, value_lt l (λ x m. h x (mathlib.Core.List.Memᴰ.tail m)), h b (mathlib.Core.List.Memᴰ.head refl), pow-suc 256 (length l))

-- bytes are those of their number
pub value_bytes : (l : List ℕ) → Bytes l → bytes_of (length l) (value_of l) ≡ l
unfolding bytes_of value_of
value_bytes [] h = refl
value_bytes (b ∷ l) h =
    let low : (b + value_of l * 256) % 256 ≡ b = omega (arith, h b (mathlib.Core.List.Memᴰ.head refl)) in
    let high : (b + value_of l * 256) / 256 ≡ value_of l = omega (arith, h b (mathlib.Core.List.Memᴰ.head refl)) in
    ap₂ ◌∷◌ low (ap (bytes_of (length l)) high ∙ value_bytes l (λ x m. h x (mathlib.Core.List.Memᴰ.tail m)))

-- a number of k bytes is one of n bytes
pub fewer_bytes : (v n : ℕ) {k : ℕ} → v < 256 ^ k → k ≤ n → v < 256 ^ n
fewer_bytes v n h few = omega (arith, pow-le-pow_right {n = 256} (omega arith) few)

-- ---- bytes of a list from a place on

module _ (place size : ℕ) (l : List ℕ) (within : place + size ≤ length l) where
  abbrev Part : List ℕ
  Part = take size (drop place l)

  -- as many as are asked for
  pub part_length : length Part ≡ size
  part_length = length-take size (drop place l) ∙ omega (arith, length-drop place l)
