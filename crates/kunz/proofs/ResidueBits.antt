-- The gaps of a residue as bits: counted in a word they are its coordinate, and a list says so many for each place. Assumes nothing.
use Prim.Native.Nat.{ℕ, suc, ◌+◌, ◌*◌, ◌/◌, ◌%◌, ◌^◌, ◌≤◌, ◌<◌}
use mathlib.Core.Path.{◌≡◌, refl, sym, ap, ap₂, ◌∙◌, fun_ext}
use mathlib.Core.Bool.{Bool, true, false, not, ◌||◌, ◌&&◌, and-eq-true_iff, and-or_distrib_right, not-not}
use mathlib.Core.List.{List}
use native.Mathlib.Omega.{arith}
use native.Mathlib.Nat.{zero-add, mod-lt, mod-eq_of_lt, mul-mod_right, mul-lt-mul_of_pos_left, lt_of_mul-lt-mul_left, mul-le-mul_right, one-mul, div-add-mod, lt_of_lt_of_le, lt_of_le_of_lt, div-le_self, le_dest}
use lib.Dec.{eqb, ltb, leb}
use lib.Bits.{bit_and, bit_or, and_lt}
use lib.Count.{ones}
use lib.Pow.{pow_pos, pow_mono}
use lib.ListN.{length, get_or}
use borrow.Author.Tests.{eq-eqb, ne_eqb, eqb-true, lt-ltb, ltb-true, ltb-false, le-leb, lt-leb, leb-true, leb-false, not-true}
use Rattle.semigroups.specs.Sets.{Set, gaps_to}
use Rattle.semigroups.specs.Words.{bit, set_of, word_of, closed}
use Rattle.semigroups.specs.Positions.{bits_from}
use Rattle.semigroups.specs.Elements.{multiplicity}
use Rattle.semigroups.proofs.Booleans.{by_value, true_together}
use Rattle.semigroups.proofs.Bits.{bit_of_and, bit_past, bit_shr, bit_shl, bit_shl_low, bit_mod, bit_low}
use Rattle.semigroups.proofs.Counting.{count_below, count_same}
use Rattle.semigroups.proofs.StandingBits.{ones_count}
use Rattle.semigroups.proofs.BitSets.{bits_from_bit, bits_from_lt, bits_from_is, bits_from_none, bits_from_same, bits_from_or, word_bits}
use Rattle.coordinates.specs.Coordinates.{coordinate, modulus, entry_at, set_said}
use Rattle.coordinates.proofs.Residues.{residue_mod, count_multiples, count_threshold}
use Rattle.coordinates.proofs.WordCoordinates.{coordinate_bound, element_from_coordinate}
use Rattle.coordinates.proofs.Said.{said_at}
use Rattle.kunz.specs.Private.{multiples_as_bits}

-- ---- counted in a word

-- in a number of 64 bits, those at multiples of m
ones_at_multiples : (m a : ℕ) → 0 < m → a < 2 ^ 64 → ones (bit_and a (multiples_as_bits m)) ≡ count_below (λ t. bit a (m * t)) 64
ones_at_multiples m a pos fits =
    let n : ℕ = bit_and a (multiples_as_bits m) in
    let small : n < 2 ^ 64 = and_lt 64 a (multiples_as_bits m) fits (bits_from_lt _ 0) in
    let wide : 64 ≤ m * 64 = omega (arith, mul-le-mul_right 64 pos, one-mul 64) in
    ones_count (m * 64) n (lt_of_lt_of_le small (pow_mono {i = 64} wide))
    ∙ count_same (bit n) (λ j. bit a j && eqb (j % m) 0) (m * 64) (λ j. bit_of_and a (multiples_as_bits m) j ∙ at j)
    ∙ count_multiples (bit a) m 64 pos
  where
    at : (j : ℕ) → (bit a j && bit (multiples_as_bits m) j) ≡ (bit a j && eqb (j % m) 0)
    at j =
        by_value (ltb j 64)
        (λ l. ap (λ (b : Bool). bit a j && b) (bits_from_bit (λ i. eqb (i % m) 0) 0 j (ltb-true j 64 l) ∙ ap (λ (i : ℕ). eqb (i % m) 0) (zero-add j)))
        (λ l. rw (bit_past a 64 j fits (ltb-false j 64 l)))

-- the bits of a closed word at k and m further each: the gaps that leave k + 1, as many as the coordinate
pub coordinate_ones : (w : ℕ) → w < 2 ^ 64 → closed w ≡ true → (k : ℕ) → suc k < multiplicity w
    → ones (bit_and (w / 2 ^ k) (multiples_as_bits (multiplicity w))) ≡ coordinate w (suc k)
unfolding set_of
coordinate_ones w fits c k h =
    let m : ℕ = multiplicity w in
    let x : ℕ = coordinate w (suc k) in
    ones_at_multiples m (w / 2 ^ k) (omega arith) (lt_of_le_of_lt (div-le_self w (2 ^ k)) fits)
    ∙ count_same (λ t. bit (w / 2 ^ k) (m * t)) (λ t. not (leb x t)) 64 (λ t.
    let place : suc (k + m * t) ≡ m * t + suc k = omega arith in
    bit_shr w k (m * t) ∙ sym (not-not (bit w (k + m * t)))
    ∙ ap not (ap (set_of w) place ∙ element_from_coordinate w fits c t (suc k) h))
    ∙ count_threshold x 64 ∙ omega (arith, coordinate_bound w fits (suc k) h)

-- ---- said by a list

module _ (l : List ℕ) where
  -- the m of the list
  abbrev m : ℕ
  m = modulus l

  -- the gaps that leave at most k
  abbrev pub gaps_leaving_to : ℕ → Set
  gaps_leaving_to k y = leb (y % modulus l) k && not (set_said l y)

  -- and those that leave i
  abbrev gaps_leaving : ℕ → Set
  gaps_leaving i y = eqb (y % modulus l) i && not (set_said l y)

  -- a multiple of m is no gap
  pub gaps_none : 0 ≡ bits_from (gaps_leaving_to 0) 1
  unfolding entry_at set_said
  gaps_none =
      bits_from_none (gaps_leaving_to 0) 1 (λ y low high. by_value (leb (y % m) 0)
      (λ e.
      let none : y % m ≡ 0 = omega (arith, leb-true (y % m) 0 e) in
      rw none (ap not (le-leb 0 (y / m) (omega arith))))
      (λ e. rw e))

  -- the multiples of m below m x, moved up by k: the gaps that leave k + 1, where x is the entry there
  residue_gap : (k i : ℕ) → suc k < m → (eqb (i % m) 0 && ltb i (m * entry_at l (suc k))) ≡ gaps_leaving (suc k) (suc k + i)
  residue_gap k i h = true_together _ _ there back
    where
      x : ℕ
      x = entry_at l (suc k)

      there : (eqb (i % m) 0 && ltb i (m * x)) ≡ true → gaps_leaving (suc k) (suc k + i) ≡ true
      there e =
          let (r, low) = (and-eq-true_iff (eqb (i % m) 0) (ltb i (m * x))).0 e in
          let t : ℕ = i / m in
          let whole : m * t ≡ i = omega (arith, div-add-mod i m, eqb-true (i % m) 0 r) in
          let place : suc k + i ≡ m * t + suc k = omega arith in
          let below : t < x = lt_of_mul-lt-mul_left m (omega (arith, ltb-true i (m * x) low)) in
          rw (place, residue_mod m t (suc k) h, eq-eqb (suc k) (suc k) refl, said_at l t (suc k) h, lt-leb x t below)

      back : gaps_leaving (suc k) (suc k + i) ≡ true → (eqb (i % m) 0 && ltb i (m * x)) ≡ true
      back e =
          let (r, gap) = (and-eq-true_iff (eqb ((suc k + i) % m) (suc k)) (not (set_said l (suc k + i)))).0 e in
          let t : ℕ = (suc k + i) / m in
          let place : m * t + suc k ≡ suc k + i = omega (arith, div-add-mod (suc k + i) m, eqb-true ((suc k + i) % m) (suc k) r) in
          let whole : m * t ≡ i = omega arith in
          let below : t < x = leb-false x t (sym (said_at l t (suc k) h) ∙ ap (set_said l) place ∙ not-true _ gap) in
          (and-eq-true_iff (eqb (i % m) 0) (ltb i (m * x))).1 (
            eq-eqb (i % m) 0 (ap (λ (n : ℕ). n % m) (sym whole) ∙ mul-mod_right m t),
            lt-ltb i (m * x) (omega (arith, mul-lt-mul_of_pos_left {k = m} below (omega arith))),
          )

  -- the same as bits
  residue_gaps : (k : ℕ) → k < length l
      → multiples_as_bits (modulus l) % 2 ^ (modulus l * get_or l k 0) * 2 ^ k % 2 ^ 64 ≡ bits_from (gaps_leaving (suc k)) 1
  unfolding entry_at
  residue_gaps k h =
      bits_from_is (gaps_leaving (suc k)) 1 (first * 2 ^ k % 2 ^ 64) (mod-lt (first * 2 ^ k) (pow_pos 64))
      (λ j small. bit_mod (first * 2 ^ k) 64 j small ∙ by_value (ltb j k) (λ e. low j (ltb-true j k e)) (λ e. high j small (le_dest (ltb-false j k e))))
    where
      first : ℕ
      first = multiples_as_bits m % 2 ^ (m * get_or l k 0)

      low : (j : ℕ) → j < k → bit (first * 2 ^ k) j ≡ gaps_leaving (suc k) (1 + j)
      low j less =
          let apart : eqb ((1 + j) % m) (suc k) ≡ false = ne_eqb ((1 + j) % m) (suc k) (λ e. let whole : (1 + j) % m ≡ 1 + j = mod-eq_of_lt (omega arith) in omega arith) in
          bit_shl_low first k j less ∙ sym (ap (λ (b : Bool). b && not (set_said l (1 + j))) apart)

      high : (j : ℕ) → j < 64 → (i : ℕ) × (k + i ≡ j) → bit (first * 2 ^ k) j ≡ gaps_leaving (suc k) (1 + j)
      high j small (i, e) =
          let place : suc k + i ≡ 1 + j = omega arith in
          ap (bit (first * 2 ^ k)) (sym e) ∙ bit_shl first k i ∙ bit_low (multiples_as_bits m) (m * get_or l k 0) i
          ∙ ap (λ (b : Bool). b && ltb i (m * get_or l k 0)) (bits_from_bit (λ n. eqb (n % m) 0) 0 i (omega arith) ∙ ap (λ (n : ℕ). eqb (n % m) 0) (zero-add i))
          ∙ residue_gap k i (omega arith) ∙ ap (gaps_leaving (suc k)) place

  -- the gaps that leave k + 1 put to those that leave at most k
  pub gaps_next : (word k : ℕ) → k < length l → word ≡ bits_from (gaps_leaving_to k) 1
      → bit_or word (multiples_as_bits (modulus l) % 2 ^ (modulus l * get_or l k 0) * 2 ^ k % 2 ^ 64) ≡ bits_from (gaps_leaving_to (k + 1)) 1
  gaps_next word k h e =
      ap₂ bit_or e (residue_gaps k h) ∙ bits_from_or (gaps_leaving_to k) (gaps_leaving (suc k)) 1
      ∙ ap (λ (S : Set). bits_from S 1) (fun_ext (λ y.
      sym (and-or_distrib_right (leb (y % m) k) (eqb (y % m) (suc k)) (not (set_said l y))) ∙ ap (λ (b : Bool). b && not (set_said l y)) (one_more (y % m))))
    where
      one_more : (r : ℕ) → (leb r k || eqb r (suc k)) ≡ leb r (k + 1)
      one_more r =
          by_value (leb r k)
          (λ t. let low = leb-true r k t in rw (t, le-leb r (k + 1) (omega arith)))
          (λ t. let past = leb-false r k t in rw t (true_together (eqb r (suc k)) (leb r (k + 1))
          (λ q. let same = eqb-true r (suc k) q in le-leb r (k + 1) (omega arith))
          (λ q. let low = leb-true r (k + 1) q in eq-eqb r (suc k) (omega arith))))

  -- those that leave at most m - 1 are all
  pub gaps_whole : (word : ℕ) → word ≡ bits_from (gaps_leaving_to (length l)) 1 → word ≡ word_of (gaps_to (set_said l) 64)
  gaps_whole word e =
      e ∙ bits_from_same (gaps_leaving_to (length l)) (λ y. not (set_said l y)) 1
      (λ y low high. rw (le-leb (y % m) (length l) (omega (arith, mod-lt y {m = m} (omega arith)))))
      ∙ sym (word_bits (set_said l))
