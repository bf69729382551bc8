-- The gaps of a word below the least one that is a sum of two positive elements, by shifts: a positive element moves the positive elements up,
-- and the lowest bit that these sums and the gaps have in common tells the least gap among them. Assumes nothing.
use Prim.Native.Nat.{ℕ, zero, suc, ◌+◌, ◌*◌, ◌-◌, ◌/◌, ◌%◌, ◌^◌, ◌≤◌, ◌<◌}
use mathlib.Core.Path.{◌≡◌, refl, sym, ap, ap₂, ◌∙◌}
use mathlib.Core.Logic.{◌⊎◌, inl, inr, ◌≢◌, ◌↔◌, ⊎_elim}
use mathlib.Core.Bool.{true, false, not, ◌&&◌, and-eq-true_iff}
use mathlib.Core.List.{List, [], ◌∷◌, Memᴰ}
use native.Mathlib.Omega.{arith}
use native.Mathlib.Nat.{lt_of_not-le, le_of_suc-le-suc, le_antisymm, le_dest, mod-lt, mod-eq_of_lt}
use native.Mathlib.Decide.{dec_lt}
use lib.Dec.{ltb}
use lib.Bits.{bit_and, and_mask}
use lib.Count.{count_trailing_zeros, trailing_of_zero}
use lib.ListN.{get_or}
use lib.Pow.{pow_pos, mod-mod-pow}
use borrow.Author.Tests.{ltb-true, lt-ltb, not-true, not-false}
use Rattle.semigroups.specs.Lists.{run, keep, keep_if, every, Ordered}
use Rattle.semigroups.specs.Sets.{Set, sum_of_two}
use Rattle.semigroups.specs.Words.{bit, set_of, gaps, closed}
use Rattle.semigroups.specs.Elements.{multiplicity}
use Rattle.semigroups.specs.GapSums.{gap_sums, least_gap_sum}
use Rattle.semigroups.specs.Positions.{bits_from}
use Rattle.semigroups.proofs.Booleans.{not_both, is_true, is_false}
use Rattle.semigroups.proofs.Lists.{nothing, keep_mem, mem_keep, every_mem, every_false, ordered_keep, least_first}
use Rattle.semigroups.proofs.Bits.{bit_past, bit_shr, bit_low, bit_zero, one_shl}
use Rattle.semigroups.proofs.Sets.{sum_of, sum_found}
use Rattle.semigroups.proofs.Words.{element_past, gap_pos, gap_le_64, gaps_of, gaps_mem, mem_gaps}
use Rattle.semigroups.proofs.StandingBits.{trailing_below, trailing_stands, trailing_lt}
use Rattle.semigroups.proofs.BitSets.{bits_from_lt, bits_from_none, bits_from_and, bits_from_shl, bits_from_below, bits_from_before, bits_from_lowest, word_from, complement_from}
use Rattle.semigroups.proofs.Elements.{multiplicity_in, multiplicity_pos, multiplicity_least}
use Rattle.semigroups.proofs.Operations.{complement, bit_element}

-- the gaps below n, as bits
abbrev pub gaps_below : ℕ → ℕ → ℕ
gaps_below w n = w % 2 ^ (n - 1)

-- of some gaps as bits those that are sums with a
abbrev pub sums_among : ℕ → ℕ → ℕ → ℕ
sums_among w a left = bit_and (complement w * 2 ^ a % 2 ^ 64) left

-- the least element above a, and a + 65 where there is none up to 64
abbrev pub next_element : ℕ → ℕ → ℕ
next_element w a = a + (count_trailing_zeros 64 (complement w / 2 ^ a) + 1)

-- the sums with the positive elements below the element a are tried: no gap among them is below `least`, which is a gap and a sum, or 65, and
-- the gaps below it are left
pub record Tried (w a left : ℕ) : Type 0 where
  pub positive : 0 < a
  pub element : set_of w a ≡ true
  pub least : ℕ
  pub found : (least ≡ 65) ⊎ Memᴰ least (gap_sums w)
  pub smallest : (x y : ℕ) → 0 < x → x < a → set_of w x ≡ true → 0 < y → set_of w y ≡ true → set_of w (x + y) ≡ false → least ≤ x + y
  pub below : left ≡ gaps_below w least

-- of the gaps 1, 3, 4 and 7 of word 77, 4 is 2 + 2 and 7 is 2 + 5
pub known_gap_sums : (gap_sums 77 ≡ 4 ∷ 7 ∷ []) × (least_gap_sum 77 ≡ 4)
unfolding run keep keep_if every sum_of_two bit set_of gaps gap_sums least_gap_sum
known_gap_sums = (refl, refl)

module _ (w : ℕ) (fits : w < 2 ^ 64) where
  -- which gaps are sums
  gap_sums_mem : {x : ℕ} → Memᴰ x (gap_sums w) → (set_of w x ≡ false) × (sum_of_two (set_of w) x ≡ true)
  unfolding gap_sums
  gap_sums_mem m = let (i, e) = keep_mem (sum_of_two (set_of w)) (gaps w) m in (gaps_mem w i, e)

  -- and back
  mem_gap_sums : (x : ℕ) → set_of w x ≡ false → sum_of_two (set_of w) x ≡ true → Memᴰ x (gap_sums w)
  unfolding gap_sums
  mem_gap_sums x gap sum = mem_keep (sum_of_two (set_of w)) (gaps w) (mem_gaps w x fits gap) sum

  -- they rise
  gap_sums_ordered : Ordered ◌<◌ (gap_sums w)
  unfolding gap_sums
  gap_sums_ordered = ordered_keep ◌<◌ (sum_of_two (set_of w)) (gaps w) (gaps_of w fits).rising

  -- none of them is below the least
  gap_sums_least : {x : ℕ} → Memᴰ x (gap_sums w) → least_gap_sum w ≤ x
  unfolding least_gap_sum
  gap_sums_least {x} m = (least_first (gap_sums w) 65 gap_sums_ordered m).1 x m

  -- which is one, where there is one
  gap_sums_first : {x : ℕ} → Memᴰ x (gap_sums w) → Memᴰ (least_gap_sum w) (gap_sums w)
  unfolding least_gap_sum
  gap_sums_first m = (least_first (gap_sums w) 65 gap_sums_ordered m).0

  -- the gaps below n, by a test of each number
  gaps_below_bits : (n : ℕ) → gaps_below w n ≡ bits_from (λ x. not (set_of w x) && ltb x n) 1
  gaps_below_bits n = ap (λ (m : ℕ). gaps_below m n) (word_from w fits) ∙ bits_from_below (λ x. not (set_of w x)) n

  -- ---- the sums with an element a

  -- x is a sum with a, and a gap below n
  abbrev sum_with : ℕ → ℕ → Set
  sum_with a n x = (ltb a x && set_of w (x - a)) && (not (set_of w x) && ltb x n)

  -- the sums with a among the gaps below n, by that test
  sums_as_bits : (a n : ℕ) → sums_among w a (gaps_below w n) ≡ bits_from (sum_with a n) 1
  sums_as_bits a n =
      ap₂ (λ (m k : ℕ). bit_and (m * 2 ^ a % 2 ^ 64) k) (complement_from w fits) (gaps_below_bits n)
      ∙ ap (λ (m : ℕ). bit_and m (bits_from (λ x. not (set_of w x) && ltb x n) 1)) (bits_from_shl (set_of w) a)
      ∙ bits_from_and (λ x. ltb a x && set_of w (x - a)) (λ x. not (set_of w x) && ltb x n) 1

  -- what the test says
  sum_with_means : (a n x : ℕ) → (sum_with a n x ≡ true) ↔ ((a < x) × (set_of w (x - a) ≡ true) × (set_of w x ≡ false) × (x < n))
  sum_with_means a n x = (
    λ e.
        let (sum, gap) = (and-eq-true_iff (ltb a x && set_of w (x - a)) (not (set_of w x) && ltb x n)).0 e in
        let (less, other_in) = (and-eq-true_iff (ltb a x) (set_of w (x - a))).0 sum in
        let (out, below) = (and-eq-true_iff (not (set_of w x)) (ltb x n)).0 gap in
        (ltb-true a x less, other_in, not-true _ out, ltb-true x n below),
    λ (less, other_in, out, below).
        (and-eq-true_iff (ltb a x && set_of w (x - a)) (not (set_of w x) && ltb x n)).1 (
          (and-eq-true_iff (ltb a x) (set_of w (x - a))).1 (lt-ltb a x less, other_in),
          (and-eq-true_iff (not (set_of w x)) (ltb x n)).1 (ap not out, lt-ltb x n below),
        ),
  )

  module _ (a n left : ℕ) (below : left ≡ gaps_below w n) where
    -- the place of the lowest, as a bit
    abbrev zeros : ℕ
    zeros = count_trailing_zeros 64 (sums_among w a left)

    -- the same of the gaps left
    as_bits : sums_among w a left ≡ bits_from (sum_with a n) 1
    as_bits = ap (sums_among w a) below ∙ sums_as_bits a n

    -- the lowest of the sums with a among the gaps below n: no smaller one is such a sum
    with_least : (y : ℕ) → 0 < y → set_of w y ≡ true → set_of w (a + y) ≡ false → a + y < n → zeros + 1 ≤ a + y
    with_least y pos y-in gap small =
        let rest : a + y - a ≡ y = omega arith in
        let here = (sum_with_means a n (a + y)).1 (omega arith, ap (set_of w) rest ∙ y-in, gap, small) in
        le_of_suc-le-suc (lt_of_not-le (λ l.
        not_both here (bits_from_before (sum_with a n) 1 (a + y) (omega arith) (omega (arith, ap (count_trailing_zeros 64) as_bits)))))

    -- where there is one, it is a gap and a sum, and below n
    with_found : 0 < a → set_of w a ≡ true → sums_among w a left ≢ 0 → Memᴰ (zeros + 1) (gap_sums w) × (zeros + 1 < n)
    with_found pos a_in nonzero =
        let x : ℕ = zeros + 1 in
        let bits = ap (count_trailing_zeros 64) as_bits in
        let place : 1 + count_trailing_zeros 64 (bits_from (sum_with a n) 1) ≡ x = omega arith in
        let some-bit : 0 < bits_from (sum_with a n) 1 = lt_of_not-le (λ l. nonzero (as_bits ∙ omega arith)) in
        let (less, other_in, gap, small) = (sum_with_means a n x).0 (ap (sum_with a n) (sym place)
        ∙ bits_from_lowest (sum_with a n) 1 (trailing_lt 64 (bits_from (sum_with a n) 1) some-bit (bits_from_lt (sum_with a n) 1))) in
        (mem_gap_sums x gap (sum_found (set_of w) x a (x - a) pos (omega arith) (omega arith) a_in other_in), small)

  -- ---- the next element

  -- bit j of the complement moved down by a
  next_bit : (a j : ℕ) → a + j < 64 → bit (complement w / 2 ^ a) j ≡ set_of w (suc (a + j))
  next_bit a j h = bit_shr (complement w) a j ∙ bit_element w fits (a + j) h

  -- the next element is one
  next_in : (a : ℕ) → set_of w (next_element w a) ≡ true
  next_in a =
      let between : ℕ = count_trailing_zeros 64 (complement w / 2 ^ a) in
      let same : suc (a + between) ≡ next_element w a = omega arith in
      elim (dec_lt (a + between) 64) [
        | yes h ↦ ap (set_of w) (sym same) ∙ sym (next_bit a between h) ∙ trailing_stands 64 (complement w / 2 ^ a) (omega arith)
        | no h ↦ element_past w 64 (next_element w a) fits (omega arith)
      ]

  -- and none up to 64 is between
  next_least : (a x : ℕ) → a < x → x < next_element w a → x ≤ 64 → set_of w x ≡ false
  next_least a x low high small =
      let (j, e) = le_dest low in
      let at : suc (a + j) ≡ x = omega arith in
      ap (set_of w) (sym at) ∙ sym (next_bit a j (omega arith)) ∙ trailing_below 64 (complement w / 2 ^ a) j (omega arith)

  -- ---- the elements one after the other

  -- at first: no positive element is below the multiplicity, and all gaps are left
  pub tried_none : Tried w (multiplicity w) w
  tried_none = record {
    positive = multiplicity_pos w fits;
    element = multiplicity_in w fits;
    least = 65;
    found = inl refl;
    smallest = λ x y pos less x-in y-pos y-in gap. absurd (omega (arith, multiplicity_least w fits x pos x-in));
    below = sym (mod-eq_of_lt fits);
  }

  module _ (a left : ℕ) (t : Tried w a left) where
    -- the least found so far
    abbrev least : ℕ
    least = t.least

    -- it is a gap, or 65
    least_range : (1 ≤ least) × (least ≤ 65)
    least_range =
        ⊎_elim (λ e. (omega arith, omega arith))
        (λ m. let gap = (gap_sums_mem m).0 in (gap_pos w least gap, omega (arith, gap_le_64 w least fits gap))) t.found

    -- with the sums with a, the lesser of the two is the least
    tried_more : (next rest : ℕ) → next ≤ least → ((y : ℕ) → 0 < y → set_of w y ≡ true → set_of w (a + y) ≡ false → a + y < least → next ≤ a + y)
        → (next ≡ 65) ⊎ Memᴰ next (gap_sums w) → rest ≡ gaps_below w next → Tried w (next_element w a) rest
    tried_more next rest lesser sums found below = record {
      positive = omega arith;
      element = next_in a;
      least = next;
      found = found;
      smallest = λ x y pos less x-in y-pos y-in gap. elim (dec_lt x a) [
        | yes h ↦ omega (arith, t.smallest x y pos h x-in y-pos y-in gap)
        | no h ↦ elim (dec_lt a x) [
          | yes k ↦ absurd (not_both x-in (next_least a x k less (omega (arith, gap_le_64 w (x + y) fits gap))))
          | no k ↦
              let same : x ≡ a = omega arith in
              elim (dec_lt (a + y) least) [
                | yes l ↦ omega (arith, sums y y-pos y-in (ap (λ (z : ℕ). set_of w (z + y)) (sym same) ∙ gap) l)
                | no l ↦ omega arith
              ]
        ]
      ];
      below = below;
    }

    -- a smaller one is found: the gaps below it are left
    pub tried_less : sums_among w a left ≢ 0 → let zeros = count_trailing_zeros 64 (sums_among w a left) in
        (zeros < 64) × Tried w (next_element w a) (bit_and left (1 * 2 ^ zeros % 2 ^ 64 - 1))
    tried_less nonzero =
        let zeros : ℕ = count_trailing_zeros 64 (sums_among w a left) in
        let (m, smaller) = with_found a least left t.below t.positive t.element nonzero in
        let small : zeros + 1 < least = smaller in
        let (low, high) = least_range in
        let (j, e) = le_dest small in
        let parts : least - 1 ≡ suc j + zeros = omega arith in
        let place : zeros ≡ zeros + 1 - 1 = omega arith in (
          omega arith,
          tried_more (zeros + 1) (bit_and left (1 * 2 ^ zeros % 2 ^ 64 - 1)) (omega arith) (with_least a least left t.below) (inr m)
              (ap₂ (λ (k n : ℕ). bit_and k (n - 1)) t.below (one_shl zeros (omega arith)) ∙ and_mask (gaps_below w least) zeros
              ∙ ap (λ (n : ℕ). w % 2 ^ n % 2 ^ zeros) parts ∙ mod-mod-pow w (suc j) zeros ∙ ap (λ (n : ℕ). w % 2 ^ n) place),
        )

    -- no smaller one is
    pub tried_same : sums_among w a left ≡ 0 → Tried w (next_element w a) left
    tried_same none =
        tried_more least left (omega arith) (λ y pos y-in gap l.
        absurd (omega (arith, with_least a least left t.below y pos y-in gap l, ap (count_trailing_zeros 64) none ∙ trailing_of_zero 64, gap_le_64 w (a + y) fits gap)))
        t.found t.below

    -- no gap of at least twice n is left
    abbrev pub NoneLeft : ℕ → Type 0
    NoneLeft n = (32 < n) ⊎ (left / 2 ^ (2 * n - 1) ≡ 0)

    -- so that no such gap is below the least found
    none_left : (n : ℕ) → 0 < n → NoneLeft n → (x : ℕ) → set_of w x ≡ false → n + n ≤ x → least ≤ x
    unfolding set_of
    none_left n pos none x gap high =
        ⊎_elim (λ l. omega (arith, gap_le_64 w x fits gap)) (λ e.
        let (j, sum) = le_dest high in
        let place : 2 * n - 1 + j ≡ x - 1 = omega arith in
        let next : suc (x - 1) ≡ x = omega arith in
        le_of_suc-le-suc (lt_of_not-le (λ l.
        not_both (bit_low w (least - 1) (x - 1) ∙ (and-eq-true_iff (bit w (x - 1)) (ltb (x - 1) (least - 1))).1
        (not-false _ (ap (set_of w) next ∙ gap), lt-ltb (x - 1) (least - 1) (omega arith)))
        (ap₂ bit (sym t.below) (sym place) ∙ sym (bit_shr left (2 * n - 1) j) ∙ ap (λ (b : ℕ). bit b j) e ∙ bit_zero j)))) none

    -- then, where n is at most a, no sum of other elements is a smaller one: of two summands one is at most half of their sum
    tried_all : (n : ℕ) → 0 < n → n ≤ a → NoneLeft n → (x : ℕ) → Memᴰ x (gap_sums w) → least ≤ x
    tried_all n pos low none x m =
        let (gap, sum) = gap_sums_mem m in
        let s = sum_of (set_of w) x sum in
        let other_way : s.other + s.one ≡ x = omega (arith, s.sum) in
        elim (dec_lt s.one a) [
          | yes k ↦ omega (arith, s.sum, t.smallest s.one s.other s.one_pos k s.one_in s.other_pos s.other_in (ap (set_of w) s.sum ∙ gap))
          | no k ↦ elim (dec_lt s.other a) [
            | yes l ↦ omega (arith, t.smallest s.other s.one s.other_pos l s.other_in s.one_pos s.one_in (ap (set_of w) other_way ∙ gap))
            | no l ↦ none_left n pos none x gap (omega (arith, s.sum))
          ]
        ]

    -- so that the gaps below the least one that is a sum are left
    pub tried_left : (n : ℕ) → 0 < n → n ≤ a → NoneLeft n → left ≡ w % 2 ^ (least_gap_sum w - 1)
    unfolding least_gap_sum
    tried_left n pos low none =
        let all = tried_all n pos low none in
        let same : least_gap_sum w ≡ least =
        ⊎_elim
        (λ e. ap (λ (l : List ℕ). get_or l 0 65) (nothing (gap_sums w) (λ x m. omega (arith, all x m, gap_le_64 w x fits (gap_sums_mem m).0))) ∙ sym e)
        (λ m. le_antisymm (gap_sums_least m) (all (least_gap_sum w) (gap_sums_first m))) t.found in
        t.below ∙ ap (gaps_below w) (sym same)

-- ---- what the least one tells

-- x is the least gap of w that is a sum of two positive elements
pub record LeastGapSum (w x : ℕ) : Type 0 where
  pub gap : set_of w x ≡ false
  pub sum : sum_of_two (set_of w) x ≡ true
  pub least : (y : ℕ) → set_of w y ≡ false → sum_of_two (set_of w) y ≡ true → x ≤ y

module _ (w : ℕ) (fits : w < 2 ^ 64) where
  -- there is one where the set is not closed under addition
  pub least_gap_sum_is : closed w ≡ false → LeastGapSum w (least_gap_sum w)
  unfolding closed
  least_gap_sum_is fails =
      let (x, m, e) = every_false _ (gaps w) fails in
      let (gap, sum) = gap_sums_mem w fits (gap_sums_first w fits (mem_gap_sums w fits x (gaps_mem w m) (not-false _ e))) in
      record { gap = gap; sum = sum; least = λ y out s. gap_sums_least w fits (mem_gap_sums w fits y out s) }

  -- where 1 is an element, every number below it is: the first gap would be the sum of 1 and the number before it
  below_least : set_of w 1 ≡ true → (x : ℕ) → x < least_gap_sum w → set_of w x ≡ true
  unfolding set_of
  below_least one_in zero h = refl
  below_least one_in (suc zero) h = one_in
  below_least one_in (suc (suc i)) h =
      is_true (set_of w (suc (suc i))) (λ gap.
      let sum = sum_found (set_of w) (suc (suc i)) 1 (suc i) (omega arith) (omega arith) (omega arith) one_in (below_least one_in (suc i) (omega arith)) in
      omega (arith, gap_sums_least w fits (mem_gap_sums w fits (suc (suc i)) gap sum)))

  -- so that no gap is
  pub possible_none : set_of w 1 ≡ true → 0 ≡ w % 2 ^ (least_gap_sum w - 1)
  possible_none one_in =
      bits_from_none _ 1 (λ x low high. is_false _ (λ t.
      let (gap, less) = (and-eq-true_iff (not (set_of w x)) (ltb x (least_gap_sum w))).0 t in
      not_both (below_least one_in x (ltb-true x (least_gap_sum w) less)) (not-true _ gap)))
      ∙ sym (gaps_below_bits w fits (least_gap_sum w))

  -- all gaps are below it just where the set is closed under addition
  pub possible_all : (w % 2 ^ (least_gap_sum w - 1) ≡ w) ↔ (closed w ≡ true)
  unfolding closed least_gap_sum set_of
  possible_all = (
    λ e. is_true (closed w) (λ fails.
        let s = least_gap_sum_is fails in
        let next : suc (least_gap_sum w - 1) ≡ least_gap_sum w = omega (arith, gap_pos w (least_gap_sum w) s.gap) in
        not_both (ap (λ (n : ℕ). bit n (least_gap_sum w - 1)) e ∙ not-false _ (ap (set_of w) next ∙ s.gap))
        (bit_past (w % 2 ^ (least_gap_sum w - 1)) (least_gap_sum w - 1) (least_gap_sum w - 1) (mod-lt w (pow_pos (least_gap_sum w - 1))) (omega arith))),
    λ c.
        let none : gap_sums w ≡ [] = nothing (gap_sums w) (λ x m. let (gap, sum) = gap_sums_mem w fits m in not_both sum (not-true _ (every_mem _ (gaps w) c (mem_gaps w x fits gap)))) in
        ap (λ (l : List ℕ). w % 2 ^ (get_or l 0 65 - 1)) none ∙ mod-eq_of_lt fits,
  )
