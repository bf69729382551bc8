-- The set that a list of coordinates says: which numbers it holds, that it is closed under addition just where the inequalities hold,
-- its gaps, and that the coordinates of a closed word say its set. Assumes nothing.
use Prim.Native.Nat.{ℕ, zero, suc, ◌+◌, ◌*◌, ◌-◌, ◌/◌, ◌%◌, ◌^◌, ◌≤◌, ◌<◌}
use mathlib.Core.Path.{◌≡◌, refl, sym, ap, ap₂, ◌∙◌}
use mathlib.Core.Logic.{◌↔◌}
use mathlib.Core.Bool.{true, false, not}
use mathlib.Core.List.{List, [], ◌∷◌}
use native.Mathlib.Omega.{arith}
use native.Mathlib.Nat.{zero-add, add-zero, le_refl, mul-add, mul-suc, mul-zero, mul-one, mul-le-mul_left, div-add-mod, mod-lt}
use native.Mathlib.Decide.{dec_lt}
use lib.Dec.{ltb, leb}
use lib.ListN.{length, get_or}
use borrow.Author.Tests.{lt-ltb, le-ltb, ltb-true, le-leb, lt-leb, leb-true, leb-false}
use Rattle.semigroups.specs.Lists.{run, every, sum_over}
use Rattle.semigroups.specs.Sets.{ClosedUnderAddition}
use Rattle.semigroups.specs.Words.{set_of, closed}
use Rattle.semigroups.specs.Elements.{multiplicity}
use Rattle.semigroups.proofs.Lists.{run_mem, mem_run, get_d_map_run, every_mem, mem_every, every_entry, sum_same, sum_places}
use Rattle.semigroups.proofs.Counting.{count_below, count_same}
use Rattle.semigroups.proofs.Elements.{multiplicity_pos}
use Rattle.coordinates.specs.Coordinates.{CoordinateOf, coordinate, kunz_coordinates, modulus, entry_at, inequality, inequalities, InequalitiesHold, set_said}
use Rattle.coordinates.proofs.Residues.{residue_div, residue_mod, count_residues, count_threshold}
use Rattle.coordinates.proofs.WordCoordinates.{coordinates_number, coordinate_least, coordinate_zero, element_from_coordinate}

-- an entry is at most the sum of all
entry_le_sum : (l : List ℕ) (k : ℕ) → get_or l k 0 ≤ sum_over (λ x. x) l
unfolding sum_over
entry_le_sum [] k = omega arith
entry_le_sum (x ∷ l) zero = omega arith
entry_le_sum (x ∷ l) (suc k) = omega (arith, entry_le_sum l k)

-- where all entries are positive, each is
entry_pos : (l : List ℕ) (k : ℕ) → every (ltb 0) l ≡ true → k < length l → 0 < get_or l k 0
entry_pos l k e h = ltb-true 0 (get_or l k 0) (every_entry (ltb 0) l 0 e k h)

module _ (l : List ℕ) where
  -- its m, its entries and their sum
  abbrev m : ℕ
  m = modulus l

  abbrev entry : ℕ → ℕ
  entry = entry_at l

  abbrev total : ℕ
  total = sum_over (λ x. x) l

  -- ---- the numbers of the set

  -- m t + i, for i below m, is in it where t is at least the entry at i
  pub said_at : (t i : ℕ) → i < modulus l → set_said l (modulus l * t + i) ≡ leb (entry_at l i) t
  unfolding set_said
  said_at t i h = ap₂ (λ (r q : ℕ). leb (entry r) q) (residue_mod m t i h) (residue_div m t i h)

  -- the same for a number given by its quotient and residue
  said_in : {x : ℕ} (t i : ℕ) → m * t + i ≡ x → i < m → entry i ≤ t → set_said l x ≡ true
  said_in t i e h k = ap (set_said l) (sym e) ∙ said_at t i h ∙ le-leb (entry i) t k

  -- and back
  in_said : {x : ℕ} (t i : ℕ) → m * t + i ≡ x → i < m → set_said l x ≡ true → entry i ≤ t
  in_said t i e h s = leb-true (entry i) t (sym (said_at t i h) ∙ ap (set_said l) e ∙ s)

  -- 0 is an element
  pub said_zero : set_said l 0 ≡ true
  unfolding entry_at
  said_zero = said_in 0 0 (omega (arith, mul-zero m)) (omega arith) (omega arith)

  -- and so is m
  pub said_modulus : set_said l (modulus l) ≡ true
  unfolding entry_at
  said_modulus = said_in 1 0 (omega (arith, mul-suc m 0, mul-zero m)) (omega arith) (omega arith)

  -- where all entries are positive, the numbers between 0 and m are gaps
  pub said_below : every (ltb 0) l ≡ true → (x : ℕ) → 0 < x → x < modulus l → set_said l x ≡ false
  unfolding entry_at
  said_below e zero pos h = absurd (omega arith)
  said_below e (suc k) pos h =
      let parts : suc k ≡ m * 0 + suc k = omega (arith, mul-zero m) in
      ap (set_said l) parts ∙ said_at 0 (suc k) h ∙ lt-leb (entry (suc k)) 0 (entry_pos l k e (omega arith))

  -- the entry at i is the coordinate of the set
  pub said_coordinate : (i : ℕ) → i < modulus l → CoordinateOf (set_said l) (modulus l) i (entry_at l i)
  said_coordinate i h =
      coordinate_least (set_said l) m i (entry i) h (said_in (entry i) i refl h (le_refl (entry i))) (λ t s. in_said t i refl h s)

  -- ---- the inequalities

  -- where the test passes, it passes at each two places
  tested : inequalities l ≡ true → (i j : ℕ) → 0 < i → 0 < j → i < m → j < m → inequality l i j ≡ true
  unfolding inequalities
  tested e i j p q h k =
      every_mem (inequality l i) _ (every_mem _ _ e (mem_run 1 (length l) p (omega arith))) (mem_run 1 (length l) q (omega arith))

  -- where the statement holds, it passes there
  passes : InequalitiesHold l → (i j : ℕ) → i < m → j < m → 0 < i → 0 < j → inequality l i j ≡ true
  unfolding inequality
  passes s i j h k p q =
      elim (dec_lt (i + j) m) [
        | yes low ↦ rw (lt-ltb (i + j) m low) (le-leb _ _ (s.below i j p q low))
        | no low ↦ elim (dec_lt m (i + j)) [
          | yes high ↦ rw (le-ltb (i + j) m (omega arith), lt-ltb m (i + j) high) (le-leb _ _ (s.beyond i j h k high))
          | no high ↦ rw (le-ltb (i + j) m (omega arith), le-ltb m (i + j) (omega arith))
        ]
      ]

  -- the test decides the statement
  pub inequalities_iff : (inequalities l ≡ true) ↔ InequalitiesHold l
  unfolding inequality inequalities
  inequalities_iff = (
    λ e. record {
      below = λ i j p q low. leb-true _ _ (rw (lt-ltb (i + j) m low) at (tested e i j p q (omega arith) (omega arith)));
      beyond = λ i j h k high. leb-true _ _ (rw (le-ltb (i + j) m (omega arith), lt-ltb m (i + j) high) at (tested e i j (omega arith) (omega arith) h k));
    },
    λ s. mem_every _ (run 1 (length l)) (λ i p. mem_every _ (run 1 (length l)) (λ j q.
        let b = run_mem 1 (length l) p in
        let c = run_mem 1 (length l) q in
        passes s i j (omega arith) (omega arith) b.0 c.0)),
  )

  -- where they hold, so do those of the places 0
  below_any : InequalitiesHold l → (i j : ℕ) → i + j < m → entry (i + j) ≤ entry i + entry j
  unfolding entry_at
  below_any s zero j h = rw (zero-add j) (omega arith)
  below_any s (suc i) zero h = rw add-zero (omega arith)
  below_any s (suc i) (suc j) h = s.below (suc i) (suc j) (omega arith) (omega arith) h

  -- then the sum of two elements is one: their residues i and j add up to less than m, or i + j - m is left
  sums_said : InequalitiesHold l → ClosedUnderAddition (set_said l)
  unfolding entry_at
  sums_said s a b p q =
      let i = a % m in
      let j = b % m in
      let i-low : i < m = mod-lt a (omega arith) in
      let j-low : j < m = mod-lt b (omega arith) in
      let a_in = in_said (a / m) i (div-add-mod a m) i-low p in
      let b-in = in_said (b / m) j (div-add-mod b m) j-low q in
      let sum : m * (a / m + b / m) + (i + j) ≡ a + b = omega (arith, mul-add m (a / m) (b / m), div-add-mod a m, div-add-mod b m) in
      elim (dec_lt (i + j) m) [
        | yes h ↦ said_in (a / m + b / m) (i + j) sum h (omega (arith, below_any s i j h))
        | no h ↦ said_in (suc (a / m + b / m)) (i + j - m) (omega (arith, mul-suc m (a / m + b / m))) (omega arith)
            (elim (dec_lt m (i + j)) [
              | yes k ↦ omega (arith, s.beyond i j i-low j-low k)
              | no k ↦ let none : i + j - m ≡ 0 = omega arith in rw none (omega arith)
            ])
      ]

  -- the least elements of two residues are elements, and so is their sum
  said_sums : ClosedUnderAddition (set_said l) → InequalitiesHold l
  said_sums c =
      let least : (i : ℕ) → i < m → set_said l (m * entry i + i) ≡ true = λ i h. (said_coordinate i h).element in
      record {
        below = λ i j p q h.
            in_said (entry i + entry j) (i + j) (omega (arith, mul-add m (entry i) (entry j))) h
            (c (m * entry i + i) (m * entry j + j) (least i (omega arith)) (least j (omega arith)));
        beyond = λ i j p q h.
            in_said (entry i + entry j + 1) (i + j - m) (omega (arith, mul-add m (entry i) (entry j), mul-add m (entry i + entry j) 1, mul-one m)) (omega arith)
            (c (m * entry i + i) (m * entry j + j) (least i p) (least j q));
      }

  -- the set is closed under addition just where the inequalities hold
  pub said_closed_iff : ClosedUnderAddition (set_said l) ↔ InequalitiesHold l
  said_closed_iff = (said_sums, sums_said)

  -- ---- the gaps

  -- the entry at 0 too is at most the sum of all
  entry_le : (i : ℕ) → entry i ≤ total
  unfolding entry_at
  entry_le zero = omega arith
  entry_le (suc k) = entry_le_sum l k

  -- the gaps, all of them below m n where n is at least the sum of the entries, are as many as that sum
  pub said_count : (n : ℕ) → sum_over (λ x. x) l ≤ n → count_below (λ x. not (set_said l x)) (modulus l * n) ≡ sum_over (λ x. x) l
  unfolding entry_at sum_over
  said_count n h =
      count_residues (λ x. not (set_said l x)) m n
      ∙ sum_same _ entry (run 0 m) (λ i r. let b = run_mem 0 m r in
      count_same _ _ n (λ t. ap not (said_at t i (omega arith))) ∙ count_threshold (entry i) n ∙ omega (arith, entry_le i))
      ∙ sum_places (0 ∷ l) ∙ zero-add total

  -- each gap is below m times the sum of the entries
  pub said_gap_below : (x : ℕ) → set_said l x ≡ false → x < modulus l * sum_over (λ x. x) l
  unfolding set_said
  said_gap_below x e =
      let low = leb-false (entry (x % m)) (x / m) e in
      let next : suc (x / m) ≤ total = omega (arith, entry_le (x % m)) in
      omega (arith, div-add-mod x m, mod-lt x {m = m} (omega arith), mul-suc m (x / m), mul-le-mul_left m next)

-- ---- the set that the coordinates of a word say

module _ (w : ℕ) (fits : w < 2 ^ 64) where
  -- the entries of the list of coordinates
  pub entry_coordinates : (i : ℕ) → i < multiplicity w → entry_at (kunz_coordinates w) i ≡ coordinate w i
  unfolding entry_at kunz_coordinates
  entry_coordinates zero h = sym (coordinate_zero w fits)
  entry_coordinates (suc k) h = get_d_map_run (coordinate w) 0 1 (multiplicity w - 1) k (omega arith) ∙ ap (coordinate w) (omega arith)

  -- its m is the multiplicity
  pub modulus_coordinates : modulus (kunz_coordinates w) ≡ multiplicity w
  modulus_coordinates = omega (arith, coordinates_number w, multiplicity_pos w fits)

  -- the coordinates of a closed word say its set
  pub said_coordinates : closed w ≡ true → (y : ℕ) → set_said (kunz_coordinates w) y ≡ set_of w y
  unfolding set_said
  said_coordinates c y =
      let n = multiplicity w in
      let low : y % n < n = mod-lt y (multiplicity_pos w fits) in
      ap (λ (k : ℕ). leb (entry_at (kunz_coordinates w) (y % k)) (y / k)) modulus_coordinates
      ∙ ap (λ (x : ℕ). leb x (y / n)) (entry_coordinates (y % n) low)
      ∙ sym (element_from_coordinate w fits c (y / n) (y % n) low)
      ∙ ap (set_of w) (div-add-mod y n)
