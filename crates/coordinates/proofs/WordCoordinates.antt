-- The Kunz coordinates of a word of 64 bits, by its multiplicity m: what they are, their bounds, and the set and the gaps by them.
-- Assumes nothing.
use Prim.Native.Nat.{ℕ, zero, suc, ◌+◌, ◌*◌, ◌-◌, ◌/◌, ◌%◌, ◌^◌, ◌≤◌, ◌<◌}
use mathlib.Core.Path.{◌≡◌, refl, sym, ap, ◌∙◌}
use mathlib.Core.Logic.{◌↔◌}
use mathlib.Core.Bool.{true, false, and-eq-true_iff}
use mathlib.Core.List.Memᴰ
use mathlib.Core.List.{map, Memᴰ}
use native.Mathlib.Omega.{arith}
use native.Mathlib.Nat.{mul-zero, mul-suc, mul-add, one-mul, mul-le-mul_left, mul-le-mul_right, le_of_mul-le-mul_left, mul-lt-mul_of_pos_left, eq_of_mul-eq-mul_left, mul-div_right, div-add-mod, le_dest, lt_of_not-le, le_of_suc-le-suc}
use lib.Dec.{eqb, leb}
use lib.ListN.{length, length-map}
use borrow.Author.Tests.{eq-eqb, eqb-true, le-leb, lt-leb, leb-true, leb-false}
use Rattle.semigroups.specs.Lists.{run, keep}
use Rattle.semigroups.specs.Sets.{Set}
use Rattle.semigroups.specs.Words.{set_of, gaps, closed}
use Rattle.semigroups.specs.Elements.{multiplicity}
use Rattle.semigroups.proofs.Booleans.{true_together}
use Rattle.semigroups.proofs.Lists.{run_mem, mem_run, length_run, keep_mem, mem_keep, ordered_run, ordered_keep, ordered_map, ordered_unique, first_least}
use Rattle.semigroups.proofs.Sets.{multiples_in}
use Rattle.semigroups.proofs.Words.{element_past, gaps_mem, mem_gaps, gaps_list}
use Rattle.semigroups.proofs.Counting.{least_of}
use Rattle.semigroups.proofs.Elements.{multiplicity_in, multiplicity_pos, multiplicity_least}
use Rattle.semigroups.proofs.Closure.{closed_iff}
use Rattle.coordinates.specs.Coordinates.{CoordinateOf, apery, coordinate, kunz_coordinates}
use Rattle.coordinates.proofs.Residues.{residue_mod}

-- there are m - 1 coordinates
pub coordinates_number : (w : ℕ) → length (kunz_coordinates w) ≡ multiplicity w - 1
unfolding kunz_coordinates
coordinates_number w = length-map (run 1 (multiplicity w - 1)) (coordinate w) ∙ length_run 1 (multiplicity w - 1)

-- a set has one coordinate at i
pub coordinate_unique : (S : Set) (m i x y : ℕ) → 0 < m → CoordinateOf S m i x → CoordinateOf S m i y → x ≡ y
coordinate_unique S m i x y pos c d =
    eq_of_mul-eq-mul_left m pos x y
    (omega (arith, c.least (m * y + i) d.element d.residue, d.least (m * x + i) c.element c.residue))

-- it is the least x with m x + i an element
pub coordinate_least : (S : Set) (m i x : ℕ) → i < m → S (m * x + i) ≡ true → ((t : ℕ) → S (m * t + i) ≡ true → x ≤ t) → CoordinateOf S m i x
coordinate_least S m i x h e least = record {
  element = e;
  residue = residue_mod m x i h;
  least = λ a s r.
      let parts : m * (a / m) + i ≡ a = omega (arith, div-add-mod a m) in
      omega (arith, mul-le-mul_left m (least (a / m) (ap S parts ∙ s)));
}

module _ (w : ℕ) (fits : w < 2 ^ 64) where
  -- the multiplicity
  abbrev m : ℕ
  m = multiplicity w

  -- ---- what the search finds

  -- the least element that leaves i is below 65 + m: the number m below it is no element, and so at most 64
  least_low : (i x : ℕ) → i < m → CoordinateOf (set_of w) m i x → m * x + i < 65 + m
  least_low i zero h c = omega (arith, mul-zero m)
  least_low i (suc y) h c =
      let low : m * y + i ≤ 64 = le_of_suc-le-suc (lt_of_not-le (λ past.
      omega (arith, mul-suc m y, multiplicity_pos w fits, c.least (m * y + i) (element_past w 64 (m * y + i) fits past) (residue_mod m y i h)))) in
      omega (arith, mul-suc m y)

  -- what is the coordinate of the set at i is the one computed
  pub coordinate_is : (i x : ℕ) → i < multiplicity w → CoordinateOf (set_of w) (multiplicity w) i x → coordinate w i ≡ x
  unfolding coordinate apery
  coordinate_is i x h c =
      let range = run 0 (65 + m) in
      let found : apery w i ≡ m * x + i =
      first_least _ (m * x + i) 0 (ordered_keep ◌<◌ _ range (ordered_run 0 (65 + m)))
      (mem_keep _ range (mem_run 0 (65 + m) (omega arith) (omega (arith, least_low i x h c)))
      ((and-eq-true_iff _ _).1 (c.element, eq-eqb _ i c.residue)))
      (λ a l. let (e, r) = (and-eq-true_iff (set_of w a) (eqb (a % m) i)).0 (keep_mem _ range l).1 in c.least a e (eqb-true (a % m) i r)) in
      let rest : apery w i - i ≡ m * x = omega arith in
      ap (λ (a : ℕ). a / m) rest ∙ mul-div_right x (multiplicity_pos w fits)

  -- at each i below m there is one, since 65 m + i is an element
  coordinate_found : (i : ℕ) → i < m → (x : ℕ) × CoordinateOf (set_of w) m i x
  coordinate_found i h =
      let (x, low, e, least) = least_of (λ t. set_of w (m * t + i)) 65 (element_past w 64 (m * 65 + i) fits (omega (arith, multiplicity_pos w fits))) in
      (x, coordinate_least (set_of w) m i x h e least)

  -- m x + i, with x the coordinate at i, is the least element that leaves i
  pub coordinate_of : (i : ℕ) → i < multiplicity w → CoordinateOf (set_of w) (multiplicity w) i (coordinate w i)
  coordinate_of i h = let (x, c) = coordinate_found i h in rw (coordinate_is i x h c) c

  -- ---- bounds

  -- 0 is the least multiple of m
  pub coordinate_zero : coordinate w 0 ≡ 0
  unfolding set_of
  coordinate_zero =
      let none : m * 0 + 0 ≡ 0 = omega (arith, mul-zero m) in
      coordinate_is 0 0 (multiplicity_pos w fits) (coordinate_least (set_of w) m 0 0 (multiplicity_pos w fits) (ap (set_of w) none) (λ t e. omega arith))

  -- the numbers below m but 0 are gaps, so that the others are positive
  pub coordinate_positive : (i : ℕ) → 0 < i → i < multiplicity w → 0 < coordinate w i
  coordinate_positive i pos h =
      lt_of_not-le (λ none.
      let here : m * coordinate w i + i ≡ i = omega (arith, mul-le-mul_left m none, mul-zero m) in
      omega (arith, multiplicity_least w fits i pos (ap (set_of w) (sym here) ∙ (coordinate_of i h).element)))

  -- so that each of the list is at least 1
  pub coordinates_positive : (x : ℕ) → Memᴰ x (kunz_coordinates w) → 1 ≤ x
  unfolding kunz_coordinates
  coordinates_positive x m =
      let (i, r, e) = Memᴰ.of_map (coordinate w) (run 1 (multiplicity w - 1)) m in
      let (low, high) = run_mem 1 (multiplicity w - 1) r in
      omega (arith, coordinate_positive i low (omega arith))

  -- each is at most 64, the width of the word
  pub coordinate_bound : (i : ℕ) → i < multiplicity w → coordinate w i ≤ 64
  coordinate_bound zero h = omega (arith, coordinate_zero)
  coordinate_bound (suc j) h = go (coordinate w (suc j)) (least_low (suc j) (coordinate w (suc j)) h (coordinate_of (suc j) h))
    where
      go : (x : ℕ) → m * x + suc j < 65 + m → x ≤ 64
      go zero low = omega arith
      go (suc y) low = omega (arith, mul-suc m y, one-mul y, mul-le-mul_right y (multiplicity_pos w fits))

  -- ---- the set of a closed word by its coordinates

  module _ (c : closed w ≡ true) where
    -- m t + i is an element where t is at least the coordinate at i
    pub element_from_coordinate : (t i : ℕ) → i < multiplicity w → set_of w (multiplicity w * t + i) ≡ leb (coordinate w i) t
    unfolding set_of
    element_from_coordinate t i h =
        let x = coordinate w i in
        let k = coordinate_of i h in
        true_together (set_of w (m * t + i)) (leb x t)
        (λ e. le-leb x t (le_of_mul-le-mul_left {k = m} (omega (arith, k.least (m * t + i) e (residue_mod m t i h))) (multiplicity_pos w fits)))
        (λ e.
        let (d, q) = le_dest (leb-true x t e) in
        let parts : m * t + i ≡ m * x + i + m * d = omega (arith, ap (λ (n : ℕ). m * n) q, mul-add m x d) in
        let sums = (closed_iff w fits).0 c in
        ap (set_of w) parts ∙ sums (m * x + i) (m * d) k.element (multiples_in (set_of w) refl sums m (multiplicity_in w fits) d))

    -- and a gap where t is below it
    pub gap_below_coordinate : (t i : ℕ) → i < multiplicity w → (set_of w (multiplicity w * t + i) ≡ false) ↔ (t < coordinate w i)
    gap_below_coordinate t i h =
        let e = element_from_coordinate t i h in
        (λ g. leb-false (coordinate w i) t (sym e ∙ g), λ l. e ∙ lt-leb (coordinate w i) t l)

    -- the gaps that leave i are the m t + i with t below the coordinate
    gaps_leaving_residue : (i : ℕ) → i < m → keep (λ x. eqb (x % m) i) (gaps w) ≡ map (λ t. m * t + i) (run 0 (coordinate w i))
    gaps_leaving_residue i h =
        let x = coordinate w i in
        ordered_unique ◌<◌ (λ a b p q. omega arith) _ (map (λ t. m * t + i) (run 0 x))
        (ordered_keep ◌<◌ _ (gaps w) (gaps_list w).ordered)
        (ordered_map ◌<◌ ◌<◌ _ (run 0 x) (ordered_run 0 x) (λ a b p q less. omega (arith, mul-lt-mul_of_pos_left less (multiplicity_pos w fits))))
        (λ y l.
        let (g, r) = keep_mem _ (gaps w) l in
        let parts : m * (y / m) + i ≡ y = omega (arith, div-add-mod y m, eqb-true (y % m) i r) in
        let low = (gap_below_coordinate (y / m) i h).0 (ap (set_of w) parts ∙ gaps_mem w g) in
        Memᴰ.cast (sym parts) (Memᴰ.map (λ t. m * t + i) (mem_run 0 x (omega arith) (omega arith))))
        (λ y l.
        let (t, r, e) = Memᴰ.of_map (λ t. m * t + i) (run 0 x) l in
        let (_, low) = run_mem 0 x r in
        let gap = (gap_below_coordinate t i h).1 (omega arith) in
        mem_keep _ (gaps w) (mem_gaps w y fits (ap (set_of w) (sym e) ∙ gap))
        (eq-eqb (y % m) i (ap (λ (n : ℕ). n % m) (sym e) ∙ residue_mod m t i h)))

    -- the coordinate at i is the number of gaps that leave i
    pub coordinate_count : (i : ℕ) → i < multiplicity w → length (keep (λ x. eqb (x % multiplicity w) i) (gaps w)) ≡ coordinate w i
    coordinate_count i h = ap length (gaps_leaving_residue i h) ∙ length-map (run 0 (coordinate w i)) _ ∙ length_run 0 (coordinate w i)
