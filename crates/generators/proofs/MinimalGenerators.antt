-- The minimal generators of a word: they are all its generators, and the elements are their sums. Assumes nothing.
use Prim.Native.Nat.{ℕ, zero, suc, ◌+◌, ◌*◌, ◌/◌, ◌%◌, ◌^◌, ◌≤◌, ◌<◌, ◌∣◌}
use mathlib.Core.Path.{◌≡◌, refl, sym, ap, subst, ◌∙◌}
use mathlib.Core.Logic.{◌≢◌}
use mathlib.Core.Bool.{true}
use mathlib.Core.List.Memᴰ
use mathlib.Core.List.{List, ◌++◌, map, Memᴰ}
use native.Mathlib.Omega.{arith}
use native.Mathlib.Nat.{le_refl, le_dest, suc-mul, add-mul, div-add-mod', mod-lt, lt_of_mul-lt-mul_right, dvd-add_iff_right, eq-one_of_dvd-one, mul_comm}
use lib.ListN.{length, length-map}
use Rattle.semigroups.specs.Lists.{run, keep, Ordered}
use Rattle.semigroups.specs.Sets.{sum_of_two}
use Rattle.semigroups.specs.Words.{set_of, genus, conductor, closed}
use Rattle.semigroups.specs.Elements.{multiplicity, generator, right_generators}
use Rattle.semigroups.proofs.Booleans.{not_both, by_value, true_together}
use Rattle.semigroups.proofs.Lists.{mem_run, run_below, keep_mem, mem_keep, keep_append, ordered_run, ordered_keep, ordered_map}
use Rattle.semigroups.proofs.Sets.{sum_of, sum_found, multiples_in}
use Rattle.semigroups.proofs.Counting.{count_not, length_le_count}
use Rattle.semigroups.proofs.Elements.{multiplicity_in, multiplicity_pos, multiplicity_le_genus, multiplicity_le_conductor, element_from_conductor, generator_parts, generator_of_element, generator_below}
use Rattle.semigroups.proofs.Closure.{closed_iff, conductor_le_64}
use Rattle.sums.specs.Divisors.{gcd_of}
use Rattle.sums.specs.Sums.{SumOf, spans}
use Rattle.sums.proofs.Sums.{sum_zero, sum_add, sum_member, sum_split, spans_iff, sum_in, gcd_divides_sum}
use Rattle.generators.specs.Generators.{minimal_generators}

module _ (w : ℕ) (fits : w < 2 ^ 64) where
  -- the list holds just the generators
  pub generators_mem : {x : ℕ} → Memᴰ x (minimal_generators w) → generator w x ≡ true
  unfolding minimal_generators
  generators_mem m = (keep_mem (generator w) (run 0 (conductor w + multiplicity w)) m).1

  -- and all of them
  pub mem_generators : (x : ℕ) → generator w x ≡ true → Memᴰ x (minimal_generators w)
  unfolding minimal_generators
  mem_generators x e =
      mem_keep (generator w) (run 0 (conductor w + multiplicity w))
      (mem_run 0 (conductor w + multiplicity w) (omega arith) (omega (arith, generator_below w fits x e))) e

  -- in rising order
  pub generators_ordered : Ordered ◌<◌ (minimal_generators w)
  unfolding minimal_generators
  generators_ordered = ordered_keep ◌<◌ _ (run 0 (conductor w + multiplicity w)) (ordered_run 0 (conductor w + multiplicity w))

  -- those below the conductor, and those from it on
  pub generators_parts : minimal_generators w ≡ keep (generator w) (run 0 (conductor w)) ++ right_generators w
  unfolding minimal_generators right_generators
  generators_parts =
      ap (keep (generator w)) (run_below (conductor w) (multiplicity w)) ∙ keep_append (generator w) (run 0 (conductor w)) (run (conductor w) (multiplicity w))

  -- a generator of a word of genus at most 32 is below 128
  pub generator_lt_128 : closed w ≡ true → genus w ≤ 32 → (x : ℕ) → generator w x ≡ true → x < 128
  generator_lt_128 c h x e = omega (arith, generator_below w fits x e, conductor_le_64 w fits c h, multiplicity_le_conductor w fits)

  -- ---- how many they are

  module _ (c : closed w ≡ true) where
    abbrev m : ℕ
    m = multiplicity w

    -- the multiples of the multiplicity are elements
    multiple_in : (k : ℕ) → set_of w (k * m) ≡ true
    unfolding set_of
    multiple_in k = ap (set_of w) (mul_comm k m) ∙ multiples_in (set_of w) refl ((closed_iff w fits).0 c) m (multiplicity_in w fits) k

    -- of two numbers that leave the same remainder on division by the multiplicity, the larger is no generator where the smaller is
    remainders_differ : {x y : ℕ} → x < y → generator w x ≡ true → generator w y ≡ true → x % m ≢ y % m
    remainders_differ {x} {y} less g h same =
        let (x_pos, x-in, x-alone) = generator_parts w x g in
        let (y-pos, y-in, y-alone) = generator_parts w y h in
        let fewer : x / m < y / m = lt_of_mul-lt-mul_right m (omega (arith, div-add-mod' x m, div-add-mod' y m)) in
        let (k, parts) = le_dest fewer in
        let between : y / m * m ≡ x / m * m + suc k * m =
        ap (λ (q : ℕ). q * m) (sym parts) ∙ omega (arith, add-mul (suc (x / m)) k m, suc-mul (x / m) m, suc-mul k m) in
        not_both
        (sum_found (set_of w) y x (suc k * m) x_pos (omega (arith, suc-mul k m, multiplicity_pos w fits)) (omega (arith, div-add-mod' x m, div-add-mod' y m)) x-in (multiple_in (suc k)))
        y-alone

    -- so that they are at most as many as the multiplicity, and at most 33 where the genus is at most 32
    pub generators_number : length (minimal_generators w) ≤ multiplicity w
    generators_number =
        let remainders : List ℕ = map (λ x. x % m) (minimal_generators w) in
        omega (
          arith,
          length-map (minimal_generators w) (λ x. x % m),
          length_le_count (λ x. true) m remainders
              (ordered_map ◌<◌ ◌≢◌ (λ x. x % m) (minimal_generators w) generators_ordered (λ x y i j less. remainders_differ less (generators_mem i) (generators_mem j)))
              (λ r i. let (x, j, e) = Memᴰ.of_map (λ x. x % m) (minimal_generators w) i in (subst (λ (n : ℕ). n < m) e (mod-lt x (multiplicity_pos w fits)), refl)),
          count_not (λ x. true) m,
        )

    pub generators_le_33 : genus w ≤ 32 → length (minimal_generators w) ≤ 33
    generators_le_33 few = omega (arith, generators_number, multiplicity_le_genus w fits)

  -- ---- the sums of generators

  below_sum : (n x : ℕ) → x < n → set_of w x ≡ true → SumOf (minimal_generators w) x
  below_sum zero x h e = absurd (omega arith)
  below_sum (suc n) zero h e = sum_zero (minimal_generators w)
  below_sum (suc n) (suc i) h e =
      by_value (sum_of_two (set_of w) (suc i))
      (λ t.
      let s = sum_of (set_of w) (suc i) t in
      subst (SumOf (minimal_generators w)) s.sum
      (sum_add (minimal_generators w) (below_sum n s.one (omega (arith, s.sum, s.other_pos)) s.one_in)
      (below_sum n s.other (omega (arith, s.sum, s.one_pos)) s.other_in)))
      (λ f. sum_member (minimal_generators w) (mem_generators (suc i) (generator_of_element w (suc i) (omega arith) e f)))

  -- each element is a sum of minimal generators
  pub element_sum : (x : ℕ) → set_of w x ≡ true → SumOf (minimal_generators w) x
  element_sum x e = below_sum (suc x) x (omega arith) e

  -- the sums of the minimal generators of a closed word are its elements
  pub generators_span : closed w ≡ true → (x : ℕ) → spans (minimal_generators w) x ≡ set_of w x
  unfolding set_of
  generators_span c x =
      true_together (spans (minimal_generators w) x) (set_of w x)
      (λ e. sum_in (minimal_generators w) (set_of w) refl ((closed_iff w fits).0 c) (λ a m. (generator_parts w a (generators_mem m)).1) x ((spans_iff (minimal_generators w) x).0 e))
      (λ e. (spans_iff (minimal_generators w) x).1 (element_sum x e))

  -- their greatest common divisor is 1, as it divides the conductor and the number after it
  pub generators_gcd : gcd_of (minimal_generators w) ≡ 1
  generators_gcd =
      let c : ℕ = conductor w in
      let d : ℕ = gcd_of (minimal_generators w) in
      let divides : (x : ℕ) → c ≤ x → d ∣ x =
      λ x h. gcd_divides_sum (minimal_generators w) x (element_sum x (element_from_conductor w fits x h)) in
      eq-one_of_dvd-one ((dvd-add_iff_right _ (divides c (le_refl c))).1 (divides (c + 1) (omega arith)))

  -- no other list generates the set with less: each whose sums are the elements holds all minimal generators
  pub generators_least : (A : List ℕ) → ((x : ℕ) → spans A x ≡ set_of w x) → {x : ℕ} → Memᴰ x (minimal_generators w) → Memᴰ x A
  generators_least A same {x} m =
      let (pos, x-in, alone) = generator_parts w x (generators_mem m) in
      let s = sum_split A x pos ((spans_iff A x).0 (same x ∙ x-in)) in
      let in-set : (y : ℕ) → SumOf A y → set_of w y ≡ true = λ y t. sym (same y) ∙ (spans_iff A y).1 t in
      let no-rest : ¬ (0 < s.rest) =
      λ l. not_both (sum_found (set_of w) x s.part s.rest s.part_pos l s.sum (in-set s.part (sum_member A s.part_in)) (in-set s.rest s.rest_sum)) alone in
      let whole : x ≡ s.part = omega (arith, s.sum) in
      Memᴰ.cast whole s.part_in
