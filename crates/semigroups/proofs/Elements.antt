-- The conductor, the elements by their index, the multiplicity and the generators of a word of 64 bits. Assumes nothing.
use Prim.Native.Nat.{ℕ, zero, suc, ◌+◌, ◌-◌, ◌^◌, ◌≤◌, ◌<◌}
use mathlib.Core.Path.{◌≡◌, refl, sym, ap, ap₂, ◌∙◌}
use mathlib.Core.Logic.{◌≢◌, ⊎_elim}
use mathlib.Core.Bool.{Bool, true, false, not, ◌&&◌, and-eq-true_iff}
use mathlib.Core.List.Memᴰ
use mathlib.Core.List.{List, ◌∷◌, ◌++◌, Memᴰ}
use native.Mathlib.Omega.{arith}
use native.Mathlib.Nat.{lt_of_not-le, le_antisymm, le_refl, le_dest, le_of_lt}
use lib.Dec.{ltb}
use lib.ListN.{length, get_or}
use borrow.Author.Tests.{not-true, ltb-true, ltb-false, lt-ltb}
use Rattle.semigroups.specs.Lists.{run, keep, keep_if, Ordered}
use Rattle.semigroups.specs.Sets.{sum_of_two, MultiplicityOf, LargestGapOf}
use Rattle.semigroups.specs.Words.{set_of, gaps, genus, largest_gap, conductor}
use Rattle.semigroups.specs.Elements.{elements_below, element_at, multiplicity, generator, right_generators}
use Rattle.semigroups.proofs.Booleans.{not_both, is_true, is_false, by_value}
use Rattle.semigroups.proofs.Lists.{Rising, rises, ordered_append, ordered_parts, run_mem, mem_run, keep_mem, mem_keep, ordered_run, ordered_keep, ordered_unique, last_mem, le_last}
use Rattle.semigroups.proofs.Sets.{sum_found}
use Rattle.semigroups.proofs.Words.{element_past, gap_pos, set_zero, gaps_mem, mem_gaps, gaps_list, gaps_rise, same_set}
use Rattle.semigroups.proofs.Counting.{count_below, count_in, count_up, count_lt, count_le, count_inj, count_not, of_count, at_count, length_kept}

-- ---- a generator

-- a generator is a positive element that is no sum of two positive elements
pub generator_parts : (w x : ℕ) → generator w x ≡ true → (0 < x) × (set_of w x ≡ true) × (sum_of_two (set_of w) x ≡ false)
unfolding generator
generator_parts w x e =
    let (p, q) = (and-eq-true_iff (ltb 0 x && set_of w x) (not (sum_of_two (set_of w) x))).0 e in
    let (r, s) = (and-eq-true_iff (ltb 0 x) (set_of w x)).0 p in
    (ltb-true 0 x r, s, not-true _ q)

-- and what is one is a generator
pub generator_of_element : (w x : ℕ) → 0 < x → set_of w x ≡ true → sum_of_two (set_of w) x ≡ false → generator w x ≡ true
unfolding generator
generator_of_element w x pos e f = rw (lt-ltb 0 x pos, e, f)

-- ---- the conductor

pub conductor_pos : (w : ℕ) → 0 < conductor w
unfolding conductor
conductor_pos w = omega arith

-- the largest gap is a gap, where there is one
pub largest_gap_is : (w : ℕ) → 0 < largest_gap w → set_of w (largest_gap w) ≡ false
unfolding largest_gap
largest_gap_is w h = ⊎_elim (λ e. absurd (omega arith)) (λ m. gaps_mem w m) (Memᴰ.cases_cons (last_mem 0 (gaps w)))

-- behind the gaps of w, a rising list of numbers from the conductor on rises
pub rise_behind : (w : ℕ) {hi : ℕ} (l : List ℕ) → Rising (conductor w) hi l → Ordered ◌<◌ (0 ∷ gaps w ++ l)
unfolding conductor largest_gap
rise_behind w l r =
    ordered_append ◌<◌ (0 ∷ gaps w) l (gaps_rise w) r.ordered (λ x y m n. omega (arith, le_last 0 (gaps w) (gaps_rise w) m, r.within y n))

-- and what rises behind them is from the conductor on
pub behind_conductor : (w : ℕ) (l : List ℕ) → Ordered ◌<◌ (0 ∷ gaps w ++ l) → (x : ℕ) → Memᴰ x l → conductor w ≤ x
unfolding conductor largest_gap
behind_conductor w l o x m = (ordered_parts ◌<◌ (0 ∷ gaps w) l o).1 (largest_gap w) x (last_mem 0 (gaps w)) m

module _ (w : ℕ) (fits : w < 2 ^ 64) where
  -- all gaps lie below the conductor
  pub gap_below_conductor : (x : ℕ) → set_of w x ≡ false → x < conductor w
  unfolding conductor largest_gap
  gap_below_conductor x e = omega (arith, le_last 0 (gaps w) (gaps_rise w) (Memᴰ.tail (mem_gaps w x fits e)))

  -- each number not below the conductor belongs to the set
  pub element_from_conductor : (x : ℕ) → conductor w ≤ x → set_of w x ≡ true
  element_from_conductor x h = is_true (set_of w x) (λ e. omega (arith, gap_below_conductor x e))

  -- the conductor is the least positive number from which on all belong to the set
  pub conductor_least : (n : ℕ) → 0 < n → ((x : ℕ) → n ≤ x → set_of w x ≡ true) → conductor w ≤ n
  unfolding conductor
  conductor_least n h above = lt_of_not-le (λ l. not_both (above (largest_gap w) l) (largest_gap_is w (omega arith)))

  -- the largest gap tells the conductor
  pub conductor_is : (f : ℕ) → LargestGapOf (set_of w) f → conductor w ≡ suc f
  conductor_is f h = le_antisymm (conductor_least (suc f) (omega arith) h.largest) (gap_below_conductor f h.gap)

  -- all words but 0 have a gap
  pub largest_gap_pos : w ≢ 0 → 0 < largest_gap w
  unfolding conductor
  largest_gap_pos nonzero =
      lt_of_not-le (λ l. nonzero (same_set w 0 fits (omega arith)
      (λ x. is_true (set_of w x) (λ e. omega (arith, gap_pos w x e, gap_below_conductor x e)) ∙ sym (set_zero x))))

  -- the largest gap of such a word is that of its set
  pub largest_gap_of : w ≢ 0 → LargestGapOf (set_of w) (largest_gap w)
  unfolding conductor
  largest_gap_of nonzero = record { gap = largest_gap_is w (largest_gap_pos nonzero); largest = element_from_conductor }

  gaps_listed : keep (λ x. not (set_of w x)) (run 0 (conductor w)) ≡ gaps w
  gaps_listed =
      ordered_unique ◌<◌ (λ x y p q. omega arith) (keep _ (run 0 (conductor w))) (gaps w)
      (ordered_keep ◌<◌ _ (run 0 (conductor w)) (ordered_run 0 (conductor w))) (gaps_list w).ordered
      (λ x m. mem_gaps w x fits (not-true _ (keep_mem _ (run 0 (conductor w)) m).1))
      (λ x m. mem_keep _ (run 0 (conductor w)) (mem_run 0 (conductor w) (omega arith) (omega (arith, gap_below_conductor x (gaps_mem w m)))) (ap not (gaps_mem w m)))

  -- the elements below the conductor are as many as the conductor less the genus
  pub elements_below_conductor : count_below (set_of w) (conductor w) ≡ conductor w - genus w
  unfolding genus
  elements_below_conductor =
      omega (arith, count_not (set_of w) (conductor w), length_kept (λ x. not (set_of w x)) (conductor w), ap length gaps_listed)

  -- one of them is 0
  pub genus_lt_conductor : genus w < conductor w
  unfolding set_of
  genus_lt_conductor = omega (arith, elements_below_conductor, count_lt (set_of w) 0 (conductor w) refl (conductor_pos w))

  -- ---- the elements by their index

  -- of the numbers below 65 + i more than i are elements: 0, and the i from 65 on
  enough : (i : ℕ) → i < count_below (set_of w) (65 + i)
  unfolding set_of
  enough zero = omega (arith, count_in (set_of w) 0 refl, count_up (set_of w) {x = 1} {y = 65} (omega arith))
  enough (suc i) =
      let next : 65 + suc i ≡ suc (65 + i) = omega arith in
      omega (arith, enough i, count_in (set_of w) (65 + i) (element_past w 64 (65 + i) fits (omega arith)), ap (count_below (set_of w)) next)

  -- the element of index i is the one with i elements below it
  by_count : (i : ℕ) → (set_of w (element_at w i) ≡ true) × (count_below (set_of w) (element_at w i) ≡ i)
  unfolding element_at elements_below
  by_count i =
      let (x, h, e, r) = of_count (set_of w) (65 + i) i (enough i) in
      let here : element_at w i ≡ x = ap (λ (k : ℕ). get_or (keep (set_of w) (run 0 (65 + i))) k 0) (sym r) ∙ at_count (set_of w) (65 + i) x h e in
      (ap (set_of w) here ∙ e, ap (count_below (set_of w)) here ∙ r)

  pub element_in : (i : ℕ) → set_of w (element_at w i) ≡ true
  element_in i = (by_count i).0

  element_is : (i x : ℕ) → set_of w x ≡ true → count_below (set_of w) x ≡ i → element_at w i ≡ x
  element_is i x e r = count_inj (set_of w) (element_at w i) x (element_in i) e ((by_count i).1 ∙ sym r)

  pub element_zero : element_at w 0 ≡ 0
  unfolding set_of count_below
  element_zero = element_is 0 0 refl refl

  -- with c the conductor and g the genus, the element of index c - g is c
  pub element_conductor : element_at w (conductor w - genus w) ≡ conductor w
  element_conductor = element_is (conductor w - genus w) (conductor w) (element_from_conductor (conductor w) (le_refl _)) elements_below_conductor

  pub element_rises : (i : ℕ) → element_at w i < element_at w (suc i)
  element_rises i = lt_of_not-le (λ l. omega (arith, count_up (set_of w) l, (by_count i).1, (by_count (suc i)).1))

  -- no element lies between two of index i and i + 1
  pub element_next : (i x : ℕ) → set_of w x ≡ true → element_at w i < x → element_at w (suc i) ≤ x
  element_next i x e h =
      count_le (set_of w) (element_at w (suc i)) x e (omega (arith, count_lt (set_of w) (element_at w i) x (element_in i) h, (by_count i).1, (by_count (suc i)).1))

  -- an element of index at most c - g is at most c
  pub element_le_conductor : (i : ℕ) → i ≤ conductor w - genus w → element_at w i ≤ conductor w
  element_le_conductor i h =
      omega (arith, rises (element_at w) (λ j. le_of_lt (element_rises j)) {i = i} {k = conductor w - genus w} h, element_conductor)

  -- ---- the multiplicity

  -- it is the element of index 1
  pub multiplicity_element : multiplicity w ≡ element_at w 1
  unfolding multiplicity element_at elements_below run keep keep_if set_of
  multiplicity_element = refl

  pub multiplicity_in : set_of w (multiplicity w) ≡ true
  multiplicity_in = ap (set_of w) multiplicity_element ∙ element_in 1

  pub multiplicity_pos : 0 < multiplicity w
  multiplicity_pos = omega (arith, element_rises 0, multiplicity_element)

  pub multiplicity_least : (x : ℕ) → 0 < x → set_of w x ≡ true → multiplicity w ≤ x
  multiplicity_least x h e = omega (arith, element_next 0 x e (omega (arith, element_zero)), multiplicity_element)

  -- the positive numbers below it are gaps
  pub gap_below_multiplicity : (x : ℕ) → 0 < x → x < multiplicity w → set_of w x ≡ false
  gap_below_multiplicity x h low = is_false (set_of w x) (λ e. omega (arith, multiplicity_least x h e))

  -- it is the multiplicity of the set of the word
  pub set_multiplicity : MultiplicityOf (set_of w) (multiplicity w)
  set_multiplicity = record { positive = multiplicity_pos; element = multiplicity_in; least = multiplicity_least }

  pub multiplicity_le_conductor : multiplicity w ≤ conductor w
  multiplicity_le_conductor = multiplicity_least (conductor w) (conductor_pos w) (element_from_conductor (conductor w) (le_refl (conductor w)))

  -- it is below the conductor where c - g is at least 2
  pub multiplicity_below : 2 ≤ conductor w - genus w → multiplicity w < conductor w
  multiplicity_below two = omega (arith, multiplicity_element, element_rises 1, element_le_conductor 2 two)

  -- and else it is the conductor: the set is ordinary
  pub ordinary_conductor : conductor w - genus w < 2 → conductor w ≡ multiplicity w
  ordinary_conductor low =
      let one : conductor w - genus w ≡ 1 = omega (arith, genus_lt_conductor) in
      sym element_conductor ∙ ap (element_at w) one ∙ sym multiplicity_element

  -- the numbers below it but 0 are gaps, so that it is at most one more than the genus
  pub multiplicity_le_genus : multiplicity w ≤ genus w + 1
  multiplicity_le_genus =
      omega (
        arith,
        (by_count 1).1,
        ap (count_below (set_of w)) multiplicity_element,
        count_not (set_of w) (multiplicity w),
        count_not (set_of w) (conductor w),
        count_up (λ x. not (set_of w x)) multiplicity_le_conductor,
        elements_below_conductor,
      )

  -- ---- the generators

  -- not below the conductor, a generator is what is no sum of two positive elements
  pub generator_from_conductor : (x : ℕ) → conductor w ≤ x → generator w x ≡ not (sum_of_two (set_of w) x)
  unfolding generator
  generator_from_conductor x h =
      ap₂ (λ (a b : Bool). a && b && not (sum_of_two (set_of w) x)) (lt-ltb 0 x (omega (arith, conductor_pos w))) (element_from_conductor x h)

  -- from the conductor plus the multiplicity on there is no generator
  pub generator_offset : (d : ℕ) → generator w (conductor w + d) ≡ true → d < multiplicity w
  generator_offset d e =
      let x : ℕ = conductor w + d - multiplicity w in
      lt_of_not-le (λ (h : multiplicity w ≤ d). not_both
      (sum_found (set_of w) (conductor w + d) (multiplicity w) x multiplicity_pos (omega (arith, conductor_pos w)) (omega arith)
      multiplicity_in (element_from_conductor x (omega arith)))
      (not-true _ (sym (generator_from_conductor (conductor w + d) (omega arith)) ∙ e)))

  -- each generator lies below the conductor plus the multiplicity
  pub generator_below : (x : ℕ) → generator w x ≡ true → x < conductor w + multiplicity w
  generator_below x e =
      by_value (ltb x (conductor w)) (λ l. omega (arith, ltb-true x (conductor w) l))
      (λ l. let (d, q) = le_dest (ltb-false x (conductor w) l) in omega (arith, generator_offset d (ap (generator w) q ∙ e)))

  -- the right generators are all the generators not below the conductor
  pub right_generators_mem : {x : ℕ} → Memᴰ x (right_generators w) → (conductor w ≤ x) × (generator w x ≡ true)
  unfolding right_generators
  right_generators_mem m = let (i, e) = keep_mem _ (run (conductor w) (multiplicity w)) m in ((run_mem (conductor w) (multiplicity w) i).0, e)

  pub mem_right_generators : (x : ℕ) → conductor w ≤ x → generator w x ≡ true → Memᴰ x (right_generators w)
  unfolding right_generators
  mem_right_generators x h e =
      let (d, q) = le_dest h in
      mem_keep _ (run (conductor w) (multiplicity w))
      (mem_run (conductor w) (multiplicity w) h (omega (arith, generator_offset d (ap (generator w) q ∙ e)))) e

  -- in rising order
  pub right_generators_ordered : Ordered ◌<◌ (right_generators w)
  unfolding right_generators
  right_generators_ordered = ordered_keep ◌<◌ _ (run (conductor w) (multiplicity w)) (ordered_run (conductor w) (multiplicity w))
