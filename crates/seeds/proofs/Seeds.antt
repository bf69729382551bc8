-- The seed table by sums of two elements below the conductor, as source 001 states it. Assumes nothing.
use Prim.Native.Nat.{ℕ, zero, suc, ◌+◌, ◌-◌, ◌^◌, ◌≤◌, ◌<◌}
use mathlib.Core.Path.{◌≡◌, sym, ap, ap₂, ◌∙◌, subst}
use mathlib.Core.Logic.{◌↔◌, ⊎_elim}
use mathlib.Core.Bool.{Bool, true, false, not, not-not, and-eq-true_iff}
use mathlib.Core.List.{List, map}
use native.Mathlib.Omega.{arith}
use native.Mathlib.Nat.{eq-or-lt_of_le, le_of_lt, zero-add}
use lib.Dec.{eqb, ltb}
use lib.ListN.{length, get_or, length-map}
use borrow.Author.Tests.{not-true, not-false, eqb-false, ne_eqb, lt-ltb, ltb-true}
use Rattle.semigroups.specs.Lists.{run, every, joined}
use Rattle.semigroups.specs.Sets.{sum_of_two}
use Rattle.semigroups.specs.Words.{bit, set_of, conductor, genus}
use Rattle.semigroups.specs.Elements.{element_at}
use Rattle.semigroups.proofs.Booleans.{is_false}
use Rattle.semigroups.proofs.Lists.{run_mem, mem_run, every_mem, mem_every, rises, joined_rows, map_run, get_d_map_run, length_run}
use Rattle.semigroups.proofs.Bits.{bit_of_bits, of_bits_lt}
use Rattle.semigroups.proofs.Sets.{Carries, sum_of, sum_found, same_sums}
use Rattle.semigroups.proofs.Elements.{element_zero, element_conductor, element_rises, element_next}
use Rattle.seeds.specs.Seeds.{left_after, seed, row, seed_bits, seed_table, set_below}

-- ---- elements below a bound

pub below_in : (w n x : ℕ) → set_below w n x ≡ true → (set_of w x ≡ true) × (x < n)
unfolding set_below
below_in w n x e = let (p, q) = (and-eq-true_iff (set_of w x) (ltb x n)).0 e in (p, ltb-true x n q)

pub in_below : (w n x : ℕ) → set_of w x ≡ true → x < n → set_below w n x ≡ true
unfolding set_below
in_below w n x e h = (and-eq-true_iff (set_of w x) (ltb x n)).1 (e, lt-ltb x n h)

-- entry l of the joined rows, by source 001
abbrev pub entry_at : ℕ → ℕ → Bool
entry_at w l = not (sum_of_two (set_below w (conductor w)) (conductor w + l))

module _ (w : ℕ) (fits : w < 2 ^ 64) where
  -- ---- the set that is left after the elements of index 1 to i are removed: 0, and the elements above that of index i

  above_index : (x i : ℕ) → 0 < x → set_of w x ≡ true → ((t : ℕ) → 1 ≤ t → t < 1 + i → x ≡ element_at w t → ⊥) → element_at w i < x
  above_index x zero h e other = omega (arith, element_zero w fits)
  above_index x (suc i) h e other =
      ⊎_elim (λ q. absurd (other (suc i) (omega arith) (omega arith) (sym q))) (λ q. q)
      (eq-or-lt_of_le (element_next w fits i x e (above_index x i h e (λ t l m. other t l (omega arith)))))

  pub left_above : (i x : ℕ) → 0 < x → left_after w i x ≡ true → (set_of w x ≡ true) × (element_at w i < x)
  unfolding left_after
  left_above i x h e =
      let (p, q) = (and-eq-true_iff (set_of w x) (every (λ t. not (eqb x (element_at w t))) (run 1 i))).0 e in
      (p, above_index x i h p (λ t l m. eqb-false x (element_at w t) (not-true _ (every_mem _ (run 1 i) q (mem_run 1 i l m)))))

  pub above_left : (i x : ℕ) → set_of w x ≡ true → element_at w i < x → left_after w i x ≡ true
  unfolding left_after
  above_left i x e h =
      (and-eq-true_iff (set_of w x) (every (λ t. not (eqb x (element_at w t))) (run 1 i))).1 (
        e,
        mem_every _ (run 1 i) (λ t m. ap not (ne_eqb x (element_at w t) (λ q.
            let (l, k) = run_mem 1 i m in
            omega (arith, rises (element_at w) (λ j. le_of_lt (element_rises w fits j)) {i = t} {k = i} (omega arith))))),
      )

  -- ---- the rows

  -- an entry of row i by source 001
  pub seed_entry : (i j : ℕ) → element_at w i + j < element_at w (suc i) → seed w i j ≡ entry_at w (element_at w i + j)
  unfolding seed
  seed_entry i j h = ap not (ap (sum_of_two (left_after w i)) same ∙ same_sums (left_after w i) (set_below w (conductor w)) (conductor w + (element_at w i + j)) to fro)
    where
      same : conductor w + j + element_at w i ≡ conductor w + (element_at w i + j)
      same = omega arith

      to : Carries (left_after w i) (set_below w (conductor w)) (conductor w + (element_at w i + j))
      to x y x_pos y-pos sum x-in y-in =
          let (p, l) = left_above i x x_pos x-in in
          let (q, m) = left_above i y y-pos y-in in
          in_below w (conductor w) x p (omega (arith, element_next w fits i y q m))

      fro : Carries (set_below w (conductor w)) (left_after w i) (conductor w + (element_at w i + j))
      fro x y x_pos y-pos sum x-in y-in =
          let (p, l) = below_in w (conductor w) x x-in in
          let (q, m) = below_in w (conductor w) y y-in in
          above_left i x p (omega arith)

  -- row i has the entries from element i to element i + 1
  pub row_entries : (i : ℕ) → row w i ≡ map (entry_at w) (run (element_at w i) (element_at w (suc i) - element_at w i))
  unfolding row
  row_entries i =
      map_run (seed w i) (entry_at w) 0 (element_at w i) (element_at w (suc i) - element_at w i)
      (λ j l. ap (seed w i) (zero-add j) ∙ seed_entry i j (omega arith))

  -- rows of h that begin and end where those of w do have c entries together
  pub rows_joined : (h : ℕ → Bool) (f : ℕ → List Bool) → ((i : ℕ) → f i ≡ map h (run (element_at w i) (element_at w (suc i) - element_at w i)))
      → joined f (run 0 (conductor w - genus w)) ≡ map h (run 0 (conductor w))
  rows_joined h f rows =
      let k : ℕ = conductor w - genus w in
      let size : element_at w (0 + k) - element_at w 0 ≡ conductor w = omega (arith, ap (element_at w) (zero-add k), element_conductor w fits, element_zero w fits) in
      joined_rows (element_at w) (λ j. le_of_lt (element_rises w fits j)) h f rows 0 k ∙ ap₂ (λ (a n : ℕ). map h (run a n)) (element_zero w fits) size

  -- the joined rows have the entries below c
  bits_entries : seed_bits w ≡ map (entry_at w) (run 0 (conductor w))
  unfolding seed_bits
  bits_entries = rows_joined (entry_at w) (row w) row_entries

  -- the rows joined make c bits
  pub seed_bits_length : length (seed_bits w) ≡ conductor w
  seed_bits_length = ap length bits_entries ∙ length-map (run 0 (conductor w)) (entry_at w) ∙ length_run 0 (conductor w)

  -- a table of c bits
  pub table_lt : seed_table w < 2 ^ conductor w
  unfolding seed_table
  table_lt = subst (λ (n : ℕ). seed_table w < 2 ^ n) seed_bits_length (of_bits_lt (seed_bits w))

  -- bit l of the table is 0 exactly when c + l is a sum of two elements below c
  pub table_bit : (l : ℕ) → l < conductor w → bit (seed_table w) l ≡ not (sum_of_two (set_below w (conductor w)) (conductor w + l))
  unfolding seed_table
  table_bit l h =
      bit_of_bits (seed_bits w) l ∙ ap (λ (b : List Bool). get_or b l false) bits_entries ∙ get_d_map_run (entry_at w) false 0 (conductor w) l h ∙ ap (entry_at w) (zero-add l)

  -- the same with the two elements named
  pub table_clear : (l : ℕ) → l < conductor w → (bit (seed_table w) l ≡ false)
      ↔ ((x : ℕ) × (y : ℕ) × (set_of w x ≡ true) × (set_of w y ≡ true) × (x < conductor w) × (y < conductor w) × (x + y ≡ conductor w + l))
  table_clear l h = (
    (λ e. let s = sum_of (set_below w (conductor w)) (conductor w + l) (not-false _ (sym (table_bit l h) ∙ e)) in
        let (p, m) = below_in w (conductor w) s.one s.one_in in
        let (q, n) = below_in w (conductor w) s.other s.other_in in
        (s.one, s.other, p, q, m, n, s.sum)),
    (λ (x, y, p, q, m, n, sum).
        table_bit l h ∙ ap not (sum_found (set_below w (conductor w)) (conductor w + l) x y (omega arith) (omega arith) sum (in_below w (conductor w) x p m) (in_below w (conductor w) y q n))),
  )

  -- of a number f that is not below c: below 2 c the bit at f - c tells whether it is such a sum
  pub sum_by_table : (f : ℕ) → conductor w ≤ f → f - conductor w < conductor w
      → not (bit (seed_table w) (f - conductor w)) ≡ sum_of_two (set_below w (conductor w)) f
  sum_by_table f high low =
      let there : conductor w + (f - conductor w) ≡ f = omega arith in
      ap not (table_bit (f - conductor w) low) ∙ not-not _ ∙ ap (sum_of_two (set_below w (conductor w))) there

  -- a number is no such sum where all elements below c are below m, and it is at least 2 m - 1
  pub too_far : (m f : ℕ) → ((x : ℕ) → set_of w x ≡ true → x < conductor w → x < m) → m + m ≤ suc f → sum_of_two (set_below w (conductor w)) f ≡ false
  too_far m f low far = is_false _ (λ e.
      let s = sum_of (set_below w (conductor w)) f e in
      let (p, k) = below_in w (conductor w) s.one s.one_in in
      let (q, l) = below_in w (conductor w) s.other s.other_in in
      omega (arith, s.sum, low s.one p k, low s.other q l))

  -- so none is from 2 c on
  pub no_sum : (f : ℕ) → conductor w ≤ f → conductor w ≤ f - conductor w → sum_of_two (set_below w (conductor w)) f ≡ false
  no_sum f high far = too_far (conductor w) f (λ x e h. h) (omega arith)
