-- Lemma 3.1 of source 000 by rows: the child's rows, joined, from the rows of its parent. It stands on the law of the child's entries, by which
-- entry l of the child is the parent's entry d past place l + 1, in the row of that place. Assumes nothing.
use Prim.Native.Nat.{ℕ, zero, suc, ◌+◌, ◌-◌, ◌^◌, ◌≤◌, ◌<◌}
use mathlib.Core.Path.{◌≡◌, refl, sym, ap, ap₂, ◌∙◌}
use mathlib.Core.Logic.{◌≢◌}
use mathlib.Core.Bool.{Bool, true, false, not, ◌||◌, ◌&&◌, or-false, and-true, and-false}
use mathlib.Core.List.{List, [], ◌∷◌, ◌++◌, map}
use native.Mathlib.Omega.{arith}
use native.Mathlib.Nat.{zero-add, le_refl, le_dest, lt_of_not-le}
use native.Mathlib.Decide.{dec_le, dec_lt}
use lib.Dec.{eqb, leb}
use lib.ListN.{length, get_or, take, drop, replicate, length-append, length-take, length-drop, length-map, length-replicate, get_or-replicate, get_or-append, get_or-eq_default}
use lib.Seq.{get_or-take, get_or-drop, get_or-append-add, ext_get_or}
use borrow.Author.Tests.{le-leb, lt-leb, eq-eqb, ne_eqb}
use Rattle.semigroups.specs.Lists.{run, joined}
use Rattle.semigroups.specs.Words.{set_of, genus, conductor, closed, child_word}
use Rattle.semigroups.specs.Elements.{element_at, generator}
use Rattle.semigroups.proofs.Bits.{bit_of_bits}
use Rattle.semigroups.proofs.Lists.{map_run, get_d_map_run, length_run, get_d_append_default}
use Rattle.semigroups.proofs.Sets.{without_in}
use Rattle.semigroups.proofs.Words.{child_set}
use Rattle.semigroups.proofs.Elements.{conductor_pos, genus_lt_conductor, largest_gap_pos, element_zero, element_in, element_rises, element_next, element_from_conductor}
use Rattle.semigroups.proofs.Children.{child_fits, child_conductor, generator_le_63}
use Rattle.seeds.specs.Seeds.{jump, seed, row, seed_bits, seed_table}
use Rattle.seeds.specs.Child.{struck, struck_bits, padded, last_three_set, child_bits}
use Rattle.seeds.proofs.Seeds.{entry_at, seed_entry, row_entries, rows_joined, seed_bits_length, table_bit, too_far}
use Rattle.seeds.proofs.Orders.{sum_past}
use Rattle.seeds.proofs.Raking.{gaps_down, element_met, row_gaps}
use Rattle.seeds.proofs.ChildEntries.{element_stays, child_entry}

-- ---- a row with its first d entries struck

-- past the first d entries nothing is changed
struck_drop : (n d : ℕ) (r t : List Bool) → d ≤ n → drop n (struck d r ++ t) ≡ drop n (r ++ t)
unfolding struck
struck_drop n zero r t h = refl
struck_drop zero (suc d) r t h = absurd (omega arith)
struck_drop (suc n) (suc d) [] t h = refl
struck_drop (suc n) (suc d) (x ∷ r) t h = struck_drop n d r t (omega arith)

-- of a row from a on, the entries from a + d on are left
struck_run : (f : ℕ → Bool) (d a n : ℕ) → struck d (map f (run a n)) ≡ map (λ p. f p && leb (a + d) p) (run a n)
unfolding struck run
struck_run f zero a n =
    map_run f (λ p. f p && leb (a + 0) p) a a n (λ j l. rw (le-leb (a + 0) (a + j) (omega arith)) (sym (and-true (f (a + j)))))
struck_run f (suc d) a zero = refl
struck_run f (suc d) a (suc n) =
    let next : suc a + d ≡ a + suc d = omega arith in
    ap₂ ◌∷◌ (rw (lt-leb (a + suc d) a (omega arith)) (sym (and-false (f a))))
    (struck_run f d (suc a) n ∙ ap (λ (k : ℕ). map (λ p. f p && leb k p) (run (suc a) n)) next)

-- ---- the parent's rows, struck

-- entry p of the joined rows, with the first d entries of each row struck
abbrev pub kept : ℕ → ℕ → ℕ → Bool
kept w d p = entry_at w p && gaps_down w p d

module _ (w d : ℕ) (fits : w < 2 ^ 64) where
  abbrev c : ℕ
  c = conductor w

  -- the entries of a struck row
  struck_row : (i : ℕ) → struck d (row w i) ≡ map (kept w d) (run (element_at w i) (jump w i))
  struck_row i =
      let (a, n) : ℕ × ℕ = (element_at w i, jump w i) in
      ap (struck d) (row_entries w fits i) ∙ struck_run (entry_at w) d a n
      ∙ map_run (λ p. entry_at w p && leb (a + d) p) (kept w d) a a n (λ j l. rw (row_gaps w d i (a + j) fits (omega arith) (omega arith)))

  -- past the first d + 1 bits it makes no difference that row 0 is not struck
  struck_bits_are : drop (d + 1) (struck_bits w d) ≡ drop (d + 1) (map (kept w d) (run 0 c))
  unfolding struck_bits run joined
  struck_bits_are =
      let k : ℕ = c - genus w in
      let struckRow : ℕ → List Bool = λ i. struck d (row w i) in
      let rows : suc (k - 1) ≡ k = omega (arith, genus_lt_conductor w fits) in
      sym (struck_drop (d + 1) d (row w 0) (joined struckRow (run 1 (k - 1))) (omega arith))
      ∙ ap (drop (d + 1)) (ap (λ (n : ℕ). joined struckRow (run 0 n)) rows ∙ rows_joined w fits (kept w d) struckRow struck_row)

  -- the rows have c entries, struck or not
  kept_length : length (map (kept w d) (run 0 c)) ≡ c
  kept_length = length-map (run 0 c) (kept w d) ∙ length_run 0 c

  -- the child's rows before their last three bits are set
  abbrev unset : List Bool
  unset = padded (c + d + 1) (drop (d + 1) (struck_bits w d))

  -- they have c + d + 1 bits
  unset_length : length unset ≡ c + d + 1
  unfolding padded
  unset_length = simp (length-append, length-replicate) (omega (arith, ap length struck_bits_are, length-drop (d + 1) (map (kept w d) (run 0 c)), kept_length))

  -- those below the last three are what is kept, from place d + 1 on: past the parent's rows that is nothing
  unset_entry : (l : ℕ) → l < c + d - 2 → get_or unset l false ≡ kept w d (d + 1 + l)
  unfolding padded
  unset_entry l h =
      let (p, rest) : ℕ × List Bool = (d + 1 + l, drop (d + 1) (struck_bits w d)) in
      get_d_append_default rest (c + d + 1 - length rest) l false ∙ ap (λ (b : List Bool). get_or b l false) struck_bits_are
      ∙ get_or-drop (d + 1) (map (kept w d) (run 0 c)) l false ∙ elim (dec_le c p) [
        | yes k ↦ get_or-eq_default (map (kept w d) (run 0 c)) false (omega (arith, kept_length))
            ∙ sym (rw (element_met w p d p (element_from_conductor w fits p k) (le_refl p) (omega arith)) (and-false (entry_at w p)))
        | no k ↦ get_d_map_run (kept w d) false 0 c p (lt_of_not-le k) ∙ ap (kept w d) (zero-add p)
      ]

  module _ (nonzero : w ≢ 0) where
    -- all but the last three
    abbrev front : List Bool
    front = take (length unset - 3) unset

    -- they are c + d - 2
    front_length : (length front ≡ c + d - 2) × (2 ≤ c)
    unfolding conductor
    front_length = omega (arith, length-take (length unset - 3) unset, unset_length, largest_gap_pos w fits nonzero)

    -- the lemma's bits are c + d + 1
    pub child_bits_length : length (child_bits w d) ≡ suc (conductor w + d)
    unfolding child_bits last_three_set
    child_bits_length = omega (arith, length-append front (replicate 3 true), front_length)

    -- the last three are 1
    pub child_bits_last : (l : ℕ) → conductor w + d - 2 ≤ l → l < suc (conductor w + d) → get_or (child_bits w d) l false ≡ true
    unfolding child_bits last_three_set
    child_bits_last l low high =
        let (j, e) = le_dest low in
        let at : l ≡ length front + j = omega (arith, front_length) in
        rw at (get_or-append-add front (replicate 3 true) j false ∙ get_or-replicate 3 j true false (omega (arith, front_length)))

    -- those below are what is kept, from place d + 1 on
    pub child_bits_kept : (l : ℕ) → l < conductor w + d - 2 → get_or (child_bits w d) l false ≡ kept w d (d + 1 + l)
    unfolding child_bits last_three_set
    child_bits_kept l h =
        get_or-append front (replicate 3 true) false l (omega (arith, front_length)) ∙ get_or-take (length unset - 3) unset l false (omega (arith, unset_length))
        ∙ unset_entry l h

  -- ---- the entries of the parent and of the child

  -- each number lies in a row: it is q past an element, and the next element is above it
  row_of : (n : ℕ) → (r : ℕ) × (q : ℕ) × (element_at w r + q ≡ n) × (n < element_at w (suc r))
  row_of zero = (0, 0, omega (arith, element_zero w fits), omega (arith, element_zero w fits, element_rises w fits 0))
  row_of (suc n) =
      let (r, q, at, within) = row_of n in
      elim (dec_lt (suc n) (element_at w (suc r))) [
        | yes h ↦ (r, suc q, omega arith, h)
        | no h ↦ (suc r, 0, omega arith, omega (arith, element_rises w fits (suc r)))
      ]

  -- the entries past the end of row r are 0
  past : (r j : ℕ) → jump w r ≤ j → suc (element_at w r) < c + j → seed w r j ≡ false
  unfolding seed
  past r j far beyond = ap not (sum_past w fits r (c + j) (omega arith) beyond)

  -- the entry of row r that is d past one of its places is what is kept there
  kept_row : (r q p : ℕ) → element_at w r + (d + q) ≡ p → element_at w r + q < element_at w (suc r) → suc (element_at w r + q) < c + d
      → seed w r (d + q) ≡ kept w d p
  kept_row r q p at within near = elim (dec_lt p (element_at w (suc r))) [
    | yes h ↦ seed_entry w fits r (d + q) (omega arith) ∙ ap (entry_at w) at
        ∙ sym (rw (row_gaps w d r p fits (omega arith) h, le-leb (element_at w r + d) p (omega arith)) (and-true (entry_at w p)))
    | no h ↦ past r (d + q) (omega arith) (omega arith)
        ∙ sym (rw (element_met w p d (element_at w (suc r)) (element_in w fits (suc r)) (omega arith) (omega arith)) (and-false (entry_at w p)))
  ]

  module _ (small : child_word w (conductor w + d) < 2 ^ 64) where
    -- the child
    abbrev v : ℕ
    v = child_word w (c + d)

    -- its conductor is c + d + 1
    next : conductor v ≡ suc (c + d)
    next = child_conductor w (c + d) fits (omega arith) small

    -- entry l of the child is 1 where all elements of the parent below c + d are below m, too low for a sum
    high_entry : (m l : ℕ) → ((x : ℕ) → set_of w x ≡ true → x < c + d → x < m) → m + m ≤ suc (suc (c + d + l)) → entry_at v l ≡ true
    high_entry m l low far =
        let same = child_set w (c + d) (omega (arith, conductor_pos w)) (element_from_conductor w fits (c + d) (omega arith)) in
        let lower : (x : ℕ) → set_of v x ≡ true → x < conductor v → x < m =
        λ x e h. let (apart, q) = without_in (c + d) (set_of w) x (sym (same x) ∙ e) in low x q (omega (arith, next)) in
        ap not (too_far v small m (conductor v + l) lower (omega (arith, next)))

    -- the law of the child's entries, by places in the joined rows
    entry_law : (i j l : ℕ) → element_at w i + j ≡ l → l < element_at w (suc i) → element_at w (suc i) < c + d
        → entry_at v l ≡ (seed w i (d + 1 + j) || (eqb (suc j) (jump w i) && seed w (suc i) d))
    entry_law i j l at within below =
        let start = element_stays w (c + d) fits (omega arith) small i (omega arith) in
        let end = element_stays w (c + d) fits (omega arith) small (suc i) below in
        let here : l ≡ element_at v i + j = omega arith in
        ap (entry_at v) here ∙ sym (seed_entry v small i j (omega arith)) ∙ child_entry w d fits small i below j

    -- entry l of the child is the entry of the parent that is d past place l + 1, in the row of that place: in the child's last row all are 1
    entry : (r q l : ℕ) → element_at w r + q ≡ suc l → suc l < element_at w (suc r) → suc l < c + d → entry_at v l ≡ seed w r (d + q)
    entry zero zero l at within near = absurd (omega (arith, element_zero w fits))
    entry (suc i) zero l at within near =
        let j : ℕ = jump w i - 1 in
        let rise = element_rises w fits i in
        let here : d ≡ d + 0 = omega arith in
        entry_law i j l (omega arith) (omega arith) (omega arith)
        ∙ rw (past i (d + 1 + j) (omega arith) (omega arith), eq-eqb (suc j) (jump w i) (omega arith)) (ap (seed w (suc i)) here)
    entry r (suc q) l at within near = elim (dec_lt (element_at w (suc r)) (c + d)) [
      | yes below ↦
          let here : d + 1 + q ≡ d + suc q = omega arith in
          entry_law r q l (omega arith) (omega arith) below ∙ rw (ne_eqb (suc q) (jump w r) (λ e. omega arith)) (or-false (seed w r (d + 1 + q)) ∙ ap (seed w r) here)
      | no far ↦
          let none : d < 1 = lt_of_not-le (λ (some : 1 ≤ d).
          omega (arith, element_next w fits r (c + d - 1) (element_from_conductor w fits (c + d - 1) (omega arith)) (omega arith))) in
          let low : (x : ℕ) → set_of w x ≡ true → x < c + d → x < suc (element_at w r) = λ x e h. lt_of_not-le (λ k. omega (arith, element_next w fits r x e k)) in
          high_entry (suc (element_at w r)) l low (omega arith)
          ∙ sym (seed_entry w fits r (d + suc q) (omega arith) ∙ ap not (too_far w fits (suc (element_at w r)) _ (λ x e h. low x e (omega arith)) (omega arith)))
    ]

  -- lemma 3.1: the child's rows, from the rows of any word but 0
  pub child_rows : conductor w + d ≤ 64 → w ≢ 0 → seed_bits (child_word w (conductor w + d)) ≡ child_bits w d
  unfolding seed_table
  child_rows room nonzero =
      let child : ℕ = child_word w (c + d) in
      let small : child < 2 ^ 64 = child_fits w (c + d) fits (omega arith) room in
      let size : conductor child ≡ suc (c + d) = next small in
      ext_get_or false (seed_bits child) (child_bits w d) (seed_bits_length child small ∙ size ∙ sym (child_bits_length nonzero))
      (λ l h. let low : l < conductor child = omega (arith, seed_bits_length child small) in
      sym (bit_of_bits (seed_bits child) l) ∙ table_bit child small l low ∙ elim (dec_le (c + d - 2) l) [
        | yes k ↦ high_entry small (c + d) l (λ x e m. m) (omega arith) ∙ sym (child_bits_last nonzero l k (omega arith))
        | no k ↦
            let (r, q, at, within) = row_of (suc l) in
            entry small r q l at within (omega arith) ∙ kept_row r q (d + 1 + l) (omega arith) (omega arith) (omega arith)
            ∙ sym (child_bits_kept nonzero l (lt_of_not-le k))
      ])

-- the same for each generator not below the conductor of a closed word of genus 31 at most
pub generator_rows : (w d : ℕ) → w < 2 ^ 64 → closed w ≡ true → genus w ≤ 31 → w ≢ 0 → generator w (conductor w + d) ≡ true
    → seed_bits (child_word w (conductor w + d)) ≡ child_bits w d
generator_rows w d fits c h nonzero g =
    child_rows w d fits (omega (arith, generator_le_63 w (conductor w + d) fits (omega arith) c g h)) nonzero
