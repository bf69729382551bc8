-- The first word of the genus list of g is 2 ^ g - 1, whose gaps are 1 to g. It is the first of multiplicity g + 1 in the tree. Assumes nothing.
use Prim.Native.Nat.{ℕ, zero, suc, ◌+◌, ◌-◌, ◌^◌, ◌≤◌, ◌<◌}
use mathlib.Core.Path.{◌≡◌, refl, sym, ◌∙◌, ap, ap₂, subst}
use mathlib.Core.Bool.{Bool, true, not}
use mathlib.Core.List.{List, [], ◌∷◌, ◌++◌, map, Memᴰ}
use native.Mathlib.Omega.{arith}
use native.Mathlib.Nat.{add-zero, zero-add, pow-suc, lt_of_not-le}
use lib.Pow.{pow_pos}
use Rattle.semigroups.specs.Lists.{run, keep, joined, begins}
use Rattle.semigroups.specs.Sets.{sum_of_two, gaps_to}
use Rattle.semigroups.specs.Words.{set_of, gaps, conductor, word_of, closed}
use Rattle.semigroups.specs.Elements.{multiplicity}
use Rattle.semigroups.specs.GenusList.{risings, genus_list}
use Rattle.semigroups.proofs.Booleans.{not_both, is_false}
use Rattle.semigroups.proofs.Lists.{run_mem, mem_run, ordered_run, keep_in, mem_every, begins_append}
use Rattle.semigroups.proofs.Kept.{keep_all}
use Rattle.semigroups.proofs.Sets.{sum_of, gaps_to_append}
use Rattle.semigroups.proofs.Words.{GapList, element_past, gaps_mem, word_gaps, gaps_of_word}
use Rattle.semigroups.proofs.Elements.{conductor_least, genus_lt_conductor, multiplicity_in, multiplicity_pos, gap_below_multiplicity, multiplicity_le_genus}
use Rattle.semigroups.proofs.GenusList.{WordOfGenus, genus_list_mem}

-- the first rising list is r numbers in a row
risings_first : (r lo hi : ℕ) → lo + r ≤ suc hi → (k : List (List ℕ)) × (risings r lo hi ≡ run lo r ∷ k)
unfolding risings run joined
risings_first zero lo hi h = ([], refl)
risings_first (suc r) lo hi h =
    let (k, e) = risings_first r (suc lo) hi (omega arith) in
    let next : suc hi - lo ≡ suc (hi - lo) = omega arith in (
      _,
      ap (λ (n : ℕ). joined (λ x. map (λ l. x ∷ l) (risings r (suc x) hi)) (run lo n)) next
          ∙ ap (λ (t : List (List ℕ)). map (λ l. lo ∷ l) t ++ joined (λ x. map (λ l. x ∷ l) (risings r (suc x) hi)) (run (suc lo) (hi - lo))) e,
    )

-- gaps from a + 1 to a + n are the bits from a to a + n - 1
pub word_of_run : (a n : ℕ) → word_of (run (suc a) n) + 2 ^ a ≡ 2 ^ (a + n)
unfolding word_of run
word_of_run a zero = zero-add (2 ^ a) ∙ ap (λ (k : ℕ). 2 ^ k) (sym (add-zero a))
word_of_run a (suc n) =
    let bit : 2 ^ (suc a - 1) ≡ 2 ^ a = ap (λ (k : ℕ). 2 ^ k) (omega arith) in
    let last : 2 ^ (suc a + n) ≡ 2 ^ (a + suc n) = ap (λ (k : ℕ). 2 ^ k) (omega arith) in
    omega (arith, word_of_run (suc a) n, pow-suc 2 a)

-- the word of the gaps from 1 to g is 2 ^ g - 1
word_first : (g : ℕ) → word_of (run 1 g) ≡ 2 ^ g - 1
word_first g = omega (arith, word_of_run 0 g, ap (λ (n : ℕ). 2 ^ n) (zero-add g))

run_list : (g : ℕ) → g ≤ 64 → GapList 1 (run 1 g)
run_list g h = record { ordered = ordered_run 1 g; within = λ x m. let b = run_mem 1 g m in omega arith }

-- and it has no other gaps
pub first_gaps : (g : ℕ) → g ≤ 64 → gaps (2 ^ g - 1) ≡ run 1 g
first_gaps g h = ap gaps (sym (word_first g)) ∙ gaps_of_word (run 1 g) (run_list g h)

-- a sum of two positive elements is past the gaps
closed_run : (g : ℕ) → g ≤ 64 → closed (word_of (run 1 g)) ≡ true
unfolding closed
closed_run g h =
    let w = word_of (run 1 g) in
    let gap = (word_gaps {lo = 0} (run 1 g) (run_list g h)).missed in
    mem_every _ (gaps w) (λ x m. ap not (is_false (sum_of_two (set_of w) x) (λ e.
    let s = sum_of (set_of w) x e in
    let b = run_mem 1 g (subst (Memᴰ x) (gaps_of_word (run 1 g) (run_list g h)) m) in
    not_both s.one_in (gap s.one (mem_run 1 g s.one_pos (omega (arith, s.sum, s.other_pos)))))))

-- so that it is the first of the genus list
pub genus_list_first : (g : ℕ) → g ≤ 64 → (l : List ℕ) × (genus_list g ≡ (2 ^ g - 1) ∷ l)
unfolding genus_list
genus_list_first g h =
    let (k, e) = risings_first g 1 64 (omega arith) in (
      _,
      ap (λ (l : List (List ℕ)). keep closed (map word_of l)) e ∙ keep_in closed (word_of (run 1 g)) (map word_of k) (closed_run g h)
          ∙ ap (λ (w : ℕ). w ∷ keep closed (map word_of k)) (word_first g),
    )

-- ---- the first word of multiplicity m: its gaps are the numbers from 1 to m - 1

module _ (m : ℕ) (positive : 1 ≤ m) (h : m ≤ 65) where
  abbrev w : ℕ
  w = 2 ^ (m - 1) - 1

  -- it is a word of genus m - 1
  pub first_of_genus : WordOfGenus (m - 1) (2 ^ (m - 1) - 1)
  first_of_genus =
      let (l, e) = genus_list_first (m - 1) (omega arith) in
      genus_list_mem (m - 1) (subst (Memᴰ w) (sym e) (Memᴰ.head refl))

  -- its conductor is m
  pub first_conductor : conductor (2 ^ (m - 1) - 1) ≡ m
  first_conductor =
      let o = first_of_genus in
      let low = conductor_least w o.fits m positive (λ x l. element_past w (m - 1) x (omega (arith, pow_pos (m - 1))) (omega arith)) in
      omega (arith, genus_lt_conductor w o.fits)

  -- and so is its multiplicity
  pub first_multiplicity : multiplicity (2 ^ (m - 1) - 1) ≡ m
  first_multiplicity =
      let o = first_of_genus in
      let high : m - 1 < multiplicity w =
      lt_of_not-le (λ l. not_both (multiplicity_in w o.fits) (gaps_mem w
      (subst (Memᴰ (multiplicity w)) (sym (first_gaps (m - 1) (omega arith))) (mem_run 1 (m - 1) (multiplicity_pos w o.fits) (omega arith))))) in
      omega (arith, multiplicity_le_genus w o.fits)

  -- the gaps of every word of multiplicity m begin with its gaps
  pub first_begins : (v : ℕ) → v < 2 ^ 64 → multiplicity v ≡ m → begins (gaps (2 ^ (m - 1) - 1)) (gaps v) ≡ true
  unfolding gaps gaps_to
  first_begins v fits e =
      let gap : ℕ → Bool = λ x. not (set_of v x) in
      let others : List ℕ = keep gap (run (1 + (m - 1)) (64 - (m - 1))) in
      let all : 64 ≡ m - 1 + (64 - (m - 1)) = omega arith in
      let low : gaps_to (set_of v) (m - 1) ≡ run 1 (m - 1) =
      keep_all gap (run 1 (m - 1)) (λ x i.
      let (from, below) = run_mem 1 (m - 1) i in
      ap not (gap_below_multiplicity v fits x from (omega arith))) in
      let parts : gaps v ≡ run 1 (m - 1) ++ others =
      ap (gaps_to (set_of v)) all ∙ gaps_to_append (set_of v) (m - 1) (64 - (m - 1)) ∙ ap (λ (l : List ℕ). l ++ others) low in
      ap₂ begins (first_gaps (m - 1) (omega arith)) parts ∙ begins_append (run 1 (m - 1)) others
