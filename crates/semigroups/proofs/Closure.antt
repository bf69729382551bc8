-- The closure test of a gap word: it passes where the set of the word is closed under addition, and then bounds the gaps, none of which is a
-- multiple of the multiplicity. Assumes nothing.
use Prim.Native.Nat.{ℕ, ◌+◌, ◌*◌, ◌/◌, ◌%◌, ◌^◌, ◌≤◌, ◌<◌, max}
use mathlib.Core.Path.{◌≡◌, refl, ap, ◌∙◌}
use mathlib.Core.Logic.{◌≢◌, ◌↔◌, ⊎_elim}
use mathlib.Core.Bool.{true, false}
use mathlib.Core.List.Memᴰ
use mathlib.Core.List.{Memᴰ}
use native.Mathlib.Omega.{arith}
use native.Mathlib.Nat.{div-add-mod, mod-one, lt_of_not-le}
use Rattle.semigroups.specs.Sets.{ClosedUnderAddition, NumericalSemigroup}
use Rattle.semigroups.specs.Words.{set_of, gaps, genus, largest_gap, conductor, closed}
use Rattle.semigroups.specs.Elements.{multiplicity}
use Rattle.semigroups.proofs.Booleans.{not_both}
use Rattle.semigroups.proofs.Lists.{last_mem}
use Rattle.semigroups.proofs.Sets.{multiples_in, closed_by_gaps}
use Rattle.semigroups.proofs.Words.{element_past, gaps_of}
use Rattle.semigroups.proofs.Counting.{gap_bound}
use Rattle.semigroups.proofs.Elements.{largest_gap_is, largest_gap_pos, multiplicity_in, multiplicity_pos}

module _ (w : ℕ) (fits : w < 2 ^ 64) where
  -- the test `closed` of a 64-bit word passes just where its set is closed under addition
  pub closed_iff : (closed w ≡ true) ↔ ClosedUnderAddition (set_of w)
  unfolding closed
  closed_iff = closed_by_gaps (set_of w) (gaps w) (gaps_of w fits)

  -- the set of a closed word is a numerical semigroup
  pub closed_semigroup : closed w ≡ true → NumericalSemigroup (set_of w)
  unfolding set_of
  closed_semigroup c = record { zero_in = refl; closed = closed_iff.0 c; cofinite = (65, λ x k. element_past w 64 x fits k) }

  -- no gap of a closed word is a multiple of its multiplicity
  pub gap_no_multiple : closed w ≡ true → (x : ℕ) → set_of w x ≡ false → x % multiplicity w ≡ 0 → ⊥
  unfolding set_of
  gap_no_multiple c x gap e =
      let m : ℕ = multiplicity w in
      let multiple : m * (x / m) ≡ x = omega (arith, div-add-mod x m) in
      not_both (multiples_in (set_of w) refl (closed_iff.0 c) m (multiplicity_in w fits) (x / m)) (ap (set_of w) multiple ∙ gap)

  -- so that only the word 0 has multiplicity 1
  pub multiplicity_from_two : closed w ≡ true → w ≢ 0 → 2 ≤ multiplicity w
  multiplicity_from_two c nonzero =
      lt_of_not-le (λ l.
      let one : multiplicity w ≡ 1 = omega (arith, multiplicity_pos w fits) in
      gap_no_multiple c (largest_gap w) (largest_gap_is w (largest_gap_pos w fits nonzero)) (ap (λ (m : ℕ). largest_gap w % m) one ∙ mod-one (largest_gap w)))

  -- the gaps of a closed word of genus g are below 2 g
  pub word_gap_bound : closed w ≡ true → (x : ℕ) → Memᴰ x (gaps w) → x + 1 ≤ 2 * genus w
  unfolding genus
  word_gap_bound c = gap_bound (set_of w) (gaps w) (genus w) (closed_semigroup c) (gaps_of w fits) refl

  -- the conductor of a closed word of genus g is at most 2 g, or 1 for the word 0
  pub conductor_bound : closed w ≡ true → conductor w ≤ max 1 (2 * genus w)
  unfolding conductor largest_gap
  conductor_bound c =
      ⊎_elim (λ e. omega arith) (λ m. omega (arith, word_gap_bound c (largest_gap w) m)) (Memᴰ.cases_cons (last_mem 0 (gaps w)))

  -- so that it is at most 64 where the genus is at most 32
  pub conductor_le_64 : closed w ≡ true → genus w ≤ 32 → conductor w ≤ 64
  conductor_le_64 c h = omega (arith, conductor_bound c)
