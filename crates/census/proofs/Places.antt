-- The places of a census: which number stands where, and that the words counted up at their places, from 0, make them. Assumes nothing.
use Prim.Native.Nat.{ℕ, ◌+◌, ◌*◌, ◌/◌, ◌%◌, ◌≤◌, ◌<◌}
use mathlib.Core.Path.{◌≡◌, sym, ap, ap₂, ◌∙◌}
use mathlib.Core.Bool.{and-eq-true_iff}
use mathlib.Core.List.Memᴰ
use mathlib.Core.List.{List, map, Memᴰ}
use native.Mathlib.Omega.{arith}
use native.Mathlib.Nat.{div-add-mod}
use native.Mathlib.Decide.{dec_lt}
use lib.Dec.{eqb}
use lib.ListN.{length, get_or, length-map}
use lib.Seq.{ext_get_or}
use borrow.Author.Tests.{eqb-true, eq-eqb, ne_eqb}
use Rattle.semigroups.specs.Lists.{run, keep, fronted}
use Rattle.semigroups.specs.Words.{reported_conductor}
use Rattle.semigroups.specs.Elements.{multiplicity}
use Rattle.semigroups.specs.GenusList.{genus_list}
use Rattle.semigroups.proofs.Booleans.{true_together}
use Rattle.semigroups.proofs.Lists.{length_run, map_run, get_d_map_run, joined_rows, fronted_length, fronted_at, fronted_beyond}
use Rattle.semigroups.proofs.Kept.{keep_same, keep_map, keep_none}
use Rattle.semigroups.proofs.GenusList.{genus_list_mem}
use Rattle.coordinates.proofs.Residues.{residue_mod, residue_div}
use Rattle.census.specs.Census.{counts_at, census_list, census_number, census_places}
use Rattle.census.specs.Private.{census_place, blank, tallied}
use Rattle.census.proofs.Tallies.{blank_length, blank_at, tallied_length, tallied_at}
use Rattle.census.proofs.WordPlaces.{word_bounds, place_below_2210}

module _ (g : ℕ) where
  -- the number at place p is that of the quotient and the remainder by 65
  abbrev number_at : ℕ → ℕ
  number_at p = census_number g (p / 65) (p % 65)

  places_by_number : census_places g ≡ map number_at (run 0 2210)
  unfolding census_places
  places_by_number =
      joined_rows (λ m. 65 * m) (λ m. omega arith) number_at (λ m. map (census_number g m) (run 0 65)) (λ m. row m ∙ ap (λ (n : ℕ). map number_at (run (65 * m) n)) (omega arith)) 0 34
    where
      row : (m : ℕ) → map (census_number g m) (run 0 65) ≡ map number_at (run (65 * m) 65)
      row m = map_run (census_number g m) number_at 0 (65 * m) 65 (λ c h. ap₂ (census_number g) (sym (residue_div 65 m c h)) (omega (arith, residue_mod 65 m c h)))

  pub places_length : length (census_places g) ≡ 2210
  places_length = ap length places_by_number ∙ length-map (run 0 2210) number_at ∙ length_run 0 2210

  number_at_place : (p : ℕ) → p < 2210 → get_or (census_places g) p 0 ≡ number_at p
  number_at_place p h = ap (λ (l : List ℕ). get_or l p 0) places_by_number ∙ get_d_map_run number_at 0 0 2210 p h ∙ ap number_at (omega arith)

  -- place 65 m + c has the number of multiplicity m and conductor c
  pub place_at : (m c : ℕ) → m ≤ 33 → c ≤ 64 → get_or (census_places g) (65 * m + c) 0 ≡ census_number g m c
  place_at m c h k = number_at_place (65 * m + c) (omega arith) ∙ ap₂ (census_number g) (residue_div 65 m c (omega arith)) (residue_mod 65 m c (omega arith))

  module _ (few : g ≤ 32) where
    -- a word of the genus counts at the quotient and the remainder of p by 65 just where p is its place
    same_place : (p w : ℕ) → Memᴰ w (genus_list g) → counts_at (p / 65) (p % 65) w ≡ eqb (census_place w) p
    unfolding counts_at census_place
    same_place p w i =
        let m : ℕ = multiplicity w in
        let c : ℕ = reported_conductor w in
        let small = (word_bounds g w few (genus_list_mem g i)).1 in
        let both = and-eq-true_iff (eqb m (p / 65)) (eqb c (p % 65)) in
        true_together (counts_at (p / 65) (p % 65) w) (eqb (census_place w) p)
        (λ e. let (a, b) = both.0 e in eq-eqb (65 * m + c) p (omega (arith, eqb-true m (p / 65) a, eqb-true c (p % 65) b, div-add-mod p 65)))
        (λ e. let there = eqb-true (65 * m + c) p e in both.1 (eq-eqb m (p / 65) (omega (arith, there, small)), eq-eqb c (p % 65) (omega (arith, there, small))))

    -- so that place p has the number of the words there
    pub words_at : (p : ℕ) → p < 2210 → get_or (census_places g) p 0 ≡ length (keep (λ w. eqb (census_place w) p) (genus_list g))
    unfolding census_number census_list
    words_at p h = number_at_place p h ∙ ap length (keep_same _ _ (genus_list g) (same_place p))

    module _ (lent : List ℕ) (room : 2210 ≤ length lent) where
      -- how often p is the place of a word
      abbrev often : ℕ → ℕ
      often p = length (keep (λ q. eqb q p) (map census_place (genus_list g)))

      at_place : (p : ℕ) → p < 2210 → get_or (fronted (blank 2210) lent) p 0 + often p ≡ get_or (fronted (census_places g) lent) p 0
      at_place p low =
          let words = ap length (keep_map (λ q. eqb q p) census_place (genus_list g)) ∙ length-map (keep (λ w. eqb (census_place w) p) (genus_list g)) census_place in
          omega (
            arith,
            words,
            fronted_at (blank 2210) lent p (omega (arith, blank_length 2210)),
            blank_at 2210 p,
            fronted_at (census_places g) lent p (omega (arith, places_length)),
            words_at p low,
          )

      past_places : (p : ℕ) → ¬ (p < 2210) → get_or (fronted (blank 2210) lent) p 0 + often p ≡ get_or (fronted (census_places g) lent) p 0
      past_places p high =
          let none = ap length (keep_none (λ q. eqb q p) (map census_place (genus_list g)) (λ q i.
          let (w, j, e) = Memᴰ.of_map census_place (genus_list g) i in
          ne_eqb q p (λ f. omega (arith, place_below_2210 g w few (genus_list_mem g j))))) in
          omega (arith, none, fronted_beyond (blank 2210) lent p (omega (arith, blank_length 2210)), fronted_beyond (census_places g) lent p (omega (arith, places_length)))

      -- the words counted up at their places, from 0 on, make the census, and the rest of the list stays
      pub census_tallied : tallied (map census_place (genus_list g)) (fronted (blank 2210) lent) ≡ fronted (census_places g) lent
      census_tallied =
          let places : List ℕ = map census_place (genus_list g) in
          let size = tallied_length places (fronted (blank 2210) lent) in
          ext_get_or 0 (tallied places (fronted (blank 2210) lent)) (fronted (census_places g) lent)
          (size ∙ fronted_length (blank 2210) lent (omega (arith, blank_length 2210)) ∙ sym (fronted_length (census_places g) lent (omega (arith, places_length))))
          (λ p h. tallied_at places (fronted (blank 2210) lent) p (omega (arith, h, size))
          ∙ elim (dec_lt p 2210) [ yes low ↦ at_place p low | no high ↦ past_places p high ])
