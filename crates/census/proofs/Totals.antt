-- Sums over the places of a census: of the numbers, which make the count, and of the conductors, which fit 64 bits. Assumes nothing.
use Prim.Native.Nat.{ℕ, ◌*◌, ◌%◌, ◌^◌, ◌≤◌, ◌<◌}
use mathlib.Core.Path.{◌≡◌, sym, ap, ◌∙◌}
use mathlib.Core.Bool.{Bool, ◌&&◌, and_comm}
use mathlib.Core.List.{List}
use native.Mathlib.Omega.{arith}
use native.Mathlib.Nat.{le_trans, one-mul}
use lib.Dec.{eqb}
use lib.ListN.{length, get_or}
use lib.Pow.{pow_mono}
use Rattle.semigroups.specs.Lists.{run, keep, sum_over, fronted}
use Rattle.semigroups.specs.Words.{digit, reported_conductor}
use Rattle.semigroups.specs.Elements.{multiplicity}
use Rattle.semigroups.specs.GenusList.{genus_list}
use Rattle.semigroups.proofs.Lists.{run_mem, keep_mem, sum_same, sum_of_ones, sum_at_most, sum_kept, sum_by_key, fronted_length, fronted_at}
use Rattle.semigroups.proofs.Kept.{keep_same, keep_both}
use Rattle.semigroups.proofs.GenusList.{genus_list_mem}
use Rattle.coordinates.proofs.Residues.{residue_mod}
use Rattle.coordinates.proofs.Compositions.{genus_number}
use Rattle.census.specs.Census.{counts_at, census_list, census_number, census_places, conductor_sum}
use Rattle.census.specs.Private.{census_place, blank, RoomFor, conductors_in}
use Rattle.census.proofs.Tallies.{blank_length, blank_at}
use Rattle.census.proofs.WordPlaces.{word_bounds, place_below_2210}
use Rattle.census.proofs.Places.{places_length, words_at}

module _ (g : ℕ) (few : g ≤ 32) where
  -- what f says of each place, times the number there, is together what f says of the place of each word
  pub sum_over_places : (f : ℕ → ℕ) → sum_over (λ p. f p * get_or (census_places g) p 0) (run 0 2210) ≡ sum_over (λ w. f (census_place w)) (genus_list g)
  sum_over_places f =
      sum_same _ _ (run 0 2210) (λ p i. ap (λ (n : ℕ). f p * n) (words_at g few p (omega (arith, run_mem 0 2210 i))))
      ∙ sum_by_key census_place f 2210 (genus_list g) (λ w i. place_below_2210 g w few (genus_list_mem g i))

  -- the numbers make the number of all words
  pub places_count : sum_over (λ p. get_or (census_places g) p 0) (run 0 2210) ≡ length (genus_list g)
  places_count = sum_same _ _ (run 0 2210) (λ p i. sym (one-mul (get_or (census_places g) p 0))) ∙ sum_over_places (λ p. 1) ∙ sum_of_ones (genus_list g)

  -- the remainder of its place is the conductor of a word
  pub conductors_of_places : (lent : List ℕ) → conductors_in (fronted (census_places g) lent) ≡ conductor_sum g
  unfolding conductors_in conductor_sum census_place
  conductors_of_places lent =
      sum_same _ _ (run 0 2210) (λ p i. ap (λ (n : ℕ). p % 65 * n) (fronted_at (census_places g) lent p (omega (arith, places_length g, run_mem 0 2210 i))))
      ∙ sum_over_places (λ p. p % 65)
      ∙ sum_same _ _ (genus_list g) (λ w i. residue_mod 65 (multiplicity w) (reported_conductor w) (omega (arith, (word_bounds g w few (genus_list_mem g i)).1)))

  -- no genus has more than 2 ^ 32 words, so that their number and the sum of their conductors, each at most 64, fit 64 bits
  pub number_low : length (genus_list g) ≤ 2 ^ 32
  number_low = le_trans (genus_number g) (pow_mono few)

  pub conductor_sum_fits : conductor_sum g < 2 ^ 64
  unfolding conductor_sum
  conductor_sum_fits =
      omega (arith, number_low, sum_at_most reported_conductor 64 (genus_list g) (λ w i. (word_bounds g w few (genus_list_mem g i)).1))

  -- there is room to count them all, from 0 on
  pub room_for_all : (lent : List ℕ) → 2210 ≤ length lent → RoomFor (length (genus_list g)) (fronted (blank 2210) lent)
  room_for_all lent room = record {
    places = omega (arith, fronted_length (blank 2210) lent (omega (arith, blank_length 2210)));
    below = λ p h. omega (arith, number_low, fronted_at (blank 2210) lent p (omega (arith, blank_length 2210)), blank_at 2210 p);
  }

  -- of the words with conductor c, those of each multiplicity, which pass a test or don't, make those whose multiplicity passes
  pub passing_count : (c : ℕ) (pass : ℕ → Bool)
      → sum_over (λ m. census_number g m c) (keep pass (run 0 34)) ≡ length (keep (λ w. eqb (reported_conductor w) c && pass (multiplicity w)) (genus_list g))
  unfolding counts_at census_number census_list
  passing_count c pass =
      let with-conductor : List ℕ = keep (λ w. eqb (reported_conductor w) c) (genus_list g) in
      sum_kept (λ m. census_number g m c) pass (run 0 34)
      ∙ sum_same _ _ (run 0 34) (λ m i. ap (λ (l : List ℕ). digit (pass m) * length l) (
      keep_same _ _ (genus_list g) (λ w j. and_comm (eqb (multiplicity w) m) (eqb (reported_conductor w) c))
      ∙ sym (keep_both (λ w. eqb (multiplicity w) m) (λ w. eqb (reported_conductor w) c) (genus_list g))))
      ∙ sum_by_key multiplicity (λ m. digit (pass m)) 34 with-conductor (λ w i. omega (arith, (word_bounds g w few (genus_list_mem g (keep_mem _ (genus_list g) i).0)).0))
      ∙ sum_same _ _ with-conductor (λ w i. omega arith)
      ∙ sym (sum_kept (λ w. 1) (λ w. pass (multiplicity w)) with-conductor) ∙ sum_of_ones (keep (λ w. pass (multiplicity w)) with-conductor)
      ∙ ap length (keep_both (λ w. pass (multiplicity w)) (λ w. eqb (reported_conductor w) c) (genus_list g))
