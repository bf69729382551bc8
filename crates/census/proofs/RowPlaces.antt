-- The words below a word, counted up child by child, and the places of those two levels below it, by its rows moved up to the conductor: these words
-- have its multiplicity, and the bits that tell the generators of a child tell the conductors of the words below the child. Assumes nothing.
use Prim.Native.Nat.{ℕ, suc, ◌+◌, ◌*◌, ◌^◌, ◌<◌}
use mathlib.Core.Path.{◌≡◌, sym, ap, ◌∙◌, subst}
use mathlib.Core.List.Memᴰ
use mathlib.Core.List.{List, map, map-map, Memᴰ}
use native.Mathlib.Omega.{arith}
use lib.ListN.{length}
use Rattle.semigroups.specs.Words.{child_word}
use Rattle.semigroups.specs.Positions.{positions}
use Rattle.semigroups.specs.Elements.{multiplicity, right_generators}
use Rattle.semigroups.specs.Tree.{leaves}
use Rattle.semigroups.proofs.Lists.{joined_each, map_same}
use Rattle.semigroups.proofs.Elements.{multiplicity_below}
use Rattle.semigroups.proofs.Tree.{multiplicity_stays}
use Rattle.nodes.specs.Nodes.{TakenOff}
use Rattle.nodes.specs.NewGaps.{gap_branches, moved_row_of_child, TwoRows, Upper}
use Rattle.nodes.proofs.Branches.{child_of_generator, leaf_below}
use Rattle.nodes.proofs.NewGaps.{upper_all, upper_left, gap_branches_none, gap_branches_first}
use Rattle.nodes.proofs.MovedRows.{bit_generator, child_told, one_level_below}
use Rattle.census.specs.Private.{census_place, tallied, ArePlaces, RoomFor}
use Rattle.census.proofs.Tallies.{InParts, Tallying, tally_begins, room_first, tally_again, tally_ends}
use Rattle.census.proofs.WordPlaces.{child_place, leaf_place}

-- ---- child by child

-- a loop counts up the words r + 1 levels below w: those below the children whose new gaps are the bits of rest are left, and these bits are
-- the generators from one of them on
pub record TallyingGaps (r w generators : ℕ) (o₀ : List ℕ) (rest : ℕ) (o : List ℕ) : Type 0 where
  pub upper : Upper generators rest
  pub words : Tallying census_place (leaves (suc r) w) (gap_branches r w rest) o₀ o

-- at first all are left
pub gaps_begin : {r w generators : ℕ} {o : List ℕ} → generators < 2 ^ 64 → leaves (suc r) w ≡ gap_branches r w generators → RoomFor (length (leaves (suc r) w)) o
    → TallyingGaps r w generators o generators o
gaps_begin fits all room = record { upper = upper_all fits; words = tally_begins census_place all room }

module _ {r w generators rest : ℕ} {o₀ o : List ℕ} (at : TallyingGaps r w generators o₀ rest o) where
  -- i is the lowest bit of those that are left
  module _ {i others : ℕ} (low : TakenOff rest i others) where
    -- the words below the child there come first
    parts : InParts (leaves r (child_word w (suc i))) (gap_branches r w others) (gap_branches r w rest)
    parts = record { split = gap_branches_first w low r }

    -- there is room for them
    pub gap_room : RoomFor (length (leaves r (child_word w (suc i)))) o
    gap_room = room_first at.words parts

    -- after them the others are left
    pub gaps_again : {p : List ℕ} → p ≡ tallied (map census_place (leaves r (child_word w (suc i)))) o → TallyingGaps r w generators o₀ others p
    gaps_again done = record { upper = upper_left at.upper low; words = tally_again at.words parts done }

  -- at last none is left
  pub gaps_end : rest ≡ 0 → o ≡ tallied (map census_place (leaves (suc r) w)) o₀
  gaps_end none = tally_ends at.words (ap (gap_branches r w) none ∙ gap_branches_none r w)

-- ---- the words two levels below

-- the multiplicity may be given as any number that is equal to it
pub with_multiplicity : {w m k generators seeds : ℕ} → TwoRows w m generators seeds → k ≡ multiplicity w → TwoRows w k generators seeds
with_multiplicity {w} {generators} {seeds} rows e = subst (λ (k : ℕ). TwoRows w k generators seeds) (rows.least ∙ sym e) rows

-- the rows of w, and the bit of a generator
module _ {w m generators seeds : ℕ} (rows : TwoRows w m generators seeds) {i : ℕ} (g : Memᴰ i (positions generators)) where
  -- the child without it, and the bits that tell the child's generators
  abbrev v : ℕ
  v = child_word w (suc i)

  abbrev bits : ℕ
  bits = moved_row_of_child generators seeds m i

  -- each bit is that of a generator
  generator_there : Memᴰ (suc i) (right_generators w)
  generator_there = bit_generator 1 w rows.levels (subst (λ (n : ℕ). Memᴰ i (positions n)) rows.first g)

  -- each of its bits makes one word there
  words_below : leaves 1 v ≡ map (λ j. child_word v (suc j)) (positions bits)
  unfolding gap_branches leaves
  words_below = one_level_below rows g ∙ joined_each (λ j. child_word v (suc j)) (positions bits)

  module _ {j : ℕ} (k : Memᴰ j (positions bits)) where
    abbrev u : ℕ
    u = child_word v (suc j)

    word_there : Memᴰ u (leaves 1 v)
    word_there = subst (Memᴰ u) (sym words_below) (Memᴰ.map (λ j. child_word v (suc j)) k)

    -- the word has the multiplicity of w
    multiplicity_there : multiplicity u ≡ m
    multiplicity_there =
        let (l, split, fits) = leaf_below 1 w rows.levels generator_there word_there in
        let high = (child_of_generator 1 w rows.levels generator_there).high in
        let low = multiplicity_below w rows.levels.fits rows.two in
        multiplicity_stays w u (suc i) l rows.levels.fits split fits (omega arith) ∙ sym rows.least

    -- its conductor is two more than the bit
    place_there : census_place u ≡ 65 * m + 2 + j
    place_there =
        let (below, same) = child_told rows g in
        let generator = bit_generator 0 v below (subst (λ (n : ℕ). Memᴰ j (positions n)) (sym same) k) in
        omega (arith, child_place v (suc j) (child_of_generator 0 v below generator), multiplicity_there)

  -- so the bits tell the places of the words below the child
  pub child_places : map census_place (leaves 1 (child_word w (suc i))) ≡ map (λ j. 65 * m + 2 + j) (positions (moved_row_of_child generators seeds m i))
  child_places = ap (map census_place) words_below ∙ map-map census_place _ (positions bits) ∙ map_same _ _ (positions bits) (λ j k. place_there k)

  -- these are among the 2,210
  pub are_places : ArePlaces (65 * m + 2) (moved_row_of_child generators seeds m i)
  are_places j k = subst (λ (p : ℕ). p < 2210) (place_there k) (leaf_place 1 v (child_told rows g).0 (word_there k))
