-- The children of a word by their new gaps as bits: one by one, and from offsets moved up to the conductor. Assumes nothing.
use Rattle.std.proofs.Common.{◌≡◌, ℕ, suc, ◌+◌, ◌-◌, ◌*◌, ◌/◌, ◌%◌, ◌^◌, ◌<◌, [], ◌++◌, map, sym, ap, ◌∙◌, subst, div-mul-le_self, div-one, arith}
use mathlib.Core.List.Memᴰ
use mathlib.Core.List.{Memᴰ}
use lib.Count.{count_trailing_zeros}
use Rattle.semigroups.specs.Lists.{joined}
use Rattle.semigroups.specs.Words.{conductor, child_word}
use Rattle.semigroups.specs.Positions.{positions, above}
use Rattle.semigroups.specs.Tree.{leaves}
use Rattle.semigroups.proofs.Lists.{joined_map, joined_cong}
use Rattle.semigroups.proofs.StandingBits.{positions_shl, from_positions, above_lowest}
use Rattle.semigroups.proofs.Elements.{conductor_pos}
use Rattle.nodes.specs.Nodes.{lowest_offset}
use Rattle.nodes.specs.Levels.{Levels, NodeWithLevels}
use Rattle.nodes.specs.Branches.{branches, Offsets}
use Rattle.nodes.specs.declared.Node.{Node}
use Rattle.nodes.specs.NewGaps.{gap_branches, GapsFit, Upper}
use Rattle.nodes.proofs.Levels.{node_conductor}
use Rattle.nodes.proofs.Branches.{TakenOff, taken_off, lowest_trailing, lowest_in, lowest_is, joined_lowest, joined_none, child_of_generator, levels_below}

-- ---- one by one

-- no gap, no branch
pub gap_branches_none : (r w : ℕ) → gap_branches r w 0 ≡ []
unfolding gap_branches
gap_branches_none r w = joined_none _

-- at is the lowest of the bits, and rest has the others
module _ (w : ℕ) {bits at rest : ℕ} (low : TakenOff bits at rest) where
  -- the branch there comes first
  pub gap_branches_first : (r : ℕ) → gap_branches r w bits ≡ leaves r (child_word w (suc at)) ++ gap_branches r w rest
  unfolding gap_branches
  gap_branches_first r = joined_lowest low _

  -- its word is made by the lowest bit
  pub gap_word : w + (bits - rest) ≡ child_word w (suc at)
  unfolding child_word
  gap_word = let last : at ≡ suc at - 1 = omega arith in ap (λ (k : ℕ). w + k) (low.value ∙ ap (λ (k : ℕ). 2 ^ k) last)

-- the word without the gap of bit i is made by that bit
pub bit_word : (w i : ℕ) → w + 2 ^ i ≡ child_word w (suc i)
unfolding child_word
bit_word w i = let last : i ≡ suc i - 1 = omega arith in ap (λ (k : ℕ). w + 2 ^ k) last

-- ---- from offsets

module _ (r w row : ℕ) (at : Levels (suc r) w) (offsets : Offsets w row) where
  -- the offset d from the conductor c is at bit c - 1 + d
  pub positions_moved : positions (row * 2 ^ (conductor w - 1) % 2 ^ 64) ≡ map (λ d. conductor w - 1 + d) (positions row)
  positions_moved = positions_shl row (conductor w - 1) (λ d m. omega (arith, (child_of_generator r w at (offsets d m)).low, conductor_pos w))

  -- bit c - 1 + d is the gap c + d
  gap : (d : ℕ) → suc (conductor w - 1 + d) ≡ conductor w + d
  gap d = omega (arith, conductor_pos w)

  -- the branches at some offsets are those at their bits
  pub gap_branches_moved : gap_branches r w (row * 2 ^ (conductor w - 1) % 2 ^ 64) ≡ branches r w row
  unfolding gap_branches branches
  gap_branches_moved =
      ap (joined (λ i. leaves r (child_word w (suc i)))) positions_moved ∙ joined_map _ (λ d. conductor w - 1 + d) (positions row)
      ∙ joined_cong _ _ (positions row) (λ d m. ap (λ (x : ℕ). leaves r (child_word w x)) (gap d))

  -- and their words have 64 bits
  pub fits_moved : GapsFit w (row * 2 ^ (conductor w - 1) % 2 ^ 64)
  fits_moved i m =
      let (d, n, e) = Memᴰ.of_map (λ d. conductor w - 1 + d) (positions row) (subst (Memᴰ i) positions_moved m) in
      subst (λ (x : ℕ). child_word w x < 2 ^ 64) (sym (gap d) ∙ ap suc e) (child_of_generator r w at (offsets d n)).fits

-- the same for a node, by the conductor that it carries
pub node_gaps : (r : ℕ) (n : Node) (row : ℕ) → NodeWithLevels (r + 1) n → Offsets n.word row →
    let bits = row * 2 ^ (n.conductor - 1) % 2 ^ 64 in (gap_branches r n.word bits ≡ branches r n.word row) × GapsFit n.word bits
node_gaps r n row at offsets =
    let here = levels_below r n at in
    rw (node_conductor _ n at) (gap_branches_moved r n.word row here offsets, fits_moved r n.word row here offsets)

-- ---- the bits from one of them on

-- all of them are those from the first on
pub upper_all : {n : ℕ} → n < 2 ^ 64 → Upper n n
upper_all {n} fits = record { fits = fits; from = 0; cleared = omega (arith, div-one n) }

pub upper_equal : {n bits : ℕ} → bits < 2 ^ 64 → bits ≡ n → Upper n bits
upper_equal {n} {bits} fits is = subst (λ (k : ℕ). Upper k bits) is (upper_all fits)

-- and so are those above one of them
pub upper_above : {n bits : ℕ} (d : ℕ) → n < 2 ^ 64 → bits ≡ above n d → Upper n bits
upper_above d fits is = record { fits = fits; from = d + 1; cleared = is }

-- they are bits of the number
pub upper_in : {n bits i : ℕ} → Upper n bits → Memᴰ i (positions bits) → Memᴰ i (positions n)
upper_in {n} {bits} {i} u m = from_positions n u.from (subst (λ (b : ℕ). Memᴰ i (positions b)) u.cleared m)

module _ {n bits at rest : ℕ} (u : Upper n bits) (some : 0 < bits) (e : (at ≡ lowest_offset bits) × (rest ≡ bits - 2 ^ lowest_offset bits)) where
  -- it has 64 bits, too
  small : bits < 2 ^ 64
  small = omega (arith, u.fits, u.cleared, div-mul-le_self n (2 ^ u.from))

  -- the lowest, taken off the others
  pub upper_lowest : TakenOff bits at rest
  upper_lowest = taken_off bits some small e

  -- is a bit of the number
  pub upper_bit : Memᴰ at (positions n)
  upper_bit = upper_in u (lowest_in upper_lowest)

  -- and the others are those above it
  pub upper_rest : rest ≡ above n at
  upper_rest =
      let low : at ≡ count_trailing_zeros 64 (n / 2 ^ u.from * 2 ^ u.from) = e.0 ∙ lowest_trailing bits some small ∙ ap (count_trailing_zeros 64) u.cleared in
      e.1 ∙ ap (λ (k : ℕ). bits - 2 ^ k) (sym e.0) ∙ rw (u.cleared, low) (above_lowest n u.from u.fits (subst (λ (b : ℕ). 0 < b) u.cleared some))

  -- from a higher position on
  pub upper_again : Upper n rest
  upper_again = upper_above at u.fits upper_rest

-- at is the lowest of the bits, and rest has the others
module _ {n bits at rest : ℕ} (u : Upper n bits) (low : TakenOff bits at rest) where
  -- it is a bit of the number
  pub upper_taken : Memᴰ at (positions n)
  upper_taken = upper_in u (lowest_in low)

  -- the others are those above it
  pub upper_left_is : rest ≡ above n at
  upper_left_is =
      let here = lowest_is low in
      upper_rest u (omega (arith, low.fewer)) (here, rw (← here) (omega (arith, low.value, low.fewer)))

  -- from a higher position on
  pub upper_left : Upper n rest
  upper_left = upper_above at u.fits upper_left_is
