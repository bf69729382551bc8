-- The leaves below a word by the bits of its first row: one branch for each bit, in order, and the same for nodes. Assumes nothing.
use Rattle.std.proofs.Common.{◌≡◌, ℕ, zero, suc, ◌+◌, ◌-◌, ◌^◌, ◌<◌, ◌≤◌, List, [], ◌∷◌, ◌++◌, map, get_or, sym, refl, ap, ◌∙◌, subst, append_assoc, add-one, arith, pow_pos}
use mathlib.Core.List.Memᴰ
use mathlib.Core.List.{Memᴰ}
use lib.Count.{count_trailing_zeros}
use Rattle.semigroups.specs.Lists.{joined, Ordered}
use Rattle.semigroups.specs.Words.{gaps, genus, conductor, child_word}
use Rattle.semigroups.specs.Positions.{positions}
use Rattle.semigroups.specs.Elements.{multiplicity, right_generators}
use Rattle.semigroups.specs.Children.{Child}
use Rattle.semigroups.specs.Tree.{leaves}
use Rattle.semigroups.proofs.Lists.{joined_mem, joined_map}
use Rattle.semigroups.proofs.Bits.{bit_cleared}
use Rattle.semigroups.proofs.StandingBits.{trailing_lt, trailing_stands, positions_zero, positions_step, positions_ordered}
use Rattle.semigroups.proofs.Children.{child_at_generator}
use Rattle.semigroups.proofs.Elements.{multiplicity_le_conductor}
use Rattle.semigroups.proofs.Tree.{Descendant, descendants_mem, multiplicity_stays}
use Rattle.semigroups.proofs.Leaves.{descendants_leaves}
pub use Rattle.nodes.specs.Nodes.{TakenOff}
use Rattle.nodes.specs.Nodes.{node_of, child_node, first_row, lowest_offset}
use Rattle.nodes.specs.Levels.{Levels, NodeWithLevels}
use Rattle.nodes.specs.Branches.{branches, Offsets}
use Rattle.nodes.specs.declared.Node.{Node}
use Rattle.nodes.proofs.Nodes.{node_child, first_row_generators}

-- ---- the lowest of some offsets

module _ (bits : ℕ) (some : 0 < bits) (fits : bits < 2 ^ 64) where
  -- it is the lowest standing bit
  pub lowest_trailing : lowest_offset bits ≡ count_trailing_zeros 64 bits
  unfolding lowest_offset
  lowest_trailing = ap (λ (l : List ℕ). get_or l 0 64) (positions_step bits some fits)

  -- it stands
  lowest_stands : 2 ^ lowest_offset bits ≤ bits
  lowest_stands = rw lowest_trailing (bit_cleared bits _ (trailing_stands 64 bits (trailing_lt 64 bits some fits))).0

  -- without it, the others are left
  pub taken_off : {at rest : ℕ} → (at ≡ lowest_offset bits) × (rest ≡ bits - 2 ^ lowest_offset bits) → TakenOff bits at rest
  taken_off {at} {rest} (e, f) = record {
    fewer = omega (arith, pow_pos (lowest_offset bits), lowest_stands);
    below = omega (arith, e, lowest_trailing, trailing_lt 64 bits some fits);
    first = positions_step bits some fits ∙ rw (e, f, lowest_trailing);
    value = rw (e, f) (omega (arith, lowest_stands));
  }

module _ {bits at rest : ℕ} (low : TakenOff bits at rest) where
  -- it is one of them
  pub lowest_in : Memᴰ at (positions bits)
  lowest_in = subst (Memᴰ at) (sym low.first) (Memᴰ.head refl)

  -- and so are the others
  pub others_in : {d : ℕ} → Memᴰ d (positions rest) → Memᴰ d (positions bits)
  others_in {d} m = subst (Memᴰ d) (sym low.first) (Memᴰ.tail m)

  -- of what is joined over them, that of the lowest comes first
  pub joined_lowest : {B : Type 0} (f : ℕ → List B) → joined f (positions bits) ≡ f at ++ joined f (positions rest)
  unfolding joined
  joined_lowest f = ap (joined f) low.first

  -- it is that of the lowest bit
  pub lowest_is : at ≡ lowest_offset bits
  unfolding lowest_offset
  lowest_is = sym (ap (λ (l : List ℕ). get_or l 0 64) low.first)

-- over none, nothing is joined
pub joined_none : {B : Type 0} (f : ℕ → List B) → joined f (positions 0) ≡ []
unfolding joined
joined_none f = ap (joined f) positions_zero

-- the others are above the lowest
pub lowest_below : {bits at rest : ℕ} → TakenOff bits at rest → {d : ℕ} → Memᴰ d (positions rest) → at < d
unfolding Ordered
lowest_below {bits} low {d} m = (subst (Ordered ◌<◌) low.first (positions_ordered bits)).0 d m

-- where there are none it is 64
pub no_lowest : lowest_offset 0 ≡ 64
unfolding lowest_offset
no_lowest = ap (λ (l : List ℕ). get_or l 0 64) positions_zero

module _ (r w : ℕ) where
  -- ---- branch by branch

  -- no offset, no branch
  pub branches_none : branches r w 0 ≡ []
  unfolding branches
  branches_none = joined_none _

  -- at is the lowest of the offsets in bits, and rest has the others: the branch there comes first
  module _ {bits at rest : ℕ} (low : TakenOff bits at rest) where
    pub branches_first : branches r w bits ≡ leaves r (child_word w (conductor w + at)) ++ branches r w rest
    unfolding branches
    branches_first = joined_lowest low _

    -- it is the offset of a right generator
    pub offset_first : Offsets w bits → Memᴰ (conductor w + at) (right_generators w)
    offset_first o = o at (lowest_in low)

    -- the others are offsets too
    pub offsets_rest : Offsets w bits → Offsets w rest
    offsets_rest o d m = o d (others_in low m)

  -- the bits of a row that has the offsets of the right generators make all branches
  pub leaves_row : (row : ℕ) → right_generators w ≡ map (λ d. conductor w + d) (positions row) → leaves (suc r) w ≡ branches r w row
  unfolding branches leaves
  leaves_row row e = ap (joined (λ x. leaves r (child_word w x))) e ∙ joined_map (λ x. leaves r (child_word w x)) (λ d. conductor w + d) (positions row)

  -- and they are offsets of right generators
  pub offsets_row : (row : ℕ) → right_generators w ≡ map (λ d. conductor w + d) (positions row) → Offsets w row
  offsets_row row e d m = subst (Memᴰ (conductor w + d)) (sym e) (Memᴰ.map (λ d. conductor w + d) m)

-- ---- levels

-- a leaf is a descendant
pub leaf_descendant : (r w : ℕ) → Levels r w → {v : ℕ} → Memᴰ v (leaves r w) → Descendant (genus w + r) w v
leaf_descendant r w at {v} m =
    descendants_mem (genus w + r) w (subst (Memᴰ v) (sym (descendants_leaves r w at.fits at.closed at.few)) m)

module _ (r w : ℕ) (at : Levels (suc r) w) where
  -- a right generator gives a child
  pub child_of_generator : {x : ℕ} → Memᴰ x (right_generators w) → Child w x
  child_of_generator {x} m = child_at_generator w x at.fits at.closed (omega (arith, at.few)) m

  -- with one level less below it
  pub child_levels : {x : ℕ} → Memᴰ x (right_generators w) → Levels r (child_word w x)
  child_levels m = let v = child_of_generator m in record { fits = v.fits; closed = v.closed; few = omega (arith, v.new_genus, at.few) }

  -- a leaf below the child at x is a word of 64 bits that has the gap x after those of w
  pub leaf_below : {x v : ℕ} → Memᴰ x (right_generators w) → Memᴰ v (leaves r (child_word w x))
      → (l : List ℕ) × (gaps w ++ x ∷ l ≡ gaps v) × (v < 2 ^ 64)
  leaf_below {x} {v} m n =
      let d = leaf_descendant r (child_word w x) (child_levels m) n in (
        d.others,
        sym (append_assoc (gaps w) (x ∷ []) d.others) ∙ ap (λ (k : List ℕ). k ++ d.others) (sym (child_of_generator m).new_gaps) ∙ d.split,
        d.word.fits,
      )

  -- below children at offsets above 0 the multiplicity stays: the conductor, and with it the multiplicity, is below the new gap
  pub later_multiplicity : (rest : ℕ) → Offsets w rest → ((d : ℕ) → Memᴰ d (positions rest) → 0 < d) → {v : ℕ} → Memᴰ v (branches r w rest)
      → multiplicity v ≡ multiplicity w
  unfolding branches
  later_multiplicity rest offsets later {v} m =
      let (d, i, n) = joined_mem (λ d. leaves r (child_word w (conductor w + d))) (positions rest) m in
      let (l, s, fits) = leaf_below (offsets d i) n in
      multiplicity_stays w v (conductor w + d) l at.fits s fits (omega (arith, later d i, multiplicity_le_conductor w at.fits))

-- each level makes the conductor larger by 1 at least
pub leaf_conductor : (r w : ℕ) → Levels r w → {v : ℕ} → Memᴰ v (leaves r w) → conductor w + r ≤ conductor v
unfolding leaves
leaf_conductor zero w at m = omega (arith, ap conductor (Memᴰ.eq_of_singleton m))
leaf_conductor (suc r) w at m =
    let (x, i, j) = joined_mem (λ x. leaves r (child_word w x)) (right_generators w) m in
    let child = child_of_generator r w at i in
    omega (arith, leaf_conductor r (child_word w x) (child_levels r w at i) j, child.new_conductor, child.high)

-- ---- a node with r + 1 levels below it

module _ (r : ℕ) (n : Node) (at : NodeWithLevels (r + 1) n) where
  abbrev w : ℕ
  w = n.word

  -- the same of its word
  pub levels_below : Levels (suc r) w
  levels_below = subst (λ (k : ℕ). Levels k w) (add-one r) at.levels

  -- its first row has the offsets of the right generators
  pub first_row_offsets : right_generators w ≡ map (λ d. conductor w + d) (positions (first_row n))
  first_row_offsets =
      first_row_generators w levels_below.fits levels_below.closed (omega (arith, levels_below.few))
      ∙ ap (λ (m : Node). map (λ d. conductor w + d) (positions (first_row m))) (sym at.node)

  -- the child at the offset d of a right generator
  module _ (d : ℕ) (m : Memᴰ (conductor w + d) (right_generators w)) where
    -- it is a node
    child_node_is : child_node n d ≡ node_of (child_word w (conductor w + d))
    child_node_is = ap (λ (k : Node). child_node k d) at.node ∙ node_child w levels_below.fits d levels_below.closed (omega (arith, levels_below.few)) m

    -- its word
    pub child_word_is : (child_node n d).word ≡ child_word w (conductor w + d)
    unfolding node_of
    child_word_is = ap (λ (k : Node). k.word) child_node_is

    -- its conductor is one more than the generator
    pub child_node_conductor : (child_node n d).conductor ≡ suc (conductor w + d)
    unfolding node_of
    child_node_conductor = ap (λ (k : Node). k.conductor) child_node_is ∙ (child_of_generator r w levels_below m).new_conductor

    -- it has r levels below it
    pub child_with_levels : NodeWithLevels r (child_node n d)
    child_with_levels = record {
      node = child_node_is ∙ ap node_of (sym child_word_is);
      levels = subst (Levels r) (sym child_word_is) (child_levels r w levels_below m);
    }

-- ---- the first row

-- the bits of row make all branches of a node with r levels below it
pub record Row (r : ℕ) (n : Node) (row : ℕ) : Type 0 where
  pub node_levels : NodeWithLevels (r - 1 + 1) n
  pub offsets : Offsets n.word row
  pub all : leaves r n.word ≡ branches (r - 1) n.word row

-- so do those of its first row
pub row_branches : (r : ℕ) (n : Node) → ¬ (r ≡ 0) → NodeWithLevels r n → {row : ℕ} → row ≡ first_row n → Row r n row
row_branches r n h at e =
    let lower : r ≡ r - 1 + 1 = omega arith in
    let node_levels = subst (λ (k : ℕ). NodeWithLevels k n) lower at in
    subst (Row r n) (sym e) record {
      node_levels = node_levels;
      offsets = offsets_row (r - 1) n.word (first_row n) (first_row_offsets (r - 1) n node_levels);
      all = ap (λ (k : ℕ). leaves k n.word) (lower ∙ add-one (r - 1)) ∙ leaves_row (r - 1) n.word (first_row n) (first_row_offsets (r - 1) n node_levels);
    }

-- where it is empty there is no word below
pub no_leaves : (r : ℕ) (n : Node) → ¬ (r ≡ 0) → NodeWithLevels r n → {row : ℕ} → row ≡ first_row n → row ≡ 0 → leaves r n.word ≡ []
no_leaves r n h at e none = (row_branches r n h at e).all ∙ ap (branches (r - 1) n.word) none ∙ branches_none (r - 1) n.word

-- ---- the first of some children

-- m is the child at the lowest of the offsets in bits, and rest has the others
pub record FirstChild (r : ℕ) (n m : Node) (bits rest : ℕ) : Type 0 where
  pub node_levels : NodeWithLevels r m
  pub others : Offsets n.word rest
  pub parts : branches r n.word bits ≡ leaves r m.word ++ branches r n.word rest

-- it is one of the children, and they begin with it
pub first_child : (r : ℕ) (n : Node) → NodeWithLevels (r + 1) n → {m : Node} {bits at rest : ℕ} → Offsets n.word bits → TakenOff bits at rest → m ≡ child_node n at
    → FirstChild r n m bits rest
first_child r n node_levels {m} {bits} {at} {rest} o low e =
    let g = offset_first r n.word low o in
    subst (λ (k : Node). FirstChild r n k bits rest) (sym e) record {
      node_levels = child_with_levels r n node_levels at g;
      others = offsets_rest r n.word low o;
      parts =
          branches_first r n.word low
          ∙ ap (λ (v : ℕ). leaves r v ++ branches r n.word rest) (sym (child_word_is r n node_levels at g));
    }
