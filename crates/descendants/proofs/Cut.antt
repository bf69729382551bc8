-- The cut: below a node, all words after those of one of its children have the multiplicity of the node, so that of those with at least a
-- lowest multiplicity either all or none are there. Assumes nothing.
use Prim.Native.Nat.{ℕ, suc, ◌-◌, ◌≤◌, ◌<◌}
use mathlib.Core.Path.{◌≡◌, ◌∙◌, ap}
use mathlib.Core.List.Memᴰ
use mathlib.Core.List.{List, [], ◌∷◌, ◌++◌, append-nil, Memᴰ}
use native.Mathlib.Omega.{arith}
use lib.Dec.{leb}
use borrow.Author.Tests.{le-leb, lt-leb}
use Rattle.semigroups.specs.Lists.{on_from}
use Rattle.semigroups.specs.Positions.{above}
use Rattle.semigroups.specs.Elements.{multiplicity}
use Rattle.semigroups.specs.Tree.{leaves}
use Rattle.semigroups.proofs.Lists.{keep_append}
use Rattle.semigroups.proofs.Kept.{keep_all, keep_none}
use Rattle.semigroups.proofs.StandingBits.{above_high}
use Rattle.nodes.specs.Nodes.{child_node, first_row}
use Rattle.nodes.specs.declared.Node.{Node}
use Rattle.nodes.specs.Levels.{Levels}
use Rattle.nodes.specs.Branches.{branches, Offsets}
use Rattle.nodes.proofs.Branches.{later_multiplicity, levels_below}
use Rattle.descendants.specs.Cut.{from_multiplicity}
use Rattle.descendants.proofs.Resuming.{Below}

-- the branches of w at offsets above d, which are above 0, have its multiplicity
module _ (r w row d : ℕ) (at : Levels (suc r) w) (offsets : Offsets w (above row d)) where
  same : {v : ℕ} → Memᴰ v (branches r w (above row d)) → multiplicity v ≡ multiplicity w
  same = later_multiplicity r w at (above row d) offsets (λ i j. omega (arith, above_high row d j))

  -- with less than lo, none has it
  cut : (lo : ℕ) → multiplicity w < lo → from_multiplicity lo (branches r w (above row d)) ≡ []
  unfolding from_multiplicity
  cut lo h = keep_none (λ v. leb lo (multiplicity v)) _ (λ v m. ap (leb lo) (same m) ∙ lt-leb lo (multiplicity w) h)

  -- with at least lo, all have it
  uncut : (lo : ℕ) → lo ≤ multiplicity w → from_multiplicity lo (branches r w (above row d)) ≡ branches r w (above row d)
  unfolding from_multiplicity
  uncut lo h = keep_all (λ v. leb lo (multiplicity v)) _ (λ v m. ap (leb lo) (same m) ∙ le-leb lo (multiplicity w) h)

-- from a leaf v of the node n on, with at least the multiplicity lo, there are those below the child at d that has v, and then the later
-- branches, if the node has at least lo
module _ (lo r : ℕ) (n : Node) (v d : ℕ) (b : Below r n v d) where
  abbrev levels : Levels (suc (r - 1)) n.word
  levels = levels_below (r - 1) n b.node_levels

  abbrev later : List ℕ
  later = branches (r - 1) n.word (above (first_row n) d)

  -- in two parts
  pub later_parts : from_multiplicity lo (on_from v (leaves r n.word))
      ≡ from_multiplicity lo (on_from v (leaves (r - 1) (child_node n d).word)) ++ from_multiplicity lo later
  unfolding from_multiplicity
  later_parts = ap (from_multiplicity lo) b.parts ∙ keep_append (λ v. leb lo (multiplicity v)) _ later

  -- the second is cut where the node has less than lo
  pub later_cut : multiplicity n.word < lo
      → from_multiplicity lo (on_from v (leaves r n.word)) ≡ from_multiplicity lo (on_from v (leaves (r - 1) (child_node n d).word))
  later_cut h =
      later_parts ∙ ap (λ (l : List ℕ). from_multiplicity lo (on_from v (leaves (r - 1) (child_node n d).word)) ++ l) (cut (r - 1) n.word (first_row n) d levels b.offsets lo h)
      ∙ append-nil _

  -- and whole where it has at least lo
  pub later_kept : lo ≤ multiplicity n.word
      → from_multiplicity lo (on_from v (leaves r n.word)) ≡ from_multiplicity lo (on_from v (leaves (r - 1) (child_node n d).word)) ++ later
  later_kept h =
      later_parts ∙ ap (λ (l : List ℕ). from_multiplicity lo (on_from v (leaves (r - 1) (child_node n d).word)) ++ l) (uncut (r - 1) n.word (first_row n) d levels b.offsets lo h)

-- a word with at least the lowest multiplicity is kept
pub kept_own : (lo v : ℕ) → lo ≤ multiplicity v → from_multiplicity lo (v ∷ []) ≡ v ∷ []
unfolding from_multiplicity
kept_own lo v h = keep_all (λ v. leb lo (multiplicity v)) (v ∷ []) (λ u m. ap (λ (x : ℕ). leb lo (multiplicity x)) (Memᴰ.eq_of_singleton m) ∙ le-leb lo (multiplicity v) h)
