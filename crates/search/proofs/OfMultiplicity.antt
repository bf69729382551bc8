-- The words of a genus g that have the multiplicity m: one where m is g + 1, and else those below the later offsets of the first node of
-- multiplicity m. Assumes nothing.
use Prim.Native.Nat.{ℕ, suc, ◌+◌, ◌-◌, ◌^◌, ◌≤◌}
use mathlib.Core.Path.{◌≡◌, ◌∙◌, ap, ap₂, subst}
use mathlib.Core.Bool.{Bool}
use mathlib.Core.List.Memᴰ
use mathlib.Core.List.{[], ◌∷◌, ◌++◌, Memᴰ}
use native.Mathlib.Omega.{arith}
use lib.Dec.{eqb}
use borrow.Author.Tests.{eqb-true, eq-eqb, ne_eqb}
use Rattle.semigroups.specs.Lists.{keep, begins}
use Rattle.semigroups.specs.Words.{set_of, gaps, genus, conductor, child_word}
use Rattle.semigroups.specs.Elements.{multiplicity}
use Rattle.semigroups.specs.GenusList.{genus_list, descendants}
use Rattle.semigroups.specs.Tree.{leaves}
use Rattle.semigroups.proofs.Booleans.{not_both}
use Rattle.semigroups.proofs.Lists.{keep_append, mem_middle}
use Rattle.semigroups.proofs.Kept.{keep_all, keep_none, keep_within}
use Rattle.semigroups.proofs.Words.{gaps_mem}
use Rattle.semigroups.proofs.Elements.{multiplicity_in}
use Rattle.semigroups.proofs.GenusList.{genus_list_mem}
use Rattle.semigroups.proofs.Leaves.{descendants_leaves}
use Rattle.semigroups.proofs.First.{first_of_genus, first_conductor, first_multiplicity, first_begins}
use Rattle.nodes.specs.Nodes.{node_of}
use Rattle.nodes.specs.Levels.{Levels}
use Rattle.nodes.specs.Branches.{branches}
use Rattle.nodes.proofs.Branches.{lowest_below, branches_first, offset_first, leaves_row, leaf_below, later_multiplicity}
use Rattle.nodes.proofs.FirstNode.{first_node_levels, first_node_generators, first_node_offsets, first_node_lowest, later_offsets}

module _ (m : ℕ) (positive : 1 ≤ m) (h : m ≤ 33) where
  abbrev w : ℕ
  w = 2 ^ (m - 1) - 1

  -- has v the multiplicity m
  abbrev has : ℕ → Bool
  has v = eqb (multiplicity v) m

  -- those of a genus are among the words below the first
  below_first : (g r : ℕ) → g ≤ 32 → m + r ≡ g + 1 → keep has (genus_list g) ≡ keep has (leaves r w)
  unfolding descendants
  below_first g r range sum =
      let o = first_of_genus m positive (omega arith) in
      let below : g ≡ genus w + r = omega (arith, o.gapped) in
      keep_within has (λ v. begins (gaps w) (gaps v)) (genus_list g) (λ v i e. first_begins m positive (omega arith) v (genus_list_mem g i).fits (eqb-true (multiplicity v) m e))
      ∙ ap (keep has) (ap (λ (n : ℕ). descendants n w) below ∙ descendants_leaves r w o.fits o.closed (omega arith))

  module _ (r : ℕ) (few : m + r ≤ 32) where
    -- there are r + 1 levels below it
    levels : Levels (suc r) w
    unfolding node_of
    levels = (first_node_levels m positive h (suc r) (omega arith)).levels

    -- below its child at the first offset m is a gap
    first_out : keep has (leaves r (child_word w (conductor w + 0))) ≡ []
    first_out = keep_none has (leaves r (child_word w (conductor w + 0))) (λ v i.
        let (l, split, fits) = leaf_below r w levels (offset_first r w (first_node_lowest m positive h) (first_node_offsets m positive h)) i in
        ne_eqb (multiplicity v) m (λ e.
        let same : multiplicity v ≡ conductor w + 0 = omega (arith, first_conductor m positive (omega arith)) in
        not_both (multiplicity_in v fits)
        (ap (set_of v) same ∙ gaps_mem v (subst (Memᴰ (conductor w + 0)) split (mem_middle (gaps w) l (conductor w + 0))))))

    -- below the others it stays the multiplicity
    later_in : keep has (branches r w (2 ^ m - 2)) ≡ branches r w (2 ^ m - 2)
    later_in = keep_all has (branches r w (2 ^ m - 2)) (λ v i.
        eq-eqb (multiplicity v) m
        (later_multiplicity r w levels (2 ^ m - 2) (later_offsets m positive h) (λ d k. lowest_below (first_node_lowest m positive h) k) i
        ∙ first_multiplicity m positive (omega arith)))

    -- so that these are kept of all
    kept_branches : keep has (leaves (suc r) w) ≡ branches r w (2 ^ m - 2)
    kept_branches =
        ap (keep has) (leaves_row r w (2 ^ m - 1) (first_node_generators m positive h) ∙ branches_first r w (first_node_lowest m positive h))
        ∙ keep_append has (leaves r (child_word w (conductor w + 0))) (branches r w (2 ^ m - 2))
        ∙ ap₂ ◌++◌ first_out later_in

-- the words of genus g and multiplicity m, which is at most g, are those below its later offsets
pub of_multiplicity : (g m : ℕ) → g ≤ 32 → 2 ≤ m → m ≤ g
    → keep (λ w. eqb (multiplicity w) m) (genus_list g) ≡ branches (g - m) (2 ^ (m - 1) - 1) (2 ^ m - 2)
of_multiplicity g m range low high =
    below_first m (omega arith) (omega arith) g (suc (g - m)) range (omega arith)
    ∙ kept_branches m (omega arith) (omega arith) (g - m) (omega arith)

-- with multiplicity g + 1 there is one word of genus g
pub of_largest_multiplicity : (g : ℕ) → g ≤ 32 → keep (λ w. eqb (multiplicity w) (g + 1)) (genus_list g) ≡ (2 ^ g - 1) ∷ []
unfolding leaves
of_largest_multiplicity g range =
    let same : g + 1 - 1 ≡ g = omega arith in
    let own = first_multiplicity (g + 1) (omega arith) (omega arith) in
    below_first (g + 1) (omega arith) (omega arith) g 0 range (omega arith)
    ∙ keep_all _ _ (λ v i. eq-eqb (multiplicity v) (g + 1) (ap multiplicity (Memᴰ.eq_of_singleton i) ∙ own))
    ∙ ap (λ (n : ℕ). (2 ^ n - 1) ∷ []) same
