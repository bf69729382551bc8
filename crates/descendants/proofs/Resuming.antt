-- The leaves below a word from one of them on, and the child that has it: that at the next offset. Assumes nothing.
use Prim.Native.Nat.{ℕ, suc, ◌+◌, ◌-◌, ◌<◌}
use mathlib.Core.Path.{◌≡◌, sym, ◌∙◌, ap, subst}
use mathlib.Core.List.Memᴰ
use mathlib.Core.List.{List, [], ◌∷◌, ◌++◌, map, Memᴰ}
use native.Mathlib.Omega.{arith}
use borrow.Author.Tests.{eq-eqb}
use Rattle.semigroups.specs.Lists.{joined, on_from}
use Rattle.semigroups.specs.Words.{gaps, conductor, child_word}
use Rattle.semigroups.specs.Positions.{positions, above}
use Rattle.semigroups.specs.Elements.{right_generators}
use Rattle.semigroups.specs.Tree.{leaves}
use Rattle.semigroups.proofs.Lists.{joined_mem, on_from_joined}
use Rattle.semigroups.proofs.StandingBits.{positions_split}
use Rattle.semigroups.proofs.Elements.{multiplicity_le_conductor, generator_offset, right_generators_mem}
use Rattle.nodes.specs.Nodes.{child_node, first_row, next_offset}
use Rattle.nodes.specs.Levels.{Levels, NodeWithLevels}
use Rattle.nodes.specs.Branches.{branches, Offsets}
use Rattle.nodes.specs.declared.Node.{Node}
use Rattle.nodes.specs.declared.Subtree.{Subtree}
use Rattle.nodes.proofs.Nodes.{next_offset_is}
use Rattle.nodes.proofs.Levels.{node_conductor}
use Rattle.nodes.proofs.Branches.{leaves_row, offsets_row, child_of_generator, leaf_below, levels_below, first_row_offsets, child_word_is}

-- ---- the leaves from one of them on

-- v is a leaf below the child at the offset d, and from v on there are those of that child and then the later branches
pub record Resumed (r w row v d : ℕ) : Type 0 where
  pub generates : Memᴰ (conductor w + d) (right_generators w)
  pub leaf : Memᴰ v (leaves r (child_word w (conductor w + d)))
  pub later : Offsets w (above row d)
  pub on : on_from v (leaves (suc r) w) ≡ on_from v (leaves r (child_word w (conductor w + d))) ++ branches r w (above row d)

module _ (r w row v : ℕ) (at : Levels (suc r) w) (row_is : right_generators w ≡ map (λ d. conductor w + d) (positions row)) where
  -- d is the offset of the first gap of v after those of w
  module _ (d : ℕ) (first : (x : ℕ) (l : List ℕ) → gaps w ++ x ∷ l ≡ gaps v → conductor w + d ≡ x) where
    below : Memᴰ v (leaves (suc r) w) → Memᴰ (conductor w + d) (right_generators w) × Memᴰ v (leaves r (child_word w (conductor w + d)))
    unfolding leaves
    below m =
        let (x, i, j) = joined_mem (λ x. leaves r (child_word w x)) (right_generators w) m in
        let (l, s, fits) = leaf_below r w at i j in
        let here = first x l s in
        (Memᴰ.cast here i, subst (λ (y : ℕ). Memᴰ v (leaves r (child_word w y))) (sym here) j)

    position : Memᴰ (conductor w + d) (right_generators w) → Memᴰ d (positions row)
    position g =
        let (e, n, q) = Memᴰ.of_map (λ d. conductor w + d) (positions row) (subst (Memᴰ (conductor w + d)) row_is g) in
        Memᴰ.cast (omega arith) n

    -- k are the offsets below d
    on_from_offset : (k : List ℕ) → ((i : ℕ) → Memᴰ i k → i < d) → k ++ d ∷ positions (above row d) ≡ positions row
        → Memᴰ (conductor w + d) (right_generators w) → Memᴰ v (leaves r (child_word w (conductor w + d))) → Resumed r w row v d
    unfolding branches
    on_from_offset k lower parts g m = record {
      generates = g;
      leaf = m;
      later = λ i h. row_offset i (Memᴰ.append_right k (Memᴰ.tail h));
      on =
          ap (on_from v) (leaves_row r w row row_is ∙ ap (joined branch) (sym parts))
          ∙ on_from_joined v branch d k (positions (above row d)) (λ h.
          let (i, a, b) = joined_mem branch k h in
          let (l, s, fits) = leaf_below r w at (row_offset i (Memᴰ.append_left (d ∷ positions (above row d)) a)) b in
          omega (arith, first (conductor w + i) l s, lower i a)) m;
    }
      where
        branch : ℕ → List ℕ
        branch i = leaves r (child_word w (conductor w + i))

        row_offset : (i : ℕ) → Memᴰ i (k ++ d ∷ positions (above row d)) → Memᴰ (conductor w + i) (right_generators w)
        row_offset i h = offsets_row r w row row_is i (subst (Memᴰ i) parts h)

    pub resumed : Memᴰ v (leaves (suc r) w) → Resumed r w row v d
    resumed m =
        let (g, n) = below m in
        let (k, lower, parts) = positions_split row d (position g) in
        on_from_offset k lower parts g n

-- no level below a word there is the word itself
pub on_from_own : (v w : ℕ) → Memᴰ v (leaves 0 w) → on_from v (leaves 0 w) ≡ v ∷ []
unfolding leaves on_from
on_from_own v w m = let e = Memᴰ.eq_of_singleton m in rw (eq-eqb v w e) (ap (λ (x : ℕ). x ∷ []) (sym e))

-- ---- the child that has a leaf

-- below the child at the offset d is the leaf v; from v on there are the leaves of that child from v on, and then the later branches
pub record Below (r : ℕ) (n : Node) (v d : ℕ) : Type 0 where
  pub node_levels : NodeWithLevels (r - 1 + 1) n
  pub near : d < 32
  pub generates : Memᴰ (conductor n.word + d) (right_generators n.word)
  pub leaf : Memᴰ v (leaves (r - 1) (child_node n d).word)
  pub offsets : Offsets n.word (above (first_row n) d)
  pub parts : on_from v (leaves r n.word) ≡ on_from v (leaves (r - 1) (child_node n d).word) ++ branches (r - 1) n.word (above (first_row n) d)

-- it is the child at the next offset
pub next_child : (r : ℕ) (n : Node) → ¬ (r ≡ 0) → NodeWithLevels r n → (v : ℕ) → Memᴰ v (leaves r n.word) → {d : ℕ} → d ≡ next_offset n.conductor v → Below r n v d
next_child r n h at v m {d} e =
    let w : ℕ = n.word in
    let lower : r ≡ r - 1 + 1 = omega arith in
    let node_levels = subst (λ (k : ℕ). NodeWithLevels k n) lower at in
    let levels-here : r ≡ suc (r - 1) = omega arith in
    let found : Resumed (r - 1) w (first_row n) v d =
    resumed (r - 1) w (first_row n) v (levels_below (r - 1) n node_levels) (first_row_offsets (r - 1) n node_levels) d
    (λ x l s.
    ap (λ (k : ℕ). conductor w + k) (e ∙ ap (λ (c : ℕ). next_offset c v) (node_conductor r n at))
    ∙ next_offset_is w v x l at.levels.fits s)
    (subst (λ (k : ℕ). Memᴰ v (leaves k w)) levels-here m) in
    let same = sym (child_word_is (r - 1) n node_levels d found.generates) in
    record {
      node_levels = node_levels;
      near =
          omega (
            arith,
            (child_of_generator (r - 1) w (levels_below (r - 1) n node_levels) found.generates).low,
            generator_offset w at.levels.fits d (right_generators_mem w at.levels.fits found.generates).1,
            multiplicity_le_conductor w at.levels.fits,
          );
      generates = found.generates;
      leaf = subst (λ (u : ℕ). Memᴰ v (leaves (r - 1) u)) same found.leaf;
      offsets = found.later;
      parts =
          ap (λ (k : ℕ). on_from v (leaves k w)) levels-here ∙ found.on
          ∙ ap (λ (u : ℕ). on_from v (leaves (r - 1) u) ++ branches (r - 1) w (above (first_row n) d)) same;
    }

-- ---- the part of the tree below a child

-- its words are those below the child, a level less deep
pub child_leaves : (tree : Subtree) (d : ℕ) (child : Subtree) → (child.node ≡ child_node tree.node d) × (child.left + 1 ≡ tree.left)
    → leaves (tree.left - 1) (child_node tree.node d).word ≡ leaves child.left child.node.word
child_leaves tree d child e =
    let below : tree.left - 1 ≡ child.left = omega (arith, e.1) in
    ap (λ (k : ℕ). leaves k (child_node tree.node d).word) below ∙ ap (λ (m : Node). leaves child.left m.word) (sym e.0)
