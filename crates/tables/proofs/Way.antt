-- The way from the word 0 down the tree to a word, along its gaps. Assumes nothing.
use Prim.Native.Nat.{ℕ, suc, ◌+◌, ◌-◌, ◌^◌, ◌<◌}
use mathlib.Core.Path.{◌≡◌, refl, sym, ap, ◌∙◌, subst}
use mathlib.Core.Logic.{◌≢◌}
use mathlib.Core.Bool.{true}
use mathlib.Core.List.Memᴰ
use mathlib.Core.List.{List, [], ◌∷◌, ◌++◌, append-nil}
use native.Mathlib.Omega.{arith}
use lib.ListN.{length, length-append}
use Rattle.semigroups.specs.Words.{gaps, genus, conductor, closed, child_word}
use Rattle.semigroups.proofs.Words.{same_gaps, gaps_zero, closed_zero}
use Rattle.semigroups.proofs.Elements.{mem_right_generators}
use Rattle.semigroups.proofs.Children.{child_at_generator}
use Rattle.semigroups.proofs.Tree.{x_high, x_generates, child_split}
use Rattle.words.specs.Looks.{Accepted}
use Rattle.nodes.specs.Nodes.{node_of, child_node, next_offset}
use Rattle.nodes.specs.declared.Node.{Node}
use Rattle.nodes.proofs.Nodes.{node_child, next_offset_is}

-- n is the node of a closed word, whose gaps are those of u up to some place
pub record OnTheWay (u : ℕ) (n : Node) : Type 0 where
  pub node : n ≡ node_of n.word
  pub fits : n.word < 2 ^ 64
  pub closed : closed n.word ≡ true
  pub others : List ℕ
  pub split : gaps n.word ++ others ≡ gaps u

pub way_begins : (u : ℕ) → OnTheWay u (node_of 0)
unfolding node_of
way_begins u = record { node = refl; fits = omega arith; closed = closed_zero; others = gaps u; split = ap (λ (l : List ℕ). l ++ gaps u) gaps_zero }

-- the child at the next offset is on the way too, and has one gap less to go
pub way_goes_on : (u : ℕ) → u < 2 ^ 64 → Accepted u → (n m : Node) → OnTheWay u n → n.word ≢ u
    → m ≡ child_node n (next_offset n.conductor u) → OnTheWay u m × (genus u - genus m.word < genus u - genus n.word)
unfolding node_of genus
way_goes_on u small h n m way apart next = go way.others way.split
  where
    v : ℕ
    v = n.word

    go : (l : List ℕ) → gaps v ++ l ≡ gaps u → OnTheWay u m × (genus u - genus m.word < genus u - genus v)
    go [] split = absurd (apart (same_gaps v u way.fits small (sym (append-nil (gaps v)) ∙ split)))
    go (x ∷ l) split =
        let total : genus v + suc (length l) ≡ genus u = sym (length-append (gaps v) (x ∷ l)) ∙ ap length split in
        let here = next_offset_is v u x l way.fits split in
        let generator = mem_right_generators v way.fits x (x_high v u x l way.fits split) (x_generates v u x l way.fits split small h.closed) in
        let child = child_at_generator v x way.fits way.closed (omega (arith, h.few)) generator in
        let same : m ≡ node_of (child_word v x) =
        next ∙ ap (λ (k : Node). child_node k (next_offset k.conductor u)) way.node
        ∙ node_child v way.fits (next_offset (conductor v) u) way.closed (omega (arith, h.few)) (Memᴰ.cast here generator)
        ∙ ap (λ (y : ℕ). node_of (child_word v y)) here in (
          subst (OnTheWay u) (sym same)
              record { node = refl; fits = child.fits; closed = child.closed; others = l; split = child_split v u x l way.fits split },
          omega (arith, child.new_genus, ap (λ (k : Node). genus k.word) same),
        )
