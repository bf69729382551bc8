-- The answer to the question for a child, by the node of the word. Assumes nothing.
use Prim.Native.Nat.{ℕ, ◌+◌, ◌-◌, ◌≤◌, ◌<◌}
use mathlib.Core.Path.{◌≡◌, sym, ap, ap₂, ◌∙◌}
use mathlib.Core.Bool.{Bool, true, false, ◌&&◌}
use native.Mathlib.Omega.{arith}
use native.Mathlib.Decide.{dec_lt}
use lib.Dec.{leb}
use borrow.Author.Tests.{le-leb, lt-leb}
use Rattle.semigroups.specs.Words.{bit, genus, conductor, child_word}
use Rattle.semigroups.specs.Elements.{generator}
use Rattle.semigroups.proofs.Elements.{conductor_pos, mem_right_generators}
use Rattle.answers.specs.Answers.{refused, given, ask}
use Rattle.words.specs.Looks.{Accepted}
use Rattle.words.proofs.Looks.{genus_asked_answers, genus_refused}
use Rattle.nodes.specs.Nodes.{node_of, child_node, first_row}
use Rattle.nodes.specs.Levels.{NodeWithLevels}
use Rattle.nodes.specs.declared.Node.{Node}
use Rattle.nodes.proofs.Nodes.{node_child}
use Rattle.nodes.proofs.Levels.{node_accepted, node_conductor}
use Rattle.nodes.proofs.FirstRow.{row_bit}
use Rattle.tables.specs.Answers.{child_of}

-- an accepted word of genus 32 is refused a child
pub no_child : (w e : ℕ) → Accepted w → 31 < genus w → child_of w e ≡ refused 3
unfolding child_of
no_child w e h full = genus_refused w (genus w + 1) _ h (omega arith)

-- up to genus 31 it is put question 5
pub child_asked : (w e : ℕ) → Accepted w → genus w ≤ 31 → child_of w e ≡ ask (leb (conductor w) e && generator w e) (refused 5) (given (child_word w e))
unfolding child_of
child_asked w e h few = genus_asked_answers w (genus w + 1) _ h (omega arith)

module _ (n : Node) (e : ℕ) (h : NodeWithLevels 1 n) where
  abbrev w : ℕ
  w = n.word

  -- question 5
  asked_five : (b : Bool) → (leb (conductor w) e && generator w e) ≡ b → child_of n.word e ≡ ask b (refused 5) (given (child_word w e))
  asked_five b t = child_asked w e (node_accepted 1 n h) (omega (arith, h.levels.few)) ∙ rw t

  same_conductor : n.conductor ≡ conductor w
  same_conductor = node_conductor 1 n h

  pub positive_conductor : 0 < n.conductor
  positive_conductor = omega (arith, same_conductor, conductor_pos w)

  -- an element below the conductor is refused
  pub refused_below : e < n.conductor → child_of n.word e ≡ refused 5
  refused_below l = asked_five false (ap (λ (b : Bool). b && generator w e) (lt-leb (conductor w) e (omega (arith, same_conductor))))

  module _ (d : ℕ) (offset : d ≡ e - n.conductor) where
    generates : bit (first_row n) d ≡ generator w (conductor w + d)
    unfolding node_of first_row
    generates = ap (λ (k : Node). bit (first_row k) d) h.node ∙ row_bit w h.levels.fits d

    -- of an element not below it, the first row tells whether it is a generator
    by_row : (b : Bool) → n.conductor ≤ e → bit (first_row n) d ≡ b → (leb (conductor w) e && generator w e) ≡ b
    by_row b high t =
        let there : e ≡ conductor w + d = omega (arith, same_conductor) in
        ap₂ ◌&&◌ (le-leb (conductor w) e (omega (arith, same_conductor))) (ap (generator w) there) ∙ sym generates ∙ t

    -- where the bit does not stand, the element is refused
    pub refused_there : bit (first_row n) d ≡ false → child_of n.word e ≡ refused 5
    refused_there t = elim (dec_lt e n.conductor) [ yes l ↦ refused_below l | no l ↦ asked_five false (by_row false (omega arith) t) ]

    -- where it stands, the child's word is given
    pub given_there : n.conductor ≤ e → bit (first_row n) d ≡ true → child_of n.word e ≡ given (child_node n d).word
    unfolding node_of
    given_there high t =
        let there : e ≡ conductor w + d = omega (arith, same_conductor) in
        let member = mem_right_generators w h.levels.fits (conductor w + d) (omega arith) (sym generates ∙ t) in
        let child = ap (λ (k : Node). child_node k d) h.node ∙ node_child w h.levels.fits d h.levels.closed (omega (arith, h.levels.few)) member in
        asked_five true (by_row true high t) ∙ ap (λ (x : ℕ). given (child_word w x)) there ∙ ap (λ (k : Node). given k.word) (sym child)
