-- `search::child_with` meets its contract, by the law of the last level. Assumes nothing.
use Prim.Native.Nat.{ℕ, ◌+◌, ◌*◌, ◌-◌, ◌/◌, ◌%◌, ◌^◌, ◌≤◌}
use mathlib.Core.Path.{◌≡◌, sym, ap, ◌∙◌, subst}
use mathlib.Core.Bool.{Bool}
use mathlib.Core.Option.{some}
use native.Mathlib.Omega.{arith}
use lib.Bits.{bit_and}
use lib.Dec.{eqb}
use borrow.Author.Tests.{eq-eqb, ne_eqb}
use Rattle.semigroups.specs.Words.{bit, conductor, child_word}
use Rattle.semigroups.proofs.Bits.{one_shl, bit_test}
use Rattle.semigroups.proofs.Elements.{conductor_pos}
use Rattle.semigroups.proofs.Children.{child_fits}
use Rattle.nodes.specs.Levels.{Levels}
use Rattle.nodes.proofs.Levels.{node_conductor}
use Rattle.search.proofs.Cuts.{last_none, last_found}
use Rattle.search.proofs.child_with.Goals as goal
use Rattle.search.proofs.child_with.Goals.{After-of_element-offset}

module _ (c : After-of_element-offset) where
  abbrev w : ℕ
  w = c.args.tree.node.word

  abbrev gap : ℕ
  gap = c.args.gap

  same : c.args.tree.node.conductor ≡ conductor w
  same = node_conductor _ _ c.args.tree.levels

  high : conductor w ≤ gap
  high = omega (arith, same)

  below : Levels 1 w
  below = subst (λ (k : ℕ). Levels k w) c.requires.left c.args.tree.levels.levels

  -- the code's test is the bit at the offset of the largest gap
  tested : (b : Bool) → eqb (bit_and (c.args.rest / 2 ^ c.of_element-offset.result.0) 1) 1 ≡ b → bit c.args.rest (gap - conductor w) ≡ b
  tested b e =
      let offset : gap - conductor w ≡ c.of_element-offset.result.0 = omega (arith, same, c.of_element-offset.ensures) in
      ap (bit c.args.rest) offset ∙ sym (bit_test _ c.of_element-offset.result.0) ∙ e

  -- the word as it is put together
  word : w + 1 * 2 ^ (gap - 1) % 2 ^ 64 ≡ child_word w gap
  unfolding child_word
  word = ap (λ (k : ℕ). w + k) (one_shl (gap - 1) (omega arith))

pub returns-then-rest-offset-ne1 : goal.returns-then-rest-offset-ne1
returns-then-rest-offset-ne1 c =
    let found = (goal.at.returns-then-rest-offset-ne1 c).After-of_element-offset in
    sym (last_none _ _ _ (below found) c.requires.offsets (high found) (tested found _ (ne_eqb _ 1 c.if-rest-offset-ne1.true)))

pub overflow_sub-result : goal.overflow_sub-result
overflow_sub-result c =
    let found = (goal.at.overflow_sub-result c).After-of_element-offset in
    omega (arith, high found, conductor_pos (w found))

pub overflow_add-result : goal.overflow_add-result
overflow_add-result c =
    let found = (goal.at.overflow_add-result c).After-of_element-offset in
    rw (word found) record { fits = child_fits (w found) (gap found) c.args.tree.levels.levels.fits (high found) (omega arith) }

pub returns : goal.returns
returns c =
    let found = (goal.at.returns c).After-of_element-offset in
    ap some (word found)
    ∙ sym (last_found _ _ _ (below found) c.requires.offsets (high found) (omega arith) (tested found _ (eq-eqb _ 1 c.if-rest-offset-ne1.false)))
