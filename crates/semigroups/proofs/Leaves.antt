-- The words a number of levels below a word of the tree are its descendants, and those below the word 0 the genus list. Assumes nothing.
use Prim.Native.Nat.{ℕ, zero, suc, ◌+◌, ◌-◌, ◌^◌, ◌≤◌, ◌<◌}
use mathlib.Core.Path.{◌≡◌, sym, ◌∙◌, ap}
use mathlib.Core.Bool.{true}
use native.Mathlib.Omega.{arith}
use native.Mathlib.Nat.{add-zero}
use Rattle.semigroups.specs.Words.{genus, closed, child_word}
use Rattle.semigroups.specs.Elements.{right_generators}
use Rattle.semigroups.specs.GenusList.{genus_list, descendants}
use Rattle.semigroups.specs.Tree.{leaves}
use Rattle.semigroups.proofs.Lists.{joined_cong}
use Rattle.semigroups.proofs.Words.{genus_zero, closed_zero}
use Rattle.semigroups.proofs.Children.{child_at_generator}
use Rattle.semigroups.proofs.Tree.{descendants_zero, descendants_own, tree}

-- those of a closed word are its descendants
pub descendants_leaves : (r w : ℕ) → w < 2 ^ 64 → closed w ≡ true → genus w + r ≤ 32 → descendants (genus w + r) w ≡ leaves r w
unfolding leaves
descendants_leaves zero w fits c h = ap (λ (n : ℕ). descendants n w) (add-zero (genus w)) ∙ descendants_own w fits c
descendants_leaves (suc r) w fits c h =
    tree (genus w + suc r) w fits c (omega arith) h
    ∙ joined_cong _ _ (right_generators w) (λ x m.
    let v = child_at_generator w x fits c (omega arith) m in
    let sum : genus w + suc r ≡ genus (child_word w x) + r = omega (arith, v.new_genus) in
    ap (λ (n : ℕ). descendants n (child_word w x)) sum ∙ descendants_leaves r (child_word w x) v.fits v.closed (omega arith))

-- at any genus from its own to 32
pub descendants_at : (g w : ℕ) → w < 2 ^ 64 → closed w ≡ true → genus w ≤ g → g ≤ 32 → descendants g w ≡ leaves (g - genus w) w
descendants_at g w fits c above range =
    let sum : g ≡ genus w + (g - genus w) = omega arith in
    ap (λ (n : ℕ). descendants n w) sum ∙ descendants_leaves (g - genus w) w fits c (omega arith)

pub genus_list_leaves : (g : ℕ) → g ≤ 32 → genus_list g ≡ leaves g 0
genus_list_leaves g h =
    let own : g - genus 0 ≡ g = omega (arith, genus_zero) in
    sym (descendants_zero g) ∙ descendants_at g 0 (omega arith) closed_zero (omega (arith, genus_zero)) h ∙ ap (λ (n : ℕ). leaves n 0) own
