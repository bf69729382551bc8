-- What the call for the first descendant answers, by the questions. Assumes nothing.
use Prim.Native.Nat.{ℕ, ◌-◌, ◌^◌, ◌≤◌, ◌<◌}
use mathlib.Core.Path.{◌≡◌, ◌∙◌, ap}
use mathlib.Core.List.{List, head?}
use mathlib.Core.Logic.{◌↔◌}
use mathlib.Core.Option.{Option, none}
use native.Mathlib.Omega.{arith}
use Rattle.semigroups.specs.Words.{genus}
use Rattle.semigroups.specs.GenusList.{descendants}
use Rattle.semigroups.specs.Tree.{leaves}
use Rattle.semigroups.proofs.Tree.{descendants_below}
use Rattle.semigroups.proofs.Leaves.{descendants_at}
use Rattle.answers.specs.Answers.{refused, given}
use Rattle.words.specs.Looks.{Accepted}
use Rattle.words.proofs.Looks.{genus_asked_answers, genus_refused}
use Rattle.descendants.specs.Descendants.{first_descendant_of}

module _ (w g : ℕ) (h : Accepted w) where
  -- above genus 32 it is refused
  pub descendant_refused : 32 < g → first_descendant_of w g ≡ refused 3
  unfolding first_descendant_of
  descendant_refused = genus_refused w g _ h

  -- up to genus 32, the first of the descendants
  pub descendant_answers : g ≤ 32 → first_descendant_of w g ≡ given (head? (descendants g w))
  unfolding first_descendant_of
  descendant_answers = genus_asked_answers w g _ h

  -- so that the answer and the first of them tell each other
  pub descendant_answer_iff : g ≤ 32 → (o : Option ℕ) → (first_descendant_of w g ≡ given o) ↔ (head? (descendants g w) ≡ o)
  descendant_answer_iff l o = (λ e. cc (descendant_answers l), λ e. descendant_answers l ∙ ap given e)

  -- below the genus of the word there is none
  pub descendant_below : g < genus w → first_descendant_of w g ≡ given none
  descendant_below l = descendant_answers (omega (arith, h.few)) ∙ ap (λ (k : List ℕ). given (head? k)) (descendants_below g w l)

  -- from it on, the first of the words below it in the tree
  pub descendant_leaves : g ≤ 32 → genus w ≤ g → w < 2 ^ 64 → first_descendant_of w g ≡ given (head? (leaves (g - genus w) w))
  descendant_leaves l k fits = descendant_answers l ∙ ap (λ (k : List ℕ). given (head? k)) (descendants_at g w fits h.closed k l)
