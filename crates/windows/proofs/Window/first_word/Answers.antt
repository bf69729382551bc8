-- `Window::first_word` meets its contract, by the laws of the first word of a window. Assumes nothing.
use mathlib.Core.Path.{sym, ap, ◌∙◌}
use mathlib.Core.Logic.{inl, inr}
use mathlib.Core.Option.{some}
use Prim.Native.Nat.{ℕ}
use native.Mathlib.Omega.{arith}
use Rattle.answers.specs.Answers.{given}
use Rattle.semigroups.specs.Words.{word_of}
use Rattle.windows.specs.Windows.{not_divided}
use Rattle.windows.proofs.FirstWord.{first_refused, first_none, first_given, no_gaps}
use Rattle.windows.proofs.Window.first_word.Goals as goal
use Rattle.windows.proofs.Window.first_word.Goals.{then-m-self-via-then-m-self, then-m-self-via-else-m-self+then-m-min}

pub returns-then-genus-gt32 : goal.returns-then-genus-gt32
returns-then-genus-gt32 c = sym (first_refused _ _ _ c.if-genus-gt32.true)

pub returns-then-m-self : goal.returns-then-m-self
returns-then-m-self c =
    sym (first_none _ _ _ c.if-genus-gt32.false (elim c.then-m-self.branch [
      | then-m-self-via-then-m-self w ↦ inl (omega (arith, c.min-m.ensures))
      | then-m-self-via-else-m-self+then-m-min w ↦ inr (omega (arith, c.min-m.ensures, w.min.ensures))
    ]))

pub returns-then-genus-eq0 : goal.returns-then-genus-eq0
returns-then-genus-eq0 c =
    ap (λ (w : ℕ). given (some w)) (sym (no_gaps c.min-m.result) ∙ ap (λ (g : ℕ). word_of (not_divided g c.min-m.result)) (sym c.if-genus-eq0.true))
    ∙ sym (first_given _ _ _ _ c.if-genus-gt32.false c.min-m.ensures c.if-m-self.false (omega arith))

pub returns : goal.returns
returns c =
    ap (λ (w : ℕ). given (some w)) c.not_divided.ensures
    ∙ sym (first_given _ _ _ _ c.if-genus-gt32.false c.min-m.ensures c.if-m-self.false (omega arith))
