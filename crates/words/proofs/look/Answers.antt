-- `words::look` meets its contract: each answer computes by the tests that led there. Assumes nothing.
use Prim.Native.Nat.{ℕ, ◌≤◌}
use mathlib.Core.Path.{◌≡◌, sym, ap, ◌∙◌}
use mathlib.Core.Bool.{true, false}
use native.Mathlib.Omega.{arith}
use borrow.Author.Tests.{lt-leb, le-leb}
use Rattle.semigroups.specs.Words.{genus, closed}
use Rattle.answers.specs.Answers.{given}
use Rattle.words.specs.Looks.{ask_word, look_of}
use Rattle.words.proofs.look.Goals as goal

pub returns-then-genus-gt32 : goal.returns-then-genus-gt32
unfolding look_of ask_word
returns-then-genus-gt32 c = simp (lt-leb (genus c.args.word) 32 (omega (arith, c.genus_of-genus.ensures)))

pub returns-then-not-is_closed : goal.returns-then-not-is_closed
unfolding look_of ask_word
returns-then-not-is_closed c =
    let w : ℕ = c.args.word in
    let few : genus w ≤ 32 = omega (arith, c.genus_of-genus.ensures) in
    let not_closed : closed w ≡ false = sym c.is_closed.ensures ∙ c.if-not-is_closed.true in
    simp (le-leb (genus w) 32 few, not_closed)

pub returns : goal.returns
unfolding look_of ask_word
returns c =
    let w : ℕ = c.args.word in
    let few : genus w ≤ 32 = omega (arith, c.genus_of-genus.ensures) in
    let is_closed : closed w ≡ true = sym c.is_closed.ensures ∙ c.if-not-is_closed.false in
    simp (le-leb (genus w) 32 few, is_closed) (ap given c.tell.ensures)
