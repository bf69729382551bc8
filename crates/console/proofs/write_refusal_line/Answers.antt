-- `console::write_refusal_line` is safe, as the line has its places and so is not refused, and meets its contract. Assumes nothing.
use Prim.Native.Nat.{ℕ, ◌≤◌}
use mathlib.Core.Path.{◌≡◌, ◌∙◌, ap, ap₂, subst}
use mathlib.Core.Bool.{Bool, true, false}
use mathlib.Core.List.{List}
use Rattle.std.specs.Prelude.{Result, Err, OnOk}
use Rattle.std.proofs.Common.{sym, arith}
use Rattle.std.specs.Io.KnownBytes.{Appends}
use lib.Dec.{leb}
use lib.ListN.{length, take}
use lib.Seq.{length-take-le}
use borrow.Author.Tests.{le-leb}
use Rattle.semigroups.specs.Lists.{fronted}
use Rattle.semigroups.proofs.Lists.{fronted_front}
use Rattle.answers.specs.Answers.{Answer, refused, given, number_of, answered, ask}
use Rattle.answers.specs.declared.Refusal.{Refusal}
use Rattle.listing.specs.Text.{refusal_line, refusal_line_of}
use Rattle.listing.proofs.Lines.{refusal_given}
use Rattle.console.proofs.write_refusal_line.Goals as goal

-- the line is not refused in 11 places
not_refused : (n : ℕ) (lent : List ℕ) (a : Result ℕ Refusal) (l : List ℕ) (r : Refusal) → (answered a, l) ≡ refusal_line_of n lent → 11 ≤ length lent
    → a ≡ Err r → ⊥
unfolding refusal_line_of
not_refused n lent a l r e long is =
    by_question (leb 11 (length lent)) (le-leb 11 (length lent) long) (sym (ap answered is) ∙ ap (λ (x : Answer ℕ × List ℕ). x.0) e)
  where
    by_question : (b : Bool) → b ≡ true
        → refused (number_of r) ≡ (ask {A = Answer ℕ × List ℕ} b (refused 6, lent) (given (length (refusal_line n)), fronted (refusal_line n) lent)).0 → ⊥
    by_question true t q = let z : ◌≡◌ {A = ℕ} 0 1 = cc in omega arith
    by_question false t q = let z : ◌≡◌ {A = ℕ} 0 1 = cc in omega arith

-- what is given is the line, at the front of the places
line_given : (n : ℕ) (lent : List ℕ) (m : ℕ) (l : List ℕ) → (given m, l) ≡ refusal_line_of n lent → take m l ≡ refusal_line n
unfolding refusal_line_of
line_given n lent m l e = by_question (leb 11 (length lent)) (ap (λ (x : Answer ℕ × List ℕ). x.0) e) (ap (λ (x : Answer ℕ × List ℕ). x.1) e)
  where
    line : List ℕ
    line = refusal_line n

    asked : Bool → Answer ℕ × List ℕ
    asked b = ask b (refused 6, lent) (given (length line), fronted line lent)

    by_question : (b : Bool) → given m ≡ (asked b).0 → l ≡ (asked b).1 → take m l ≡ line
    by_question true answer list = let same : m ≡ length line = cc in ap₂ take same list ∙ fronted_front line lent
    by_question false answer list = cc

pub slice_bounds-line-end : goal.slice_bounds-line-end
slice_bounds-line-end g c = omega (arith, refusal_given c.args.refusal _ _ _ _ c.refusal_line.ensures c.in-Ok.is)

pub slice_bounds-write_all-end : goal.slice_bounds-write_all-end
slice_bounds-write_all-end g c =
    let within = refusal_given c.args.refusal _ _ _ _ c.refusal_line.ensures c.in-Ok.is in
    sym (length-take-le _ _ (omega arith))

pub unreachable-requires : goal.unreachable-requires
unreachable-requires g c = not_refused _ _ _ _ _ c.refusal_line.ensures (omega arith) c.in-Err.is

pub returns : goal.returns
returns g c =
    subst (λ (text : List ℕ). OnOk c.write_all.result (Appends (g.W.Write.contents c.args.writer.now) (g.W.Write.contents c.write_all.new.self) text))
    (line_given _ _ _ _ c.in-Ok.ensures) c.write_all.ensures.bytes
