-- `editor::is_right` meets its contract: the four tests one after the other. Assumes nothing.
use Prim.Native.Nat.{ℕ, ◌-◌, ◌≤◌}
use mathlib.Core.Path.{◌≡◌, sym, ap, ◌∙◌}
use mathlib.Core.Bool.{Bool, true}
use mathlib.Core.List.{List}
use native.Mathlib.Omega.{arith}
use lib.ListN.{length, take, drop, length-drop}
use lib.Seq.{take_all}
use borrow.Author.Rules.{rules}
use borrow.Author.Tests.{le-leb, lt-leb}
use lib.Dec.{eqb, ltb, leb}
use Rattle.semigroups.specs.Lists.{every}
use Rattle.semigroups.proofs.Booleans.{not_both}
use Rattle.changes.specs.States.{State, held, past, equal_answers, is_right}
use Rattle.editor.specs.Answers.{said}
use Rattle.editor.proofs.Equality.{result_equal}
use Rattle.editor.proofs.is_right.Goals as goal
use Rattle.editor.proofs.is_right.Goals.{then-length-le16, else-length-le16, then-all_positive, else-all_positive}

-- the first test of a state of sixteen places passed, and the next two are those of the calls
three_tests : (s : State) → length s.bytes ≡ 16 → s.length ≤ 16 → (positive zeros : Bool)
    → positive ≡ every (ltb 0) (take s.length s.bytes) → zeros ≡ every (eqb 0) (take (16 - s.length) (drop s.length s.bytes))
    → (leb s.length 16 ≡ true) × (every (ltb 0) (held s) ≡ positive) × (every (eqb 0) (past s) ≡ zeros)
unfolding held past
three_tests s sixteen short positive zeros p z =
    let rest : List ℕ = drop s.length s.bytes in
    let whole : length rest ≤ 16 - s.length = omega (arith, length-drop s.length s.bytes) in
    (le-leb s.length 16 short, sym p, sym (z ∙ ap (every (eqb 0)) (take_all (16 - s.length) rest whole)))

pub returns-then-all_zero : goal.returns-then-all_zero
unfolding is_right held
returns-then-all_zero c =
    let s : State = said c.args.editor.now in
    let sixteen : length s.bytes ≡ 16 = search rules in
    elim c.if-all_positive.branch [
      | then-all_positive w ↦ elim c.if-length-le16.branch [
        | then-length-le16 u ↦
            let (short, positive, zeros) = three_tests s sixteen u.if-length-le16.true _ _ u.all_positive.ensures w.all_zero.ensures in
            c.eq.ensures ∙ result_equal c.args.editor.now.answer c.answer_of.result
            ∙ rw (short, positive ∙ sym u.value-is ∙ w.if-all_positive.true, zeros ∙ sym w.value-is ∙ c.if-all_zero.true)
            (ap (equal_answers s.answer) c.answer_of.ensures)
        | else-length-le16 u ↦ absurd (not_both w.if-all_positive.true (u.value-is ∙ lt-leb s.length 16 u.if-length-le16.false))
      ]
      | else-all_positive w ↦ absurd (not_both c.if-all_zero.true (w.value-is ∙ w.if-all_positive.false))
    ]

pub returns-else-all_zero : goal.returns-else-all_zero
unfolding is_right held
returns-else-all_zero c =
    let s : State = said c.args.editor.now in
    let sixteen : length s.bytes ≡ 16 = search rules in
    c.if-all_zero.false
    ∙ elim c.if-all_positive.branch [
      | then-all_positive w ↦ elim c.if-length-le16.branch [
        | then-length-le16 u ↦
            let (short, positive, zeros) = three_tests s sixteen u.if-length-le16.true _ _ u.all_positive.ensures w.all_zero.ensures in
            rw (short, positive ∙ sym u.value-is ∙ w.if-all_positive.true, zeros ∙ sym w.value-is ∙ c.if-all_zero.false)
        | else-length-le16 u ↦ absurd (not_both w.if-all_positive.true (u.value-is ∙ lt-leb s.length 16 u.if-length-le16.false))
      ]
      | else-all_positive w ↦ elim c.if-length-le16.branch [
        | then-length-le16 u ↦ rw (le-leb s.length 16 u.if-length-le16.true, sym u.all_positive.ensures ∙ sym u.value-is ∙ w.if-all_positive.false)
        | else-length-le16 u ↦ rw (lt-leb s.length 16 u.if-length-le16.false)
      ]
    ]
