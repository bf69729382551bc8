-- `search::find` meets its contract: genus 0 by itself, none for a negative largest gap of another genus, and the others by the search below
-- the first node. Assumes nothing.
use Prim.Native.Nat.{ℕ, ◌≤◌}
use mathlib.Core.Path.{◌≡◌, sym, ap, ◌∙◌}
use mathlib.Core.List.{head?}
use mathlib.Core.Option.{Option}
use native.Mathlib.Omega.{arith}
use lib.IntN.{ℤ}
use lib.Signed.{lt_z_no, yes_non_neg, pos-nat_abs}
use mir.Syntax.{w8}
use mir.Val.{to_z, of_z}
use mir.Facts.{to_z-of_z}
use Rattle.std.proofs.Common.{FitsSigned}
use Rattle.answers.specs.Answers.{given}
use Rattle.search.specs.Wanted.{wanted_list, find_of}
use Rattle.search.proofs.Wanted.{find_refused, find_given}
use Rattle.search.proofs.Possible.{none_negative}
use Rattle.search.proofs.find.Goals as goal

-- up to genus 32 the answer is the first of the wanted list, for the largest gap as it stands in the machine
answer : (genus m : ℕ) {f : ℤ} → FitsSigned w8 f → genus ≤ 32 → {o : Option ℕ} → o ≡ head? (wanted_list genus (to_z w8 (of_z w8 f)) m)
    → given o ≡ find_of genus f m
answer genus m fits h e = ap given (e ∙ ap (λ (z : ℤ). head? (wanted_list genus z m)) (to_z-of_z fits)) ∙ sym (find_given _ _ _ h)

pub returns-then-genus-gt32 : goal.returns-then-genus-gt32
returns-then-genus-gt32 c = sym (find_refused _ _ _ c.if-genus-gt32.true)

pub returns-then-genus-eq0 : goal.returns-then-genus-eq0
returns-then-genus-eq0 c = answer _ _ c.ranges.largest_gap (omega arith) (rw c.if-genus-eq0.true c.of_genus_0.ensures)

pub returns-then-largest_gap-lt0 : goal.returns-then-largest_gap-lt0
returns-then-largest_gap-lt0 c =
    answer _ _ c.ranges.largest_gap (omega arith) (sym (none_negative c.args.genus (omega arith) _ c.args.multiplicity c.if-largest_gap-lt0.true))

pub returns : goal.returns
returns c =
    let z : ℤ = to_z w8 (of_z w8 c.args.largest_gap) in
    answer _ _ c.ranges.largest_gap (omega arith)
    (c.first_with.ensures
    ∙ ap (λ (z : ℤ). head? (wanted_list c.args.genus z c.args.multiplicity)) (pos-nat_abs z (yes_non_neg {z = z} (lt_z_no (rw c.if-largest_gap-lt0.false tt)))))
