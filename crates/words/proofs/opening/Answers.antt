-- `words::opening` meets its contract: where all gaps are left, the set is closed under addition, and else the gaps left and one more are the
-- shortest impossible opening. Assumes nothing.
use Prim.Native.Nat.{ℕ, ◌-◌, ◌%◌, ◌^◌, ◌<◌}
use mathlib.Core.Path.{◌≡◌, sym, ap, ◌∙◌}
use mathlib.Core.Bool.{false}
use mathlib.Core.Option.{some}
use native.Mathlib.Omega.{arith}
use native.Mathlib.Nat.{mod-le}
use lib.Count.{ones-le}
use Rattle.semigroups.specs.Words.{genus, closed}
use Rattle.semigroups.specs.GapSums.{least_gap_sum}
use Rattle.semigroups.proofs.Booleans.{is_false}
use Rattle.semigroups.proofs.Operations.{genus_ones}
use Rattle.semigroups.proofs.Closure.{closed_iff}
use Rattle.semigroups.proofs.GapSums.{least_gap_sum_is, possible_all}
use Rattle.semigroups.proofs.Openings.{opening_none, opening_least}
use Rattle.words.proofs.opening.Goals as goal

pub returns-then-left-word : goal.returns-then-left-word
returns-then-left-word c =
    let w : ℕ = c.args.word in
    let fits = c.ranges.word.fits in
    sym ((opening_none w fits).1 ((closed_iff w fits).0 ((possible_all w fits).0 (sym c.possible_gaps-left.ensures ∙ c.if-left-word.true))))

pub overflow_add-result : goal.overflow_add-result
overflow_add-result c =
    let left : ℕ = c.possible_gaps-left.result in
    let fits : left < 2 ^ 64 = omega (arith, c.ranges.word.fits, c.possible_gaps-left.ensures, mod-le c.args.word (2 ^ (least_gap_sum c.args.word - 1))) in
    omega (arith, c.genus_of.ensures, genus_ones left fits, ones-le 64 left fits)

pub returns : goal.returns
returns c =
    let given = c.possible_gaps-left.ensures in
    let w : ℕ = c.args.word in
    let fits = c.ranges.word.fits in
    let fails : closed w ≡ false = is_false (closed w) (λ t. c.if-left-word.false (given ∙ (possible_all w fits).1 t)) in
    let left : c.genus_of.result ≡ genus (w % 2 ^ (least_gap_sum w - 1)) = c.genus_of.ensures ∙ ap genus given in
    sym (opening_least w fits _ (least_gap_sum_is w fits fails) ∙ ap some (omega arith))
