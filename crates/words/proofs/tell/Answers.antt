-- `words::tell` meets its contract: the word 0 has no gap, and of every other word the largest gap is one less than the conductor.
-- Assumes nothing.
use Prim.Native.Nat.{ℕ, ◌-◌, ◌^◌, ◌<◌}
use mathlib.Core.Path.{◌≡◌, sym, ap, ◌∙◌}
use mathlib.Core.Logic.{◌≢◌}
use native.Mathlib.Omega.{arith}
use lib.IntN.{pos}
use mir.Syntax.{w64}
use mir.ValLaws.{to_z_pos}
use Rattle.semigroups.specs.Words.{largest_gap, conductor}
use Rattle.semigroups.proofs.Elements.{conductor_pos}
use Rattle.semigroups.proofs.Operations.{conductor_le}
use Rattle.semigroups.proofs.Reported.{no_gap_reported, conductors_agree, largest_gaps_agree}
use Rattle.words.specs.Looks.{report_of}
use Rattle.words.proofs.tell.Goals as goal
use Rattle.words.proofs.tell.Goals.{After-struct_known-1}

-- the conductor is at most 65, which a signed number holds
small : (c : After-struct_known-1) → c.conductor_and_multiplicity-both.result.conductor - 1 < 2 ^ 63
small c = omega (arith, c.conductor_and_multiplicity-both.ensures.0, conductor_le c.args.word c.ranges.word.fits)

pub returns-then-word-eq0 : goal.returns-then-word-eq0
unfolding report_of
returns-then-word-eq0 c =
    let told = no_gap_reported c.if-word-eq0.true in
    λ i. record {
      genus = c.genus_of-genus.ensures i;
      multiplicity = c.conductor_and_multiplicity-both.ensures.1 i;
      conductor = sym told.0 i;
      largest_gap = sym told.1 i;
    }

-- the conductor is at least 1
pub overflow_sub-largest : goal.overflow_sub-largest
overflow_sub-largest c = omega (arith, c.conductor_and_multiplicity-both.ensures.0, conductor_pos c.args.word)

pub overflow_cast-largest_gap : goal.overflow_cast-largest_gap
overflow_cast-largest_gap c = record { sfits = small (goal.at.overflow_cast-largest_gap c).After-struct_known-1 }

pub returns : goal.returns
unfolding report_of conductor
returns c =
    let word : ℕ = c.args.word in
    let fits = c.ranges.word.fits in
    let nonzero : word ≢ 0 = c.if-word-eq0.false in
    let known = c.conductor_and_multiplicity-both.ensures in
    let largest : c.conductor_and_multiplicity-both.result.conductor - 1 ≡ largest_gap word = omega (arith, known.0) in
    λ i. record {
      genus = c.genus_of-genus.ensures i;
      multiplicity = known.1 i;
      conductor = (known.0 ∙ sym (conductors_agree word fits nonzero)) i;
      largest_gap = (to_z_pos w64 _ (small (goal.at.returns c).After-struct_known-1) ∙ ap pos largest ∙ sym (largest_gaps_agree word fits nonzero)) i;
    }
