-- `kunz::word_from_coordinates` meets its contract: each answer computes by the tests that led there; that the gaps up to 64 make a closed
-- word whose genus is the sum stands for the inequalities. Assumes nothing.
use Prim.Native.Nat.{ℕ, ◌≤◌}
use mathlib.Core.Path.{◌≡◌, sym, ap, ap₂, ◌∙◌}
use mathlib.Core.Bool.{true, ◌&&◌}
use mathlib.Core.List.{List}
use native.Mathlib.Omega.{arith}
use borrow.Author.Tests.{lt-leb, le-leb}
use lib.Dec.{eqb, ltb, leb}
use Rattle.semigroups.specs.Lists.{every, sum_over}
use Rattle.semigroups.specs.Words.{closed, genus}
use Rattle.semigroups.proofs.Lists.{length_le_sum}
use Rattle.answers.specs.Answers.{given}
use Rattle.coordinates.specs.Coordinates.{inequalities, word_from_coordinates_of}
use Rattle.coordinates.proofs.RoundTrips.{inequalities_by_word}
use Rattle.kunz.proofs.word_from_coordinates.Goals as goal
use Rattle.kunz.proofs.word_from_coordinates.Goals.{After-accepted_of_genus}

-- the sum of the entries
abbrev total : List ℕ → ℕ
total l = sum_over (λ x. x) l

-- the list, once the word of its gaps was looked at
abbrev given_list : After-accepted_of_genus → List ℕ
given_list c = c.args.list.now

-- then the first two questions were answered yes, and what the third asks is what was asked of the word
three_questions : (c : After-accepted_of_genus) → (every (ltb 0) (given_list c) ≡ true) × (leb (total (given_list c)) 32 ≡ true)
    × (inequalities (given_list c) ≡ c.accepted_of_genus.result)
three_questions c =
    let l = given_list c in
    let few : total l ≤ 32 = omega (arith, c.sum_to_33-sum.ensures) in
    let sum : c.sum_to_33-sum.result ≡ total l = omega (arith, c.sum_to_33-sum.ensures) in (
      sym c.all_positive.ensures ∙ c.if-not-all_positive.false,
      le-leb (total l) 32 few,
      inequalities_by_word l few
          ∙ sym (c.accepted_of_genus.ensures ∙ ap₂ (λ (w g : ℕ). closed w && eqb (genus w) g) c.gap_word-word.ensures sum),
    )

pub returns-then-not-all_positive : goal.returns-then-not-all_positive
unfolding word_from_coordinates_of
returns-then-not-all_positive c = simp (sym c.all_positive.ensures ∙ c.if-not-all_positive.true)

pub returns-then-sum-gt32 : goal.returns-then-sum-gt32
unfolding word_from_coordinates_of
returns-then-sum-gt32 c =
    let l = c.args.list.now in
    simp (sym c.all_positive.ensures ∙ c.if-not-all_positive.false, lt-leb (total l) 32 (omega (arith, c.sum_to_33-sum.ensures)))

pub gap_word-word-requires : goal.gap_word-word-requires
gap_word-word-requires c =
    let l = c.args.list.now in
    omega (arith, c.sum_to_33-sum.ensures, length_le_sum l (sym c.all_positive.ensures ∙ c.if-not-all_positive.false))

pub returns-then-not-accepted_of_genus : goal.returns-then-not-accepted_of_genus
unfolding word_from_coordinates_of
returns-then-not-accepted_of_genus c = let (p, q, r) = three_questions (goal.at.returns-then-not-accepted_of_genus c).After-accepted_of_genus in simp (p, q, r ∙ c.if-not-accepted_of_genus.true)

pub returns : goal.returns
unfolding word_from_coordinates_of
returns c =
    let (p, q, r) = three_questions (goal.at.returns c).After-accepted_of_genus in
    simp (p, q, r ∙ c.if-not-accepted_of_genus.false) (ap given c.gap_word-word.ensures)
