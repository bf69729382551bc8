-- The cases that document 01 marks to be proved, together as one table against the definitions, in its order. Assumes nothing.
use Prim.Native.Nat.{ℕ, ◌≤◌}
use mathlib.Core.Path.{◌≡◌, ◌∙◌, ap}
use mathlib.Core.Bool.{true, false}
use mathlib.Core.List.{List, [], ◌∷◌, map}
use native.Mathlib.Omega.{arith}
use lib.IntN.{ℤ, pos, negsuc}
use lib.ListN.{length, get_or, drop}
use Rattle.semigroups.specs.Lists.{fronted}
use Rattle.semigroups.specs.GenusList.{genus_list}
use Rattle.semigroups.proofs.Cases.{known_list}
use Rattle.answers.specs.Answers.{Answer, refused, given, giving, filled}
use Rattle.words.specs.Looks.{look_of}
use Rattle.words.specs.declared.Report.{Report}
use Rattle.words.proofs.Looks.{look_given_report, room}
use Rattle.words.proofs.Cases.{known_looks}
use Rattle.tables.specs.Answers.{table_of, child_of}
use Rattle.tables.proofs.Cases.{table_given, known_tables, known_children, no_child_at_32}
use Rattle.walk.specs.declared.Walk.{Walk}
use Rattle.walk.specs.Walks.{fresh_of}
use Rattle.demands.specs.Demand3.{atlas, batches}
use Rattle.demands.proofs.Cases.{answer_and_list, genus_four}
use Rattle.sums.specs.WordFrom.{word_from_of}
use Rattle.sums.proofs.Cases.{known_words}
use Rattle.generators.specs.Generators.{minimal_generators, generators_of}
use Rattle.generators.proofs.Cases.{known_generators}
use Rattle.elementary.specs.Answers.{elementary_of}
use Rattle.elementary.proofs.Cases.{known_counts}

-- what a look tells of a word of genus g, multiplicity m, reported conductor c and largest gap f
abbrev look_given : ℕ → ℕ → ℕ → ℤ → Answer Report
look_given g m c f = given record { genus = g; multiplicity = m; conductor = c; largest_gap = f }

pub record Marked : Type 0 where
  pub word_0 : (look_of 0 ≡ look_given 0 1 0 (negsuc 0)) × (table_of 0 ≡ table_given 1 1)
  pub word_1 : (look_of 1 ≡ look_given 1 2 2 (pos 1)) × (table_of 1 ≡ table_given 3 2)
  pub word_5 : (look_of 5 ≡ look_given 2 2 4 (pos 3)) × (table_of 5 ≡ table_given 14 1)
  pub word_111 : (look_of 111 ≡ look_given 6 5 8 (pos 7)) × (table_of 111 ≡ table_given 251 4)
  pub word_91 : (look_of 91 ≡ look_given 5 3 8 (pos 7)) × (table_of 91 ≡ table_given 237 2)
  -- in any list that holds them
  pub generators_of_91 : (lent : List ℕ) → 3 ≤ length lent → generators_of 91 lent ≡ giving 3 (3 ∷ 8 ∷ 10 ∷ drop 3 lent)
  pub word_13 : look_of 13 ≡ refused 2
  pub children_of_1 : (child_of 1 2 ≡ given 3) × (child_of 1 3 ≡ given 5) × (child_of 1 4 ≡ refused 5)
  pub genus_4 : genus_list 4 ≡ 15 ∷ 23 ∷ 39 ∷ 71 ∷ 27 ∷ 75 ∷ 85 ∷ []
  -- from the fresh call, whatever the lent lists held: their places after the words are untouched
  pub genus_4_by_3_0_5 : (w : Walk) → fresh_of 4 ≡ given w → (a b c d e f g h : ℕ)
      → map answer_and_list (batches atlas w ((a ∷ b ∷ c ∷ []) ∷ [] ∷ (d ∷ e ∷ f ∷ g ∷ h ∷ []) ∷ []))
      ≡ (given record { count = 3; finished = false }, 15 ∷ 23 ∷ 39 ∷ []) ∷ (given record { count = 0; finished = false }, [])
      ∷ (given record { count = 4; finished = true }, 71 ∷ 27 ∷ 75 ∷ 85 ∷ h ∷ []) ∷ []
  pub generators_2_65 : (word_from_of (2 ∷ 65 ∷ []) ≡ given 6148914691236517205) × ((e : ℕ) → child_of 6148914691236517205 e ≡ refused 3)
  pub generators_2_67 : word_from_of (2 ∷ 67 ∷ []) ≡ refused 9
  pub generators_4_6 : word_from_of (4 ∷ 6 ∷ []) ≡ refused 8
  pub gaps_1_to_32 : look_of 4294967295 ≡ look_given 32 33 33 (pos 32)
  pub gaps_1_to_33 : look_of 8589934591 ≡ refused 1
  pub elementary_5 : (elementary_of 7 5 ≡ given 3) × (elementary_of 10 5 ≡ given 0)

-- one of the answers that a crate computes together
answer_at : {A : Type 0} {k l : List (Answer A)} (i : ℕ) → k ≡ l → get_or k i (refused 0) ≡ get_or l i (refused 0)
answer_at i e = ap (λ l. get_or l i (refused 0)) e

-- one of the looks that `words` computes
look : (i : ℕ) → get_or (map look_of (0 ∷ 1 ∷ 5 ∷ 111 ∷ 91 ∷ 13 ∷ 4294967295 ∷ 8589934591 ∷ [])) i (refused 0)
    ≡ get_or
    (look_given 0 1 0 (negsuc 0) ∷ look_given 1 2 2 (pos 1) ∷ look_given 2 2 4 (pos 3) ∷ look_given 6 5 8 (pos 7) ∷ look_given 5 3 8 (pos 7)
    ∷ refused 2 ∷ look_given 32 33 33 (pos 32) ∷ refused 1 ∷ []) i (refused 0)
look i = answer_at i known_looks

-- the word 91 is accepted, and its generators are 3, 8 and 10
generators_of_91 : (lent : List ℕ) → 3 ≤ length lent → generators_of 91 lent ≡ giving 3 (3 ∷ 8 ∷ 10 ∷ drop 3 lent)
unfolding fronted generators_of
generators_of_91 lent long =
    let three : minimal_generators 91 ≡ 3 ∷ 8 ∷ 10 ∷ [] = ap (λ (l : List (List ℕ)). get_or l 1 []) known_generators in
    let accepted = (look_given_report 91 _ (look 4)).0 in
    room 91 (minimal_generators 91) lent accepted (omega (arith, ap length three))
    ∙ ap (λ (l : List ℕ). filled l lent) three

pub marked : Marked
marked = record {
  word_0 = (look 0, answer_at 0 known_tables);
  word_1 = (look 1, answer_at 1 known_tables);
  word_5 = (look 2, answer_at 2 known_tables);
  word_111 = (look 3, answer_at 3 known_tables);
  word_91 = (look 4, answer_at 4 known_tables);
  generators_of_91 = generators_of_91;
  word_13 = look 5;
  children_of_1 = (answer_at 0 known_children.1, answer_at 1 known_children.1, answer_at 2 known_children.1);
  genus_4 = known_list 4 (omega arith);
  genus_4_by_3_0_5 = genus_four;
  generators_2_65 = (answer_at 0 known_words, no_child_at_32);
  generators_2_67 = answer_at 1 known_words;
  generators_4_6 = answer_at 2 known_words;
  gaps_1_to_32 = look 6;
  gaps_1_to_33 = look 7;
  elementary_5 = (known_counts.0, known_counts.1);
}
