-- The word of given generators: which lists are refused, and what word the others have. Assumes nothing.
use Prim.Native.Nat.{ℕ, ◌^◌, ◌<◌}
use mathlib.Core.Path.{◌≡◌, refl, sym, ap, subst, ◌∙◌, fun_ext}
use mathlib.Core.Logic.{◌≢◌, ◌↔◌, ◌⊎◌, ⊎_elim}
use mathlib.Core.Bool.{Bool, true}
use mathlib.Core.List.{List, Memᴰ}
use native.Mathlib.Omega.{arith}
use lib.Dec.{eqb, ltb}
use borrow.Author.Tests.{leb-true, le-leb, eqb-true, eqb-false, eq-eqb, ne_eqb}
use Rattle.semigroups.specs.Lists.{every}
use Rattle.semigroups.specs.Sets.{Set, ClosedUnderAddition, GapsOf, gaps_to}
use Rattle.semigroups.specs.Words.{set_of, gaps, genus, word_of}
use Rattle.semigroups.proofs.Booleans.{not_both, is_false}
use Rattle.semigroups.proofs.Lists.{positive_iff, zero_iff}
use Rattle.semigroups.proofs.Words.{gaps_of, same_set, word_of_set}
use Rattle.semigroups.proofs.Closure.{closed_iff}
use Rattle.answers.specs.Answers.{refused, given}
use Rattle.answers.proofs.Answers.{first_no, second_no, third_no, one_no, all_yes}
use Rattle.words.specs.Looks.{Accepted}
use Rattle.sums.specs.Divisors.{gcd_of}
use Rattle.sums.specs.Sums.{spans, AtMostGaps, Positive, WordOfSums}
use Rattle.sums.specs.WordFrom.{few_gaps, word_from_of}
use Rattle.sums.proofs.Sums.{spans_zero, spans_closed}
use Rattle.sums.proofs.Few.{gap_below_64, gaps_to_le, few_iff}

-- ---- the questions

module _ (A : List ℕ) where
  -- the test of the number of gaps decides whether there are at most 32, of all numbers
  pub few_gaps_iff : (few_gaps A ≡ true) ↔ AtMostGaps 32 (spans A)
  unfolding few_gaps
  few_gaps_iff =
      let r = few_iff (spans A) (spans_zero A) (spans_closed A) in
      (λ e. r.0 (leb-true _ 32 e), λ h. le-leb _ 32 (r.1 h))

  -- the word of the sums, where all their gaps are at most 64
  abbrev word : ℕ
  word = word_of (gaps_to (spans A) 64)

  -- the first two tests
  abbrev positives : Bool
  positives = every (ltb 0) A

  abbrev coprime : Bool
  coprime = eqb (gcd_of A) 1

  -- refused 7 where a member is 0
  pub refused_zero : (word_from_of A ≡ refused 7) ↔ Memᴰ 0 A
  unfolding word_from_of
  refused_zero = (
    λ e. (zero_iff A).0 (first_no 7 8 9 (omega arith) (omega arith) word positives coprime (few_gaps A) e),
    λ m. rw ((zero_iff A).1 m),
  )

  -- else 8 where the greatest common divisor is not 1
  pub refused_divisor : (word_from_of A ≡ refused 8) ↔ (Positive A × (gcd_of A ≢ 1))
  unfolding word_from_of
  refused_divisor = (
    λ e. let (p, q) = second_no 7 8 9 (omega arith) (omega arith) word positives coprime (few_gaps A) e in ((positive_iff A).0 p, eqb-false (gcd_of A) 1 q),
    λ (h, n). rw ((positive_iff A).1 h, ne_eqb (gcd_of A) 1 n),
  )

  -- else 9 where the sums leave more than 32 gaps
  pub refused_gaps : (word_from_of A ≡ refused 9) ↔ (Positive A × (gcd_of A ≡ 1) × ¬ AtMostGaps 32 (spans A))
  unfolding word_from_of
  refused_gaps = (
    λ e. let (p, q, r) = third_no 7 8 9 (omega arith) (omega arith) word positives coprime (few_gaps A) e in ((positive_iff A).0 p, eqb-true (gcd_of A) 1 q, λ g. not_both (few_gaps_iff.1 g) r),
    λ (h, g, n). rw ((positive_iff A).1 h, eq-eqb (gcd_of A) 1 g, is_false (few_gaps A) (λ e. n (few_gaps_iff.0 e))),
  )

  -- so that a list without 0 is refused 8 or 9, if it is refused
  pub refused_positive : (n : ℕ) → (¬ Memᴰ 0 A) → word_from_of A ≡ refused n → (n ≡ 8) ⊎ (n ≡ 9)
  unfolding word_from_of
  refused_positive n fresh e =
      ⊎_elim (λ s. absurd (fresh (refused_zero.0 (e ∙ ap refused s)))) (λ m. m)
      (one_no 7 8 9 (omega arith) (omega arith) word n positives coprime (few_gaps A) e)

  few_word : AtMostGaps 32 (spans A) → (word_of (gaps_to (spans A) 64) < 2 ^ 64) × ((x : ℕ) → set_of (word_of (gaps_to (spans A) 64)) x ≡ spans A x)
  few_word few =
      let short = (few_iff (spans A) (spans_zero A) (spans_closed A)).1 few in
      word_of_set (spans A) (spans_zero A) (λ x e. omega (arith, gap_below_64 (spans A) (spans_zero A) (spans_closed A) short x e))

  -- else the word whose set is that of the sums
  pub answered_word : (w : ℕ) → (word_from_of A ≡ given w) ↔ WordOfSums A w
  unfolding word_from_of
  answered_word w = (
    λ e.
        let (p, q, r, v) = all_yes 7 8 9 (omega arith) (omega arith) word w positives coprime (few_gaps A) e in
        let few = few_gaps_iff.0 r in
        let (fits, same) = few_word few in
        record { positive = (positive_iff A).0 p; coprime = eqb-true (gcd_of A) 1 q; few = few; fits = subst (λ (u : ℕ). u < 2 ^ 64) v fits; same = λ x. ap (λ (u : ℕ). set_of u x) (sym v) ∙ same x },
    λ s.
        let (fits, same) = few_word s.few in
        rw ((positive_iff A).1 s.positive, eq-eqb (gcd_of A) 1 s.coprime, few_gaps_iff.1 s.few)
        (ap given (same_set (word_of (gaps_to (spans A) 64)) w fits s.fits (λ x. same x ∙ sym (s.same x)))),
  )

  -- so that A is accepted just where all three are answered yes
  pub accepted_generators_iff : ((w : ℕ) × (word_from_of A ≡ given w)) ↔ (Positive A × (gcd_of A ≡ 1) × AtMostGaps 32 (spans A))
  accepted_generators_iff = (
    λ (w, e). let s = (answered_word w).0 e in (s.positive, s.coprime, s.few),
    λ (p, g, few). let (fits, same) = few_word few in (word, (answered_word word).1 (record { positive = p; coprime = g; few = few; fits = fits; same = same })),
  )

-- ---- the word that is given

module _ (A : List ℕ) (w : ℕ) (made : word_from_of A ≡ given w) where
  sums : WordOfSums A w
  sums = (answered_word A w).0 made

  -- the word made of given generators is accepted
  pub made_accepted : (w < 2 ^ 64) × Accepted w
  unfolding genus gaps gaps_to set_of
  made_accepted =
      let same : spans A ≡ set_of w = sym (fun_ext sums.same) in (
        sums.fits,
        record {
          closed = (closed_iff w sums.fits).1 (subst ClosedUnderAddition same (spans_closed A));
          few = gaps_to_le (set_of w) refl 32 64 (subst (AtMostGaps 32) same sums.few);
        },
      )

  -- its gaps are those of the sums
  pub made_gaps : GapsOf (spans A) (gaps w)
  made_gaps = subst (λ (S : Set). GapsOf S (gaps w)) (fun_ext sums.same) (gaps_of w sums.fits)
