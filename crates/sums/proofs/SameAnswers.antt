-- Lists of generators whose members are sums of each other's members get the same answer. Assumes nothing.
use Prim.Native.Nat.{ℕ, ◌∣◌}
use mathlib.Core.Path.{◌≡◌, sym, subst, ◌∙◌, fun_ext}
use mathlib.Core.Logic.{◌↔◌}
use mathlib.Core.Bool.{true}
use mathlib.Core.List.{List, Memᴰ}
use native.Mathlib.Omega.{arith}
use native.Mathlib.Nat.{dvd_antisymm, eq-one_of_dvd-one}
use Rattle.semigroups.proofs.Booleans.{true_together}
use Rattle.semigroups.proofs.Lists.{positive_together}
use Rattle.answers.specs.Answers.{given}
use Rattle.sums.specs.Divisors.{gcd_of}
use Rattle.sums.specs.Sums.{SumsOf, spans, Positive}
use Rattle.sums.specs.WordFrom.{few_gaps, word_from_of}
use Rattle.sums.proofs.Divisors.{gcd_greatest}
use Rattle.sums.proofs.Sums.{sum_member, spans_iff, gcd_divides_sum, sums_of_members, sums_of_sums}
use Rattle.sums.proofs.Few.{fewer_gaps}
use Rattle.sums.proofs.WordFrom.{answered_word, accepted_generators_iff}

-- ---- where the members of A are sums of B

module _ (A B : List ℕ) (there : SumsOf A B) where
  -- so are the sums of A
  spans_more : (x : ℕ) → spans A x ≡ true → spans B x ≡ true
  spans_more x e = (spans_iff B x).1 (sums_of_sums A B there x ((spans_iff A x).0 e))

  -- each common divisor of B divides the members of A
  gcd_more : gcd_of B ∣ gcd_of A
  gcd_more = gcd_greatest A (gcd_of B) (λ a m. gcd_divides_sum B a (there a m))

  -- with the gaps of the sums of B among those of the sums of A, B is accepted if A is and B has no 0
  pub more_accepted : (w : ℕ) → word_from_of A ≡ given w → Positive B → (v : ℕ) × (word_from_of B ≡ given v)
  more_accepted w made positive =
      let (_, coprime, few) = (accepted_generators_iff A).0 (w, made) in
      (accepted_generators_iff B).1 (
        positive,
        eq-one_of_dvd-one (subst (λ (d : ℕ). gcd_of B ∣ d) coprime gcd_more),
        fewer_gaps (spans A) (spans B) spans_more 32 few,
      )

-- ---- where the members of A and B are sums of each other's

-- 0 is in neither of two lists of positive members
pub neither_zero : (A B : List ℕ) → Positive A → Positive B → Memᴰ 0 A ↔ Memᴰ 0 B
neither_zero A B p q = (λ m. absurd (omega (arith, p 0 m)), λ m. absurd (omega (arith, q 0 m)))

-- they get the same answer, refusals too, where 0 is in both or in neither: that is asked apart, as 0, the sum of none, is a sum of every list
pub same_answer : (A B : List ℕ) → SumsOf A B → SumsOf B A → Memᴰ 0 A ↔ Memᴰ 0 B → word_from_of A ≡ word_from_of B
unfolding word_from_of few_gaps
same_answer A B there back zero =
    let sums : spans A ≡ spans B = fun_ext (λ x. true_together (spans A x) (spans B x) (spans_more A B there x) (spans_more B A back x)) in
    let divisor : gcd_of A ≡ gcd_of B = dvd_antisymm (gcd_more B A back) (gcd_more A B there) in
    rw (positive_together A B zero, divisor, sums)

-- order and repeats do not matter: lists with the same members get the same answer
pub same_members : (A B : List ℕ) → ((a : ℕ) → Memᴰ a A ↔ Memᴰ a B) → word_from_of A ≡ word_from_of B
same_members A B same = same_answer A B (sums_of_members A B (λ a m. (same a).0 m)) (sums_of_members B A (λ a m. (same a).1 m)) (same 0)

-- ---- of accepted lists

-- where A and B have the same word, the members of A are sums of B
sums_by_word : (A B : List ℕ) (w : ℕ) → word_from_of A ≡ given w → word_from_of B ≡ given w → SumsOf A B
sums_by_word A B w made other a m =
    (spans_iff B a).0 (sym (((answered_word B w).0 other).same a) ∙ ((answered_word A w).0 made).same a ∙ (spans_iff A a).1 (sum_member A m))

-- the lists with the word of A are those without 0 whose members and A's are sums of each other's
pub same_word_iff : (A B : List ℕ) (w : ℕ) → word_from_of A ≡ given w → (word_from_of B ≡ given w) ↔ (Positive B × SumsOf A B × SumsOf B A)
same_word_iff A B w made = (
  λ other. (((answered_word B w).0 other).positive, sums_by_word A B w made other, sums_by_word B A w other made),
  λ (positive, there, back). same_answer B A back there (neither_zero B A positive ((answered_word A w).0 made).positive) ∙ made,
)
