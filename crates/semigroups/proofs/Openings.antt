-- Openings of a gap word: the n smallest gaps are those of a semigroup as long as none of them is a sum of two positive elements of the word's
-- set; so that the shortest impossible opening ends with the least gap that is such a sum. Assumes nothing.
use Prim.Native.Nat.{ℕ, suc, ◌+◌, ◌-◌, ◌%◌, ◌^◌, ◌≤◌, ◌<◌}
use mathlib.Core.Path.{◌≡◌, refl, sym, ◌∙◌, ap, subst, fun_ext}
use mathlib.Core.Logic.{◌↔◌}
use mathlib.Core.Bool.{Bool, true, false, not}
use mathlib.Core.List.Memᴰ
use mathlib.Core.List.{List, ◌∷◌, ◌++◌, Memᴰ}
use mathlib.Core.Option.{none, some}
use native.Mathlib.Omega.{arith}
use native.Mathlib.Nat.{lt_of_not-le, le_of_suc-le-suc, mod-le}
use lib.Dec.{leb}
use lib.ListN.{length, length-append, take, drop, take-append-drop}
use lib.Seq.{take-length, take-take}
use borrow.Author.Tests.{lt-leb, leb-false, not-true, not-false}
use Rattle.semigroups.specs.Lists.{run, keep, every, Ordered}
use Rattle.semigroups.specs.Sets.{Set, gaps_to, sum_of_two, ClosedUnderAddition, NumericalSemigroup}
use Rattle.semigroups.specs.Words.{set_of, gaps, genus, closed}
use Rattle.semigroups.specs.GapLists.{set_missing, closed_gaps}
use Rattle.semigroups.specs.Openings.{smallest_gaps, opening_of, opening_set, ShortestImpossible}
use Rattle.semigroups.proofs.Booleans.{not_both, is_false}
use Rattle.semigroups.proofs.Lists.{run_mem, mem_run, ordered_run, keep_in, mem_every, every_take, every_front, ordered_front, ordered_parts}
use Rattle.semigroups.proofs.Sets.{gaps_to_mem, gaps_to_append}
use Rattle.semigroups.proofs.Words.{gap_pos, gap_le_64, gaps_of, gaps_list}
use Rattle.semigroups.proofs.Operations.{gaps_to_ones, genus_ones}
use Rattle.semigroups.proofs.Closure.{closed_iff}
use Rattle.semigroups.proofs.Heads.{least_none, least_some}
use Rattle.semigroups.proofs.GapSums.{LeastGapSum}
use Rattle.semigroups.proofs.GapLists.{missing_word, closed_gaps_word, closed_front, closed_gaps_iff}

module _ (w : ℕ) (fits : w < 2 ^ 64) where
  -- the gaps from the smallest on, in two parts
  parts : (n : ℕ) → Ordered ◌<◌ (take n (gaps w) ++ drop n (gaps w))
  parts n = subst (Ordered ◌<◌) (sym (take-append-drop n (gaps w))) (gaps_of w fits).rising

  -- the n smallest gaps are closed just where none of them is a sum of two positive elements of the set of w
  smallest_closed : (n : ℕ) → closed_gaps (smallest_gaps n w) ≡ every (λ x. not (sum_of_two (set_of w) x)) (take n (gaps w))
  unfolding smallest_gaps
  smallest_closed n =
      let whole : set_missing (take n (gaps w) ++ drop n (gaps w)) ≡ set_of w = ap set_missing (take-append-drop n (gaps w)) ∙ fun_ext (missing_word w fits) in
      closed_front (take n (gaps w)) (drop n (gaps w)) (ordered_parts ◌<◌ (take n (gaps w)) (drop n (gaps w)) (parts n)).1
      ∙ ap (λ (S : Set). every (λ x. not (sum_of_two S x)) (take n (gaps w))) whole

  -- and just where the set that misses them and nothing else is a numerical semigroup
  smallest_semigroup : (n : ℕ) → (closed_gaps (smallest_gaps n w) ≡ true) ↔ NumericalSemigroup (opening_set n w)
  unfolding smallest_gaps
  smallest_semigroup n =
      closed_gaps_iff (take n (gaps w)) (ordered_front ◌<◌ (take n (gaps w)) (drop n (gaps w)) (parts n))
      (λ x m. ((gaps_list w).within x (subst (Memᴰ x) (take-append-drop n (gaps w)) (Memᴰ.append_left (drop n (gaps w)) m))).0)

  -- there is no impossible opening exactly when the set of w is closed under addition, however many gaps w has
  pub opening_none : (opening_of w ≡ none) ↔ ClosedUnderAddition (set_of w)
  unfolding opening_of smallest_gaps genus closed
  opening_none = (
    λ e.
        let whole = not-false _ ((least_none _ (run 0 (suc (genus w)))).0 e (genus w) (mem_run 0 (suc (genus w)) (omega arith) (omega arith))) in
        (closed_iff w fits).0 (sym (closed_gaps_word w fits) ∙ ap closed_gaps (sym (take-length (gaps w))) ∙ whole),
    λ c. (least_none _ (run 0 (suc (genus w)))).1 (λ n m. ap not (smallest_closed n ∙ every_take _ (gaps w) ((closed_iff w fits).1 c) n)),
  )

  -- the answer is n exactly when the shortest impossible opening has n gaps
  pub opening_some : (n : ℕ) → (opening_of w ≡ some n) ↔ ShortestImpossible w n
  unfolding opening_of
  opening_some n =
      let least = least_some _ (run 0 (suc (genus w))) (ordered_run 0 (suc (genus w))) n in (
        λ e.
            let (m, fails, first) = least.0 e in
            record {
              has = omega (arith, (run_mem 0 (suc (genus w)) m).1);
              no_semigroup = λ s. not_both ((smallest_semigroup n).1 s) (not-true _ fails);
              shorter = λ k l. (smallest_semigroup k).0 (not-false _ (is_false _ (λ t.
                  omega (arith, first k (mem_run 0 (suc (genus w)) (omega arith) (omega (arith, (run_mem 0 (suc (genus w)) m).1))) t))));
            },
        λ s. least.1 (
          mem_run 0 (suc (genus w)) (omega arith) (omega (arith, s.has)),
          ap not (is_false _ (λ t. s.no_semigroup ((smallest_semigroup n).0 t))),
          λ k m t. le_of_suc-le-suc (lt_of_not-le (λ l. not_both ((smallest_semigroup k).1 (s.shorter k l)) (not-true _ t))),
        ),
      )

  -- the answer is at least 1: without a gap there is the semigroup of all numbers
  pub opening_positive : (n : ℕ) → opening_of w ≡ some n → 1 ≤ n
  unfolding smallest_gaps closed_gaps every
  opening_positive n e = lt_of_not-le (λ l.
      let zero : 0 ≡ n = omega arith in
      ((opening_some n).0 e).no_semigroup (subst (λ (k : ℕ). NumericalSemigroup (opening_set k w)) zero ((smallest_semigroup 0).0 refl)))

  -- the opening just before the answer is that of a semigroup
  pub opening_before : (n : ℕ) → opening_of w ≡ some n → NumericalSemigroup (opening_set (n - 1) w)
  opening_before n e = ((opening_some n).0 e).shorter (n - 1) (omega (arith, opening_positive n e))

  -- every longer opening is impossible too
  pub opening_longer : (n k : ℕ) → opening_of w ≡ some n → n ≤ k → NumericalSemigroup (opening_set k w) → ⊥
  opening_longer n k e h s =
      let p : ℕ → Bool = λ x. not (sum_of_two (set_of w) x) in
      let all = every_take p (take k (gaps w)) (sym (smallest_closed k) ∙ (smallest_semigroup k).1 s) n in
      ((opening_some n).0 e).no_semigroup ((smallest_semigroup n).0 (smallest_closed n ∙ ap (every p) (sym (take-take n k (gaps w) h)) ∙ all))

  -- where x is the first of the gaps that is a sum of two positive elements, it is the last gap of the shortest impossible opening
  pub opening_ends : (k t : List ℕ) (x : ℕ) → k ++ x ∷ t ≡ gaps w → every (λ y. not (sum_of_two (set_of w) y)) k ≡ true → sum_of_two (set_of w) x ≡ true
      → opening_of w ≡ some (suc (length k))
  unfolding opening_of genus
  opening_ends k t x whole others fails =
      let p : ℕ → Bool = λ y. not (sum_of_two (set_of w) y) in
      let test : (n : ℕ) → not (closed_gaps (smallest_gaps n w)) ≡ not (leb n (length k)) =
      λ n. ap not (smallest_closed n ∙ ap (λ (l : List ℕ). every p (take n l)) (sym whole) ∙ every_front p k t x others (ap not fails) n) in
      let room : length k + suc (length t) ≡ genus w = sym (length-append k (x ∷ t)) ∙ ap length whole in
      (least_some _ (run 0 (suc (genus w))) (ordered_run 0 (suc (genus w))) (suc (length k))).1 (
        mem_run 0 (suc (genus w)) (omega arith) (omega arith),
        test (suc (length k)) ∙ ap not (lt-leb (suc (length k)) (length k) (omega arith)),
        λ n m passes. leb-false n (length k) (not-true _ (sym (test n) ∙ passes)),
      )

  -- the gaps around one of them
  gaps_around : (i : ℕ) → i < 64 → set_of w (1 + i) ≡ false
      → gaps_to (set_of w) i ++ (1 + i) ∷ keep (λ x. not (set_of w x)) (run (suc (1 + i)) (63 - i)) ≡ gaps w
  unfolding gaps run
  gaps_around i h gap =
      let all : 64 ≡ i + suc (63 - i) = omega arith in
      sym (ap (gaps_to (set_of w)) all ∙ gaps_to_append (set_of w) i (suc (63 - i)) ∙ ap (λ (l : List ℕ). gaps_to (set_of w) i ++ l) (keep_in _ (1 + i) _ (ap not gap)))

  -- the shortest impossible opening has one gap more than there are below the least one that is a sum of two positive elements
  pub opening_least : (x : ℕ) → LeastGapSum w x → opening_of w ≡ some (genus (w % 2 ^ (x - 1)) + 1)
  opening_least x s =
      let i : ℕ = x - 1 in
      let next : 1 + i ≡ x = omega (arith, gap_pos w x s.gap) in
      let small = mod-le w (2 ^ i) in
      let count : suc (length (gaps_to (set_of w) i)) ≡ genus (w % 2 ^ i) + 1 = omega (arith, gaps_to_ones w fits i, genus_ones (w % 2 ^ i) (omega arith)) in
      opening_ends (gaps_to (set_of w) i) _ (1 + i) (gaps_around i (omega (arith, gap_le_64 w x fits s.gap)) (ap (set_of w) next ∙ s.gap))
      (mem_every _ (gaps_to (set_of w) i) (λ y m.
      let (low, high, out) = gaps_to_mem (set_of w) i m in
      ap not (is_false (sum_of_two (set_of w) y) (λ e. omega (arith, s.least y out e)))))
      (ap (sum_of_two (set_of w)) next ∙ s.sum)
      ∙ ap some count
