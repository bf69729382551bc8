-- The number of elementary semigroups of genus g with the largest gap F (corollary 4 of source 002). Assumes nothing.
use Prim.Native.Nat.{ℕ, ◌+◌, ◌-◌, ◌*◌, ◌/◌, ◌≤◌, ◌<◌}
use mathlib.Core.Path.{◌≡◌, sym, ◌∙◌, ap, subst, subst₂}
use mathlib.Core.Logic.{◌↔◌}
use mathlib.Core.Bool.{true, and-eq-true_iff}
use mathlib.Core.List.Memᴰ
use mathlib.Core.List.{List, map, Memᴰ}
use native.Mathlib.Omega.{arith}
use lib.Dec.{leb, ltb}
use lib.ListN.{length, length-map}
use borrow.Author.Tests.{leb-true, le-leb, ltb-true, lt-ltb, lt-leb}
use Rattle.semigroups.specs.Words.{gaps, genus, word_of}
use Rattle.semigroups.specs.GenusList.{genus_list, Before, Earlier}
use Rattle.semigroups.proofs.Booleans.{not_both, by_value}
use Rattle.semigroups.proofs.Lists.{nothing, keep_mem, mem_keep, ordered_keep, ordered_map, ordered_unique}
use Rattle.semigroups.proofs.Words.{GapList, word_lt, gaps_of_word, word_of_gaps}
use Rattle.semigroups.proofs.Closure.{closed_iff}
use Rattle.semigroups.proofs.ListOrder.{earlier_asym}
use Rattle.semigroups.proofs.GenusList.{genus_list_mem, mem_genus_list, genus_list_ordered, kept_all}
use Rattle.answers.specs.Answers.{refused, given}
use Rattle.elementary.specs.Elementary.{IsElementary, elementary, elementary_list, elementary_count, AllElementary, binomial, in_range, formula}
use Rattle.elementary.specs.Answers.{elementary_of}
use Rattle.elementary.proofs.Gaps.{ElementaryGaps, elementary_range, gap_lists, length_gap_lists, gap_lists_mem, mem_gap_lists, gap_lists_ordered}
use Rattle.elementary.proofs.Words.{elementary_iff, elementary_gaps, gaps_elementary, gaps_closed}

module _ (F g : ℕ) (small : g ≤ 32) where
  counted_gaps : {w : ℕ} → Memᴰ w (elementary_list F g) → ElementaryGaps F g (gaps w)
  unfolding elementary_list
  counted_gaps {w} m =
      let (i, t) = keep_mem (elementary F) (genus_list g) m in
      let c = genus_list_mem g i in
      subst (λ (n : ℕ). ElementaryGaps F n (gaps w)) c.gapped (elementary_gaps F w c.fits ((elementary_iff F w c.fits).0 t))

  gap_list : {k : List ℕ} → ElementaryGaps F g k → GapList 1 k
  gap_list {k} e = record {
    ordered = e.rising.ordered;
    within = λ x m. omega (arith, e.rising.within x m, elementary_range F g k e);
  }

  gaps_counted : (k : List ℕ) → ElementaryGaps F g k → Memᴰ (word_of k) (elementary_list F g)
  unfolding elementary_list genus
  gaps_counted k e =
      let l = gap_list e in
      let w = word_of k in
      let h = word_lt k l in
      let i : ElementaryGaps F g (gaps w) = rw (gaps_of_word k l) e in
      mem_keep (elementary F) (genus_list g)
      (mem_genus_list g w (record { fits = h; closed = (closed_iff w h).1 (gaps_closed F w h g i); gapped = i.size }))
      ((elementary_iff F w h).1 (gaps_elementary F w h g i))

  -- the words of the list are those of the lists of gaps, in list order
  counted_words : g ≤ F → F < 2 * g → elementary_list F g ≡ map word_of (gap_lists F g)
  unfolding elementary_list
  counted_words a b =
      ordered_unique Earlier earlier_asym (elementary_list F g) (map word_of (gap_lists F g))
      (ordered_keep Earlier (elementary F) (genus_list g) (genus_list_ordered g))
      (ordered_map Before Earlier word_of (gap_lists F g) (gap_lists_ordered F g) (λ k l m n. subst₂ Before (sym (same k m)) (sym (same l n))))
      (λ w m. Memᴰ.cast (sym (word_of_gaps w (genus_list_mem g (keep_mem (elementary F) (genus_list g) m).0).fits))
      (Memᴰ.map word_of (mem_gap_lists F g (gaps w) (counted_gaps m))))
      (λ w m. let (k, i, e) = Memᴰ.of_map word_of (gap_lists F g) m in Memᴰ.cast (sym e) (gaps_counted k (gap_lists_mem F g a b i)))
    where
      same : (k : List ℕ) → Memᴰ k (gap_lists F g) → gaps (word_of k) ≡ k
      same k m = gaps_of_word k (gap_list (gap_lists_mem F g a b m))

  -- the list has all such semigroups, as sets of whole numbers, and no other, each once
  pub elementary_list_all : AllElementary F g (elementary_list F g)
  unfolding elementary_list
  elementary_list_all = kept_all g small (λ S. IsElementary S F) (elementary F) (elementary_iff F)

  -- for F from g to 2 g - 1 their number is the binomial
  pub count_inside : g ≤ F → F < 2 * g → elementary_count F g ≡ binomial ((F + 1) / 2 - 1) (F - g)
  unfolding elementary_count
  count_inside a b = ap length (counted_words a b) ∙ length-map (gap_lists F g) word_of ∙ length_gap_lists F g

  -- for any other F there are none
  pub count_outside : (g ≤ F → F < 2 * g → ⊥) → elementary_count F g ≡ 0
  unfolding elementary_count
  count_outside h = ap length (nothing (elementary_list F g) λ w m. let (a, b) = elementary_range F g (gaps w) (counted_gaps m) in h a b)

  -- the test of the range
  range_iff : (in_range F g ≡ true) ↔ ((g ≤ F) × (F < 2 * g))
  unfolding in_range
  range_iff = (
    λ e. let (a, b) = (and-eq-true_iff (leb g F) (ltb F (2 * g))).0 e in (leb-true g F a, ltb-true F (2 * g) b),
    λ (a, b). (and-eq-true_iff (leb g F) (ltb F (2 * g))).1 (le-leb g F a, lt-ltb F (2 * g) b),
  )

  -- the number of the semigroups is that of the formula
  pub count_formula : elementary_count F g ≡ formula F g
  unfolding formula
  count_formula =
      by_value (in_range F g)
      (λ e. let (a, b) = range_iff.0 e in rw e (count_inside a b))
      (λ e. rw e (count_outside (λ a b. not_both (range_iff.1 (a, b)) e)))

-- corollary 4, of the call: for each genus up to 32 it gives the number of the formula
pub elementary_formula : (F g : ℕ) → g ≤ 32 → elementary_of F g ≡ given (formula F g)
unfolding elementary_of
elementary_formula F g h = rw (le-leb g 32 h, count_formula F g h)

-- the answer by the arguments: a genus above 32, a largest gap inside the range, and one outside

pub elementary_refused : (F g : ℕ) → 32 < g → elementary_of F g ≡ refused 3
unfolding elementary_of
elementary_refused F g large = rw (lt-leb g 32 large)

pub elementary_inside : (F g : ℕ) → g ≤ 32 → g ≤ F → F < 2 * g → elementary_of F g ≡ given (binomial ((F + 1) / 2 - 1) (F - g))
unfolding elementary_of
elementary_inside F g small a b = rw (le-leb g 32 small, count_inside F g small a b)

pub elementary_outside : (F g : ℕ) → g ≤ 32 → (g ≤ F → F < 2 * g → ⊥) → elementary_of F g ≡ given 0
unfolding elementary_of
elementary_outside F g small out = rw (le-leb g 32 small, count_outside F g small out)
