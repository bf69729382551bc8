-- What request 2026-11 says of the census: for each genus up to 32 and each lent list of at least 2,210 places, what the list holds
-- afterwards, as sets, as the count and as elementary counts; and the refusals. Assumes nothing.
use Prim.Native.Nat.{ℕ, suc, ◌+◌, ◌*◌, ◌-◌, ◌≤◌, ◌<◌}
use mathlib.Core.Path.{◌≡◌, sym, ap, ap₂, ◌∙◌, subst}
use mathlib.Core.Logic.{◌↔◌}
use mathlib.Core.Bool.{true, ◌&&◌, and-eq-true_iff}
use mathlib.Core.List.Memᴰ
use mathlib.Core.List.{List, [], Memᴰ}
use native.Mathlib.Omega.{arith}
use lib.Dec.{eqb, leb, ltb}
use lib.ListN.{length, get_or, drop}
use borrow.Author.Tests.{le-leb, lt-leb, leb-true, lt-ltb, ltb-true, eqb-true, eq-eqb, ne_eqb}
use Rattle.semigroups.specs.Lists.{run, keep, sum_over, fronted, Ordered}
use Rattle.semigroups.specs.Sets.{Set, MultiplicityOf, ReportedConductorOf}
use Rattle.semigroups.specs.Words.{set_of, largest_gap, conductor, reported_conductor}
use Rattle.semigroups.specs.Elements.{multiplicity}
use Rattle.semigroups.specs.GenusList.{genus_list, AllOf}
use Rattle.semigroups.proofs.Booleans.{true_together}
use Rattle.semigroups.proofs.Lists.{run_mem, keep_mem, sum_same, fronted_at, fronted_rest}
use Rattle.semigroups.proofs.Kept.{keep_same}
use Rattle.semigroups.proofs.GenusList.{word_nonzero, genus_list_mem, kept_all, all_unique}
use Rattle.semigroups.proofs.Elements.{set_multiplicity}
use Rattle.semigroups.proofs.Sets.{multiplicity_unique}
use Rattle.semigroups.proofs.Reported.{reported_unique, reported_conductor_of, conductors_agree}
use Rattle.answers.specs.Answers.{ListAnswer, given, unchanged, giving}
use Rattle.counts.specs.Counts.{count_of}
use Rattle.counts.proofs.Counts.{count_all}
use Rattle.elementary.specs.Elementary.{elementary, elementary_list, elementary_count}
use Rattle.elementary.specs.Answers.{elementary_of}
use Rattle.census.specs.Census.{counts_at, census_list, census_number, census_places, conductor_sum, census_of, MultiplicityAndConductor, InCensus}
use Rattle.census.proofs.Places.{places_length, place_at}
use Rattle.census.proofs.Totals.{places_count, passing_count}

-- ---- as sets

-- the words of multiplicity m and conductor c are those of all numerical semigroups of the genus with these
pub census_list_all : (g m c : ℕ) → g ≤ 32 → AllOf (InCensus g m c) (census_list g m c)
unfolding counts_at census_list
census_list_all g m c few =
    kept_all g few (MultiplicityAndConductor m c) (counts_at m c) (λ w fits. (
      (λ e. let (a, b) = (both w).0 e in record {
        multiplicity = subst (MultiplicityOf (set_of w)) (eqb-true (multiplicity w) m a) (set_multiplicity w fits);
        conductor = subst (ReportedConductorOf (set_of w)) (eqb-true (reported_conductor w) c b) (reported_conductor_of w fits);
      }),
      (λ h. (both w).1 (
        eq-eqb (multiplicity w) m (multiplicity_unique (set_of w) (multiplicity w) m (set_multiplicity w fits) h.multiplicity),
        eq-eqb (reported_conductor w) c (reported_unique (set_of w) (reported_conductor w) c (reported_conductor_of w fits) h.conductor),
      )),
    ))
  where
    both : (w : ℕ) → ((eqb (multiplicity w) m && eqb (reported_conductor w) c) ≡ true) ↔ ((eqb (multiplicity w) m ≡ true) × (eqb (reported_conductor w) c ≡ true))
    both w = and-eq-true_iff (eqb (multiplicity w) m) (eqb (reported_conductor w) c)

-- ---- by the questions

module _ (g : ℕ) (lent : List ℕ) where
  pub refused_genus : 32 < g → census_of g lent ≡ unchanged lent 3
  unfolding census_of
  refused_genus h = rw (lt-leb g 32 h)

  pub refused_list : g ≤ 32 → length lent < 2210 → census_of g lent ≡ unchanged lent 6
  unfolding census_of
  refused_list h k = rw (le-leb g 32 h, lt-leb 2210 (length lent) k)

  pub census_given : g ≤ 32 → 2210 ≤ length lent → census_of g lent ≡ giving (conductor_sum g) (fronted (census_places g) lent)
  unfolding census_of
  census_given h k = rw (le-leb g 32 h, le-leb 2210 (length lent) k)

-- ---- a census that is given

module _ (g : ℕ) (few : g ≤ 32) (lent : List ℕ) (room : 2210 ≤ length lent) where
  -- the list afterwards
  abbrev after : List ℕ
  after = (census_of g lent).list

  -- the numbers at its first places
  at_first : (p : ℕ) → p < 2210 → get_or after p 0 ≡ get_or (census_places g) p 0
  at_first p h = ap (λ (a : ListAnswer). get_or a.list p 0) (census_given g lent few room) ∙ fronted_at (census_places g) lent p (omega (arith, places_length g))

  -- the rest of a longer list stays
  pub rest_stays : drop 2210 (census_of g lent).list ≡ drop 2210 lent
  rest_stays =
      ap (λ (a : ListAnswer). drop 2210 a.list) (census_given g lent few room)
      ∙ rw (places_length g) at (fronted_rest (census_places g) lent)

  -- place 65 m + c has the number of the numerical semigroups, as sets, with the genus, multiplicity m and reported conductor c: the length of
  -- the list of all of them
  pub place_counts : (m c : ℕ) → m ≤ 33 → c ≤ 64 → (l : List ℕ) → AllOf (InCensus g m c) l → get_or (census_of g lent).list (65 * m + c) 0 ≡ length l
  unfolding census_number
  place_counts m c h k l all =
      at_first (65 * m + c) (omega arith) ∙ place_at g m c h k ∙ ap length (all_unique (InCensus g m c) (census_list g m c) l (census_list_all g m c few) all)

  -- so that it has 0 where there are none
  pub place_without_any : (m c : ℕ) → m ≤ 33 → c ≤ 64 → ((S : Set) → InCensus g m c S → ⊥) → get_or (census_of g lent).list (65 * m + c) 0 ≡ 0
  unfolding Ordered
  place_without_any m c h k absent = place_counts m c h k [] record {
    fits = λ w i. absurd (Memᴰ.not-nil i);
    only = λ w i. absurd (Memᴰ.not-nil i);
    all = λ S e. absurd (absent S e);
    ordered = tt;
    once = λ w i j. absurd (Memᴰ.not-nil i);
  }

  -- all places together make the count of the genus
  pub places_make_count : count_of 0 g ≡ given (sum_over (λ p. get_or (census_of g lent).list p 0) (run 0 2210))
  places_make_count =
      count_all g few ∙ ap given (sym (places_count g few) ∙ sym (sum_same _ _ (run 0 2210) (λ p i. at_first p (omega (arith, run_mem 0 2210 i)))))

  -- a word of the genus, which has gaps, is elementary with the largest gap c - 1 where its conductor is c and c is at most twice its multiplicity
  elementary_test : 1 ≤ g → (c : ℕ) → 1 ≤ c → (w : ℕ) → Memᴰ w (genus_list g)
      → elementary (c - 1) w ≡ (eqb (reported_conductor w) c && leb c (2 * multiplicity w))
  unfolding elementary conductor
  elementary_test some c h w i =
      let o = genus_list_mem g i in
      let nonzero = word_nonzero o some in
      let F : ℕ = largest_gap w in
      let n : ℕ = 2 * multiplicity w in
      rw (ne_eqb w 0 nonzero, conductors_agree w o.fits nonzero)
      (ap₂ ◌&&◌ (true_together (eqb F (c - 1)) (eqb (suc F) c) (λ e. eq-eqb (suc F) c (omega (arith, eqb-true F (c - 1) e))) (λ e. eq-eqb F (c - 1) (omega (arith, eqb-true (suc F) c e))))
      (true_together (ltb (c - 1) n) (leb c n) (λ e. le-leb c n (omega (arith, ltb-true (c - 1) n e))) (λ e. lt-ltb (c - 1) n (omega (arith, leb-true c n e)))))

  -- for genus 1 and up, the places of c from 1 to 64 where c is at most 2 m make the elementary count for the largest gap c - 1
  pub places_make_elementary : 1 ≤ g → (c : ℕ) → 1 ≤ c → c ≤ 64
      → elementary_of (c - 1) g ≡ given (sum_over (λ m. get_or (census_of g lent).list (65 * m + c) 0) (keep (λ m. leb c (2 * m)) (run 0 34)))
  unfolding elementary_of elementary_count elementary_list
  places_make_elementary some c h k =
      rw (le-leb g 32 few) (ap given (
      ap length (keep_same _ _ (genus_list g) (elementary_test some c h))
      ∙ sym (passing_count g few c (λ m. leb c (2 * m)))
      ∙ sum_same _ _ (keep (λ m. leb c (2 * m)) (run 0 34)) (λ m i.
      let low : m ≤ 33 = omega (arith, run_mem 0 34 (keep_mem (λ m. leb c (2 * m)) (run 0 34) i).0) in
      sym (at_first (65 * m + c) (omega arith) ∙ place_at g m c low k))))
