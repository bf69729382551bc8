-- Numerical semigroups by the lists of their gaps, of any genus: which lists they are, the lists that go on from the gaps of a word, and that up
-- to genus 32 these are the gaps of the descendants of the word. Assumes nothing.
use Prim.Native.Nat.{ℕ, suc, ◌+◌, ◌^◌, ◌≤◌, ◌<◌}
use mathlib.Core.Path.{◌≡◌, refl, sym, ◌∙◌, ap, ap₂, subst, fun_ext}
use mathlib.Core.Logic.{◌↔◌, ⊎_elim}
use mathlib.Core.Bool.{Bool, true, false, not, ◌&&◌, and-true, and_comm, and-eq-true_iff}
use mathlib.Core.List.Memᴰ
use mathlib.Core.List.{List, [], ◌∷◌, ◌++◌, append_assoc, map, is_set, Memᴰ}
use native.Mathlib.Omega.{arith}
use native.Mathlib.Nat.{ℕ_set}
use lib.Dec.{eqb}
use lib.ListN.{length, length-append, length-map}
use borrow.Author.Tests.{eqb-true, eq-eqb, not-true, not-false}
use Rattle.semigroups.specs.Lists.{every, last_or, Ordered}
use Rattle.semigroups.specs.Sets.{Set, without, sum_of_two, NumericalSemigroup, GapsOf}
use Rattle.semigroups.specs.Words.{set_of, gaps, genus, conductor, closed}
use Rattle.semigroups.specs.Elements.{generator}
use Rattle.semigroups.specs.GenusList.{risings, descendants, descendant_count, Before, Earlier, AllOf}
use Rattle.semigroups.specs.GapLists.{set_missing, closed_gaps, extensions, Extends, AllGapLists}
use Rattle.semigroups.proofs.Booleans.{not_both, is_true, is_false}
use Rattle.semigroups.proofs.Lists.{Rising, rising_nil, rising_cons, rising_tail, keep_mem, mem_keep, every_mem, every_same, every_false, every_append, ordered_parts, ordered_keep, ordered_map, ordered_once, ordered_unique, le_last}
use Rattle.semigroups.proofs.Sets.{same_sums, sums_below, gaps_unique, same_of_gaps, gap_positive, closed_by_gaps}
use Rattle.semigroups.proofs.Words.{gaps_mem, gaps_of}
use Rattle.semigroups.proofs.Counting.{gap_bound}
use Rattle.semigroups.proofs.Elements.{rise_behind, behind_conductor, gap_below_conductor, generator_from_conductor}
use Rattle.semigroups.proofs.Closure.{closed_semigroup}
use Rattle.semigroups.proofs.ListOrder.{before_asym, earlier_asym, before_append}
use Rattle.semigroups.proofs.GenusList.{risings_mem, mem_risings, risings_ordered, genus_list_mem, genus_list_complete}
use Rattle.semigroups.proofs.Tree.{descendants_mem, mem_descendants, descendants_ordered, others_length}

-- ---- the set that misses the numbers of a list

-- it misses just these
pub missing_iff : (l : List ℕ) (x : ℕ) → (set_missing l x ≡ false) ↔ Memᴰ x l
unfolding set_missing
missing_iff l x = (
  λ e. let (y, m, f) = every_false _ l e in Memᴰ.cast (eqb-true x y (not-false _ f)) m,
  λ m. is_false (every _ l) (λ t. not_both (eq-eqb x x refl) (not-true _ (every_mem _ l t m))),
)

-- so that a rising list is the list of its gaps
pub missing_gaps : (l : List ℕ) → Ordered ◌<◌ l → GapsOf (set_missing l) l
missing_gaps l o = record { rising = o; missed = λ x m. (missing_iff l x).1 m; all = λ x e. (missing_iff l x).0 e }

-- a set is the one that misses its gaps
missing_same : (S : Set) (l : List ℕ) → GapsOf S l → (x : ℕ) → set_missing l x ≡ S x
missing_same S l g = same_of_gaps (set_missing l) S l (missing_gaps l g.rising) g

-- so that the set of a word is the one that misses the gaps of the word
pub missing_word : (w : ℕ) → w < 2 ^ 64 → (x : ℕ) → set_missing (gaps w) x ≡ set_of w x
missing_word w fits = missing_same (set_of w) (gaps w) (gaps_of w fits)

-- the test of its gaps is the test of the word
pub closed_gaps_word : (w : ℕ) → w < 2 ^ 64 → closed_gaps (gaps w) ≡ closed w
unfolding closed_gaps closed
closed_gaps_word w fits = ap (λ (S : Set). every (λ x. not (sum_of_two S x)) (gaps w)) (fun_ext (missing_word w fits))

-- ---- one gap more

-- with one gap more, the set is without it
pub missing_more : (k : List ℕ) (x y : ℕ) → set_missing (k ++ x ∷ []) y ≡ without x (set_missing k) y
unfolding set_missing every
missing_more k x y =
    every_append _ k (x ∷ []) ∙ ap (λ (b : Bool). set_missing k y && b) (and-true (not (eqb y x))) ∙ and_comm (set_missing k y) (not (eqb y x))

-- the test of a list stays the same where the set misses larger numbers too: what a number is a sum of is smaller
pub closed_front : (k t : List ℕ) → ((y z : ℕ) → Memᴰ y k → Memᴰ z t → y < z) → closed_gaps k ≡ every (λ y. not (sum_of_two (set_missing (k ++ t)) y)) k
unfolding closed_gaps set_missing
closed_front k t apart =
    every_same _ _ k (λ y m. ap not (same_sums (set_missing k) (set_missing (k ++ t)) y
    (λ a b a-pos b-pos sum a_in b-in. every_append _ k t ∙ (and-eq-true_iff (set_missing k a) (set_missing t a)).1
    (a_in, is_true (set_missing t a) (λ e. omega (arith, apart y a m ((missing_iff t a).0 e)))))
    (λ a b a-pos b-pos sum a_in b-in. ((and-eq-true_iff (set_missing k a) (set_missing t a)).0 (sym (every_append _ k t) ∙ a_in)).0)))

-- one gap more behind smaller ones: closed where the list was and the new gap is no sum of two positive elements
pub closed_more : (k : List ℕ) (x : ℕ) → ((y : ℕ) → Memᴰ y k → y < x) → closed_gaps (k ++ x ∷ []) ≡ (closed_gaps k && not (sum_of_two (set_missing k) x))
unfolding closed_gaps every
closed_more k x h =
    let p : ℕ → Bool = λ y. not (sum_of_two (set_missing (k ++ x ∷ [])) y) in
    every_append p k (x ∷ [])
    ∙ ap₂ ◌&&◌ (sym (closed_front k (x ∷ []) (λ y z m n. omega (arith, h y m, Memᴰ.eq_of_singleton n))))
    (and-true (p x) ∙ ap (λ (S : Set). not (sum_of_two S x)) (fun_ext (missing_more k x)) ∙ ap not (sums_below x (set_missing k) x (omega arith)))

-- a rising list of positive numbers is closed just where it is the gap list of a numerical semigroup
pub closed_gaps_iff : (l : List ℕ) → Ordered ◌<◌ l → ((x : ℕ) → Memᴰ x l → 0 < x) → (closed_gaps l ≡ true) ↔ NumericalSemigroup (set_missing l)
unfolding closed_gaps Ordered
closed_gaps_iff l o positive =
    let test = closed_by_gaps (set_missing l) l (missing_gaps l o) in (
      λ c. record {
        zero_in = is_true (set_missing l 0) (λ e. omega (arith, positive 0 ((missing_iff l 0).0 e)));
        closed = test.0 c;
        cofinite = (
          suc (last_or 0 l),
          λ x h. is_true (set_missing l x) (λ e. omega (arith, le_last 0 l (positive, o) (Memᴰ.tail ((missing_iff l x).0 e)))),
        );
      },
      λ s. test.1 s.closed,
    )

-- ---- lists of gap lists

-- in list order each stands once
lists_once : (l : List (List ℕ)) → Ordered Before l → (k : List ℕ) (i j : Memᴰ k l) → i ≡ j
lists_once = ordered_once Before before_asym (is_set ℕ_set)

-- there is one list of all gap lists of the sets with P
pub gap_lists_unique : (P : Set → Type 0) (k l : List (List ℕ)) → AllGapLists P k → AllGapLists P l → k ≡ l
gap_lists_unique P k l a b = ordered_unique Before before_asym k l a.ordered b.ordered (holds k l a b) (holds l k b a)
  where
    holds : (k l : List (List ℕ)) → AllGapLists P k → AllGapLists P l → (x : List ℕ) → Memᴰ x k → Memᴰ x l
    holds k l a b x m =
        let (S, p, g) = a.only x m in
        let (y, h, n) = b.all S p in
        Memᴰ.cast (gaps_unique S x y g h) n

-- a list of the words of all sets with P gives that of their gap lists
all_gap_lists : (P : Set → Type 0) (l : List ℕ) → AllOf P l → AllGapLists P (map gaps l)
all_gap_lists P l a =
    let ordered = ordered_map Earlier Before gaps l a.ordered (λ u v i j b. b) in
    record {
      only = λ k m.
          let (v, i, e) = Memᴰ.of_map gaps l m in
          (set_of v, a.only v i, subst (GapsOf (set_of v)) e (gaps_of v (a.fits v i)));
      all = λ S p.
          let (v, same, i) = a.all S p in
          (gaps v, subst (λ (T : Set). GapsOf T (gaps v)) (fun_ext same) (gaps_of v (a.fits v i)), Memᴰ.map gaps i);
      ordered = ordered;
      once = lists_once (map gaps l) ordered;
    }

-- ---- the lists that go on from the gaps of a word

module _ (r w : ℕ) where
  -- the genus with r gaps more
  abbrev g : ℕ
  g = genus w + r

  -- behind the gaps of w each has r numbers from the conductor on, and it is closed
  extensions_mem : {k : List ℕ} → Memᴰ k (extensions r w)
      → (l : List ℕ) × (hi : ℕ) × (gaps w ++ l ≡ k) × Rising (conductor w) hi l × (length l ≡ r) × (closed_gaps k ≡ true)
  unfolding extensions
  extensions_mem m =
      let (i, c) = keep_mem closed_gaps _ m in
      let (l, j, e) = Memᴰ.of_map (λ l. gaps w ++ l) (risings r (conductor w) _) i in
      let (rise, count) = risings_mem r (conductor w) _ j in
      (l, _, e, rise, count, c)

  -- the gap list of a numerical semigroup with r gaps behind those of w is one of them
  mem_extensions : (S : Set) (l : List ℕ) → NumericalSemigroup S → GapsOf S (gaps w ++ l) → length l ≡ r → Memᴰ (gaps w ++ l) (extensions r w)
  unfolding extensions genus Ordered
  mem_extensions S l s o count =
      let all : length (gaps w ++ l) ≡ g = omega (arith, length-append (gaps w) l) in
      let positive : (x : ℕ) → Memᴰ x (gaps w ++ l) → 0 < x = λ x m. gap_positive S s.zero_in x (o.missed x m) in
      mem_keep closed_gaps _ (Memᴰ.map (λ l. gaps w ++ l) (mem_risings r (conductor w) _ l (
        record {
          ordered = (ordered_parts ◌<◌ (gaps w) l o.rising).0;
          within = λ x m. (
            behind_conductor w l (positive, o.rising) x m,
            omega (arith, gap_bound S (gaps w ++ l) g s o all x (Memᴰ.append_right (gaps w) m)),
          );
        },
        count,
      )))
      ((closed_gaps_iff (gaps w ++ l) o.rising positive).1 (subst NumericalSemigroup (sym (fun_ext (missing_same S (gaps w ++ l) o))) s))

  -- they are in list order
  extensions_ordered : Ordered Before (extensions r w)
  unfolding extensions
  extensions_ordered =
      ordered_keep Before closed_gaps _
      (ordered_map Before Before (λ l. gaps w ++ l) (risings r (conductor w) _) (risings_ordered r (conductor w) _)
      (λ k l i j. before_append (gaps w) k l))

  -- they are the gap lists of the numerical semigroups with r gaps more than w whose smallest gaps are those of w
  pub extensions_all : AllGapLists (Extends r w) (extensions r w)
  unfolding Ordered
  extensions_all = record {
    only = λ k m.
        let (l, hi, e, rise, count, c) = extensions_mem m in
        let (positive, order) = subst (λ (k : List ℕ). Ordered ◌<◌ (0 ∷ k)) e (rise_behind w l rise) in
        let o : GapsOf (set_missing k) k = missing_gaps k order in
        (set_missing k, ((closed_gaps_iff k order positive).0 c, (l, subst (GapsOf (set_missing k)) (sym e) o, count)), o);
    all = λ S (s, (l, o, count)). (gaps w ++ l, o, mem_extensions S l s o count);
    ordered = extensions_ordered;
    once = lists_once (extensions r w) extensions_ordered;
  }

  -- up to genus 32 the descendants of w are the words of these
  pub descendants_all : genus w + r ≤ 32 → AllOf (Extends r w) (descendants (genus w + r) w)
  unfolding genus
  descendants_all range = record {
    fits = λ v m. (descendants_mem g w m).word.fits;
    only = λ v m.
        let d = descendants_mem g w m in
        let count : length d.others ≡ r = omega (arith, others_length g w d) in
        (closed_semigroup v d.word.fits d.word.closed, (d.others, subst (GapsOf (set_of v)) (sym d.split) (gaps_of v d.word.fits), count));
    all = λ S (s, (l, o, count)).
        let (v, fits, same, m) = genus_list_complete S g s (gaps w ++ l, o, omega (arith, length-append (gaps w) l)) range in
        let p : GapsOf S (gaps v) = subst (λ (T : Set). GapsOf T (gaps v)) (fun_ext same) (gaps_of v fits) in
        (v, same, mem_descendants g w v record { word = genus_list_mem g m; others = l; split = gaps_unique S (gaps w ++ l) (gaps v) o p });
    ordered = descendants_ordered g w;
    once = ordered_once Earlier earlier_asym ℕ_set (descendants g w) (descendants_ordered g w);
  }

  -- so they are the gaps of the descendants, in the order of the genus list
  pub extensions_descendants : genus w + r ≤ 32 → extensions r w ≡ map gaps (descendants (genus w + r) w)
  extensions_descendants range =
      gap_lists_unique (Extends r w) (extensions r w) (map gaps (descendants g w)) extensions_all
      (all_gap_lists (Extends r w) (descendants g w) (descendants_all range))

  -- and as many
  pub extensions_count : genus w + r ≤ 32 → length (extensions r w) ≡ descendant_count (genus w + r) w
  unfolding descendant_count
  extensions_count range = ap length (extensions_descendants range) ∙ length-map (descendants g w) gaps

-- ---- two gaps more

-- a list of two
two_of : (l : List ℕ) → length l ≡ 2 → (x : ℕ) × (y : ℕ) × (x ∷ y ∷ [] ≡ l)
two_of [] e = absurd (omega arith)
two_of (x ∷ []) e = absurd (omega arith)
two_of (x ∷ y ∷ []) e = (x, y, refl)
two_of (x ∷ y ∷ z ∷ l) e = absurd (omega arith)

module _ (w : ℕ) (fits : w < 2 ^ 64) where
  -- the gaps of w and two from the conductor on are closed where w is, the first is a generator, and the second no sum without the first
  closed_two_more : (x y : ℕ) → conductor w ≤ x → x < y
      → closed_gaps (gaps w ++ x ∷ y ∷ []) ≡ (closed w && generator w x && not (sum_of_two (without x (set_of w)) y))
  closed_two_more x y high less =
      let set : set_missing (gaps w) ≡ set_of w = fun_ext (missing_word w fits) in
      let below : (z : ℕ) → Memᴰ z (gaps w) → z < x = λ z m. omega (arith, gap_below_conductor w fits z (gaps_mem w m)) in
      ap closed_gaps (sym (append_assoc (gaps w) (x ∷ []) (y ∷ [])))
      ∙ closed_more (gaps w ++ x ∷ []) y
      (λ z m. ⊎_elim (λ i. omega (arith, below z i)) (λ i. omega (arith, Memᴰ.eq_of_singleton i)) (Memᴰ.append_cases (gaps w) m))
      ∙ ap₂ ◌&&◌
      (closed_more (gaps w) x below
      ∙ ap₂ ◌&&◌ (closed_gaps_word w fits) (ap (λ (S : Set). not (sum_of_two S x)) set ∙ sym (generator_from_conductor w fits x high)))
      (ap (λ (S : Set). not (sum_of_two S y)) (fun_ext (missing_more (gaps w) x) ∙ ap (without x) set))

  -- the gap lists with two gaps more than a closed word: a generator not below the conductor, and behind it what is no sum without it
  pub two_more_iff : closed w ≡ true → (k : List ℕ) → Memᴰ k (extensions 2 w) ↔ ((x : ℕ) × (y : ℕ) × (conductor w ≤ x) × (x < y)
      × (generator w x ≡ true) × (sum_of_two (without x (set_of w)) y ≡ false) × (gaps w ++ x ∷ y ∷ [] ≡ k))
  unfolding Ordered
  two_more_iff c k = (
    λ m.
        let (l, hi, e, rise, count, t) = extensions_mem 2 w m in
        let (x, y, q) = two_of l count in
        let both = subst (Rising (conductor w) _) (sym q) rise in
        let high : conductor w ≤ x = (both.within x (Memᴰ.head refl)).0 in
        let less : x < y = ((rising_tail both).within y (Memᴰ.head refl)).0 in
        let split : gaps w ++ x ∷ y ∷ [] ≡ k = ap (λ (l : List ℕ). gaps w ++ l) q ∙ e in
        let (p, no_sum) = (and-eq-true_iff (closed w && generator w x) _).0 (sym (closed_two_more x y high less) ∙ ap closed_gaps split ∙ t) in
        (x, y, high, less, ((and-eq-true_iff (closed w) (generator w x)).0 p).1, not-true _ no_sum, split),
    λ (x, y, high, less, generates, no_sum, split).
        let l : List ℕ = x ∷ y ∷ [] in
        let t : closed_gaps (gaps w ++ l) ≡ true = closed_two_more x y high less ∙ rw (c, generates, no_sum) in
        let (positive, order) = rise_behind w {hi = suc y} l (rising_cons high (omega arith) (rising_cons less (omega arith) rising_nil)) in
        Memᴰ.cast (sym split) (mem_extensions 2 w (set_missing (gaps w ++ l)) l ((closed_gaps_iff (gaps w ++ l) order positive).0 t)
        (missing_gaps (gaps w ++ l) order) refl),
  )
