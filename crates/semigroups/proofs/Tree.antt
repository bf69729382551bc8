-- The tree: the descendants of a word at a genus above its own are those of its children, one for each right generator.
-- Assumes nothing.
use Prim.Native.Nat.{ℕ, zero, suc, ◌+◌, ◌-◌, ◌^◌, ◌≤◌, ◌<◌}
use mathlib.Core.Path.{◌≡◌, refl, sym, ◌∙◌, ap, subst, subst₂}
use mathlib.Core.Logic.{◌↔◌, inl, ⊎_elim}
use mathlib.Core.Bool.{true, not}
use mathlib.Core.List.Memᴰ
use mathlib.Core.List.{List, [], ◌∷◌, ◌++◌, append_assoc, append-nil, Memᴰ}
use native.Mathlib.Omega.{arith}
use native.Mathlib.Nat.{le_trans, le_of_eq, le_antisymm}
use lib.ListN.{length, take, length-append}
use lib.Pow.{pow_pos, pow_mono}
use borrow.Author.Tests.{not-true}
use Rattle.semigroups.specs.Lists.{joined, sum_over, begins, Ordered}
use Rattle.semigroups.specs.Sets.{sum_of_two}
use Rattle.semigroups.specs.Words.{set_of, gaps, genus, conductor, closed, child_word}
use Rattle.semigroups.specs.Elements.{multiplicity, generator, right_generators}
use Rattle.semigroups.specs.GenusList.{genus_list, descendants, descendant_count, Before, Earlier}
use Rattle.semigroups.specs.Children.{Child}
use Rattle.semigroups.proofs.Booleans.{not_both, is_true, is_false}
use Rattle.semigroups.proofs.Lists.{nothing, ordered_one, keep_mem, mem_keep, ordered_keep, ordered_parts, ordered_unique, ordered_joined, joined_mem, mem_joined, every_mem, length_joined, sum_of_powers, begins_append, begins_rest, begins_iff}
use Rattle.semigroups.proofs.Sets.{sum_carried}
use Rattle.semigroups.proofs.Words.{gaps_mem, mem_gaps, gaps_list, gaps_rise, same_gaps, gaps_zero, genus_zero, closed_zero}
use Rattle.semigroups.proofs.Elements.{behind_conductor, conductor_pos, multiplicity_in, multiplicity_pos, multiplicity_least, generator_from_conductor, mem_right_generators, right_generators_ordered}
use Rattle.semigroups.proofs.Children.{child_at_generator, child_fits, child_gaps}
use Rattle.semigroups.proofs.ListOrder.{earlier_asym, before_append}
use Rattle.semigroups.proofs.GenusList.{WordOfGenus, genus_list_mem, mem_genus_list, genus_list_ordered}

-- ---- the descendants of a word

-- v is a closed word of genus g whose gaps are those of w and then others
pub record Descendant (g w v : ℕ) : Type 0 where
  pub word : WordOfGenus g v
  pub others : List ℕ
  pub split : gaps w ++ others ≡ gaps v

module _ (g w : ℕ) where
  pub descendants_mem : {v : ℕ} → Memᴰ v (descendants g w) → Descendant g w v
  unfolding descendants
  descendants_mem {v} m =
      let (i, e) = keep_mem _ (genus_list g) m in
      let (l, s) = begins_rest (gaps w) (gaps v) e in
      record { word = genus_list_mem g i; others = l; split = s }

  pub mem_descendants : (v : ℕ) → Descendant g w v → Memᴰ v (descendants g w)
  unfolding descendants
  mem_descendants v d =
      mem_keep _ (genus_list g) (mem_genus_list g v d.word) (ap (begins (gaps w)) (sym d.split) ∙ begins_append (gaps w) d.others)

  -- a descendant's smallest gaps are those of w
  pub descendants_iff : (v : ℕ) → Memᴰ v (descendants g w) ↔ (Memᴰ v (genus_list g) × (take (genus w) (gaps v) ≡ gaps w))
  unfolding descendants genus
  descendants_iff v = (
    λ m. let (i, e) = keep_mem _ (genus_list g) m in (i, (begins_iff (gaps w) (gaps v)).0 e),
    λ (i, e). mem_keep _ (genus_list g) i ((begins_iff (gaps w) (gaps v)).1 e),
  )

  pub descendants_ordered : Ordered Earlier (descendants g w)
  unfolding descendants
  descendants_ordered = ordered_keep Earlier _ (genus_list g) (genus_list_ordered g)

  -- a list in list order that holds the descendants and nothing else is that of the descendants
  pub descendants_unique : (l : List ℕ) → Ordered Earlier l → ((v : ℕ) → Descendant g w v → Memᴰ v l) → ((v : ℕ) → Memᴰ v l → Descendant g w v)
      → descendants g w ≡ l
  descendants_unique l o f h =
      ordered_unique Earlier earlier_asym (descendants g w) l descendants_ordered o (λ v m. f v (descendants_mem m)) (λ v m. mem_descendants v (h v m))

  -- as many others as the genus is larger
  pub others_length : {v : ℕ} (d : Descendant g w v) → genus w + length d.others ≡ g
  unfolding genus
  others_length d = sym (length-append (gaps w) d.others) ∙ ap length d.split ∙ d.word.gapped

  -- a word has no descendant of a smaller genus
  pub descendants_below : g < genus w → descendants g w ≡ []
  descendants_below h = nothing (descendants g w) (λ v m. omega (arith, others_length (descendants_mem m)))

-- the word 0 has all as descendants
pub descendants_zero : (g : ℕ) → descendants g 0 ≡ genus_list g
descendants_zero g =
    descendants_unique g 0 (genus_list g) (genus_list_ordered g) (λ v d. mem_genus_list g v d.word)
    (λ v m. record { word = genus_list_mem g m; others = gaps v; split = ap (λ (l : List ℕ). l ++ gaps v) gaps_zero })

-- a closed word has itself as its one descendant of its own genus
pub descendants_own : (w : ℕ) → w < 2 ^ 64 → closed w ≡ true → descendants (genus w) w ≡ w ∷ []
descendants_own w fits c =
    descendants_unique (genus w) w (w ∷ []) (ordered_one Earlier w)
    (λ v d. Memᴰ.head (same_gaps v w d.word.fits fits (sym d.split ∙ alone d.others (omega (arith, others_length (genus w) w d)))))
    (λ v m. subst (Descendant (genus w) w) (sym (Memᴰ.eq_of_singleton m))
    record { word = record { fits = fits; closed = c; gapped = refl }; others = []; split = append-nil (gaps w) })
  where
    alone : (l : List ℕ) → length l ≡ 0 → gaps w ++ l ≡ gaps w
    alone [] e = append-nil (gaps w)
    alone (x ∷ l) e = absurd (omega arith)

-- ---- the tree

-- x is the first gap of v after those of w
module _ (w v x : ℕ) (l : List ℕ) (fits : w < 2 ^ 64) (split : gaps w ++ x ∷ l ≡ gaps v) where
  -- the gaps of w, x and those after it rise
  rise : Ordered ◌<◌ (0 ∷ gaps w ++ x ∷ l)
  rise = subst (λ (k : List ℕ). Ordered ◌<◌ (0 ∷ k)) (sym split) (gaps_rise v)

  x_gap : Memᴰ x (gaps v)
  x_gap = subst (Memᴰ x) split (Memᴰ.append_right (gaps w) (Memᴰ.head refl))

  -- it is not below the conductor of w
  pub x_high : conductor w ≤ x
  x_high = behind_conductor w (x ∷ l) rise x (Memᴰ.head refl)

  -- below it v has the elements of w
  element_stays : v < 2 ^ 64 → (a : ℕ) → a < x → set_of w a ≡ true → set_of v a ≡ true
  unfolding Ordered
  element_stays small a low a_in = is_true (set_of v a) λ e.
      ⊎_elim (λ m. not_both a_in (gaps_mem w m))
      (λ m. ⊎_elim (λ q. omega arith) (λ k. omega (arith, (ordered_parts ◌<◌ (gaps w) (x ∷ l) rise.1).0.0 a k)) (Memᴰ.cases_cons m))
      (Memᴰ.append_cases (gaps w) (subst (Memᴰ a) (sym split) (mem_gaps v a small e)))

  -- so that v has the multiplicity of w where that is below x
  pub multiplicity_stays : v < 2 ^ 64 → multiplicity w < x → multiplicity v ≡ multiplicity w
  multiplicity_stays small low =
      le_antisymm (multiplicity_least v small (multiplicity w) (multiplicity_pos w fits) (element_stays small (multiplicity w) low (multiplicity_in w fits)))
      (multiplicity_least w fits (multiplicity v) (multiplicity_pos v small) (is_true (set_of w (multiplicity v)) λ e.
      not_both (multiplicity_in v small) (gaps_mem v (subst (Memᴰ (multiplicity v)) split (Memᴰ.append_left (x ∷ l) (mem_gaps w (multiplicity v) fits e))))))

  -- where v is closed, it is a generator of w
  pub x_generates : v < 2 ^ 64 → closed v ≡ true → generator w x ≡ true
  unfolding closed
  x_generates small c =
      generator_from_conductor w fits x x_high
      ∙ ap not (is_false (sum_of_two (set_of w) x) (λ e.
      not_both (sum_carried (set_of w) (set_of v) x (λ a b a-pos b-pos sum a_in b-in. element_stays small a (omega arith) a_in) e)
      (not-true _ (every_mem _ (gaps v) c x_gap))))

  pub child_split : gaps (child_word w x) ++ l ≡ gaps v
  child_split =
      let fits' = child_fits w x fits x_high (omega (arith, (gaps_list v).within x x_gap)) in
      ap (λ (k : List ℕ). k ++ l) (child_gaps w x fits x_high fits') ∙ append_assoc (gaps w) (x ∷ []) l ∙ split

-- a descendant keeps the elements below the conductor
pub descendant_keeps : (g w : ℕ) → w < 2 ^ 64 → {v : ℕ} → Descendant g w v → (a : ℕ) → a < conductor w → set_of w a ≡ true → set_of v a ≡ true
descendant_keeps g w fits {v} d a low e = go d.others d.split
  where
    go : (l : List ℕ) → gaps w ++ l ≡ gaps v → set_of v a ≡ true
    go [] s = ap (λ (u : ℕ). set_of u a) (same_gaps v w d.word.fits fits (sym s ∙ append-nil (gaps w))) ∙ e
    go (x ∷ l) s = element_stays w v x l fits s d.word.fits a (omega (arith, x_high w v x l fits s)) e

module _ (g w : ℕ) (fits : w < 2 ^ 64) (c : closed w ≡ true) (above : genus w < g) (range : g ≤ 32) where
  child : {x : ℕ} → Memᴰ x (right_generators w) → Child w x
  child {x} m = child_at_generator w x fits c (omega arith) m

  -- each descendant is one of a child
  through_child : {v : ℕ} → Descendant g w v → (x : ℕ) × Memᴰ x (right_generators w) × Descendant g (child_word w x) v
  through_child {v} d = go d.others (omega (arith, others_length g w d)) d.split
    where
      go : (l : List ℕ) → 0 < length l → gaps w ++ l ≡ gaps v → (x : ℕ) × Memᴰ x (right_generators w) × Descendant g (child_word w x) v
      go [] h s = absurd (omega arith)
      go (x ∷ l) h s = (
        x,
        mem_right_generators w fits x (x_high w v x l fits s) (x_generates w v x l fits s d.word.fits d.word.closed),
        record { word = d.word; others = l; split = child_split w v x l fits s },
      )

  -- a descendant of the child at x has the gap x after those of w
  of_child : {x v : ℕ} → Memᴰ x (right_generators w) → (d : Descendant g (child_word w x) v) → gaps w ++ x ∷ d.others ≡ gaps v
  of_child {x} m d = sym (append_assoc (gaps w) (x ∷ []) d.others) ∙ ap (λ (k : List ℕ). k ++ d.others) (sym (child m).new_gaps) ∙ d.split

  -- the tree equation, up to genus 32
  pub tree : descendants g w ≡ joined (λ x. descendants g (child_word w x)) (right_generators w)
  unfolding Before
  tree =
      descendants_unique g w (joined (λ x. descendants g (child_word w x)) (right_generators w))
      (ordered_joined ◌<◌ Earlier _ (right_generators w) (right_generators_ordered w fits) (λ x m. descendants_ordered g (child_word w x))
      (λ x y m n h u v i j.
      let d = descendants_mem g (child_word w x) i in
      let e = descendants_mem g (child_word w y) j in
      subst₂ Before (of_child m d) (of_child n e) (before_append (gaps w) (x ∷ d.others) (y ∷ e.others) (inl h))))
      (λ v d. let (x, m, e) = through_child d in mem_joined _ (right_generators w) m (mem_descendants g (child_word w x) v e))
      (λ v m.
      let (x, i, j) = joined_mem _ (right_generators w) m in
      let d = descendants_mem g (child_word w x) j in
      record { word = d.word; others = x ∷ d.others; split = of_child i d })

-- ---- how many they are

pub count_below_genus : (g w : ℕ) → g < genus w → descendant_count g w ≡ 0
unfolding descendant_count
count_below_genus g w h = ap length (descendants_below g w h)

pub count_own : (w : ℕ) → w < 2 ^ 64 → closed w ≡ true → descendant_count (genus w) w ≡ 1
unfolding descendant_count
count_own w fits c = ap length (descendants_own w fits c)

-- above its own genus, the sum over the right generators
pub count_tree : (g w : ℕ) → w < 2 ^ 64 → closed w ≡ true → genus w < g → g ≤ 32
    → descendant_count g w ≡ sum_over (λ x. descendant_count g (child_word w x)) (right_generators w)
unfolding descendant_count
count_tree g w fits c above range = ap length (tree g w fits c above range) ∙ length_joined (λ x. descendants g (child_word w x)) (right_generators w)

-- with c the conductor, at most 2 ^ (64 - c): the conductor of the child at e is e + 1
pub count_bound : (g w : ℕ) → w < 2 ^ 64 → closed w ≡ true → genus w ≤ g → g ≤ 32 → descendant_count g w ≤ 2 ^ (64 - conductor w)
count_bound g w fits c above range = go (g - genus w) w fits c (omega arith)
  where
    go : (r w : ℕ) → w < 2 ^ 64 → closed w ≡ true → genus w + r ≡ g → descendant_count g w ≤ 2 ^ (64 - conductor w)
    go zero w fits c sum =
        let own : g ≡ genus w = omega arith in
        omega (arith, ap (λ (n : ℕ). descendant_count n w) own, count_own w fits c, pow_pos (64 - conductor w))
    go (suc r) w fits c sum =
        le_trans (le_of_eq (count_tree g w fits c (omega arith) range))
        (sum_of_powers (λ x. descendant_count g (child_word w x)) 64 (conductor w) (right_generators w) (right_generators_ordered w fits) (λ x m.
        let v = child_at_generator w x fits c (omega arith) m in
        let below = go r (child_word w x) v.fits v.closed (omega (arith, v.new_genus)) in
        (v.high, omega arith, subst (λ (n : ℕ). descendant_count g (child_word w x) ≤ 2 ^ (64 - n)) v.new_conductor below)))

-- so they are a number of 64 bits, and all semigroups of a genus are
pub count_fits : (g w : ℕ) → w < 2 ^ 64 → closed w ≡ true → genus w ≤ g → g ≤ 32 → descendant_count g w < 2 ^ 64
count_fits g w fits c above range =
    let half : 2 ^ (64 - conductor w) ≤ 2 ^ 63 = pow_mono {j = 63} (omega (arith, conductor_pos w)) in
    omega (arith, count_bound g w fits c above range)

pub genus_count_fits : (g : ℕ) → g ≤ 32 → length (genus_list g) < 2 ^ 64
unfolding descendant_count
genus_count_fits g range =
    omega (arith, ap length (descendants_zero g), count_fits g 0 (omega arith) closed_zero (omega (arith, genus_zero)) range)
