-- Relatives stand together: in any list of words in list order the descendants of a word are one stretch, behind those before the word and in
-- front of those after it; and a genus list is the stretches of the words of a smaller genus, in their order. Assumes nothing.
use Prim.Native.Nat.{ℕ, zero, suc, ◌+◌, ◌-◌, ◌^◌, ◌≤◌, ◌<◌}
use mathlib.Core.Path.{◌≡◌, refl, sym, ◌∙◌, ap, subst}
use mathlib.Core.Logic.{inl, inr, ◌↔◌, ⊎_elim}
use mathlib.Core.Bool.{Bool, true, ◌||◌, and-eq-true_iff, or-true}
use mathlib.Core.List.{List, [], ◌∷◌, ◌++◌, append-nil, Memᴰ}
use native.Mathlib.Omega.{arith}
use native.Mathlib.Nat.{zero-add, suc-add}
use lib.Dec.{eqb, ltb}
use lib.ListN.{length, take, drop}
use borrow.Author.Tests.{eqb-true, eq-eqb, ltb-true, lt-ltb}
use lib.Seq.{take-append_seam, drop-append_seam}
use Rattle.semigroups.specs.Lists.{keep, joined, sum_over, begins, Ordered}
use Rattle.semigroups.specs.Words.{gaps, genus, closed, child_word}
use Rattle.semigroups.specs.Elements.{right_generators}
use Rattle.semigroups.specs.GenusList.{genus_list, descendants, descendant_count, Before, Earlier}
use Rattle.semigroups.specs.Tree.{leaves}
use Rattle.semigroups.specs.Relatives.{comes_before, words_before, words_after, place_of}
use Rattle.semigroups.proofs.Booleans.{not_both, is_false, by_value}
use Rattle.semigroups.proofs.Lists.{keep_mem, append_each, joined_cong, joined_append, joined_joined, joined_mem, length_joined}
use Rattle.semigroups.proofs.Kept.{keep_front, ordered_three, in_front_of}
use Rattle.semigroups.proofs.ListOrder.{before_asym, earlier_asym, before_trans, three_ways, begins_follows, begins_apart}
use Rattle.semigroups.proofs.GenusList.{genus_list_mem, genus_list_ordered}
use Rattle.semigroups.proofs.Tree.{descendants_mem, descendants_zero, descendants_own}
use Rattle.semigroups.proofs.Words.{genus_zero, closed_zero}
use Rattle.semigroups.proofs.Leaves.{descendants_at}

-- the test of list order decides it
pub before_iff : (k l : List ℕ) → (comes_before k l ≡ true) ↔ Before k l
unfolding comes_before Before
before_iff [] l = (λ e. absurd (not_both e refl), λ b. absurd b)
before_iff (x ∷ k) [] = (λ e. absurd (not_both e refl), λ b. absurd b)
before_iff (x ∷ k) (y ∷ l) = (
  λ e.
      by_value (ltb x y) (λ h. inl (ltb-true x y h))
      (λ h. let (p, q) = (and-eq-true_iff (eqb x y) (comes_before k l)).0 (rw h at e) in inr (eqb-true x y p, (before_iff k l).0 q)),
  ⊎_elim (λ h. rw (lt-ltb x y h))
      (λ (same, b). ap (λ (c : Bool). ltb x y || c) ((and-eq-true_iff (eqb x y) (comes_before k l)).1 (eq-eqb x y same, (before_iff k l).1 b)) ∙ or-true (ltb x y)),
)

-- ---- the descendants of a word stand side by side

-- in any list in list order of words with at least as many gaps as w: those before w, its descendants and those after it
pub cut_in_order : (w : ℕ) (l : List ℕ) → Ordered Earlier l → ((v : ℕ) → Memᴰ v l → genus w ≤ genus v)
    → keep (λ v. comes_before (gaps v) (gaps w)) l ++ (keep (λ v. begins (gaps w) (gaps v)) l ++ keep (λ v. comes_before (gaps w) (gaps v)) l) ≡ l
unfolding genus
cut_in_order w l o enough =
    ordered_three Earlier earlier_asym _ _ _ l o
    (λ v m.
    ⊎_elim (λ b. inl ((before_iff (gaps v) (gaps w)).1 b)) (λ e. inr (⊎_elim inl (λ b. inr ((before_iff (gaps w) (gaps v)).1 b)) e))
    (three_ways (gaps w) (gaps v) (enough v m)))
    (λ u v p q. (begins_follows (gaps w) (gaps v) (gaps u) q).1 ((before_iff (gaps u) (gaps w)).0 p))
    (λ u v p q. before_trans (gaps u) (gaps w) (gaps v) ((before_iff (gaps u) (gaps w)).0 p) ((before_iff (gaps w) (gaps v)).0 q))
    (λ u v p q. (begins_follows (gaps w) (gaps u) (gaps v) p).0 ((before_iff (gaps w) (gaps v)).0 q))

module _ (g w : ℕ) where
  -- so in a genus list, from the genus of w on
  pub stretch : genus w ≤ g → words_before g w ++ (descendants g w ++ words_after g w) ≡ genus_list g
  unfolding words_before words_after descendants
  stretch h = cut_in_order w (genus_list g) (genus_list_ordered g) (λ v m. omega (arith, (genus_list_mem g m).gapped))

  -- what its parts hold
  pub before_mem : {v : ℕ} → Memᴰ v (words_before g w) → Earlier v w
  unfolding words_before
  before_mem {v} m = (before_iff (gaps v) (gaps w)).0 (keep_mem _ (genus_list g) m).1

  pub after_mem : {v : ℕ} → Memᴰ v (words_after g w) → Earlier w v
  unfolding words_after
  after_mem {v} m = (before_iff (gaps w) (gaps v)).0 (keep_mem _ (genus_list g) m).1

  pub descendant_begins : {v : ℕ} → Memᴰ v (descendants g w) → begins (gaps w) (gaps v) ≡ true
  unfolding descendants
  descendant_begins m = (keep_mem _ (genus_list g) m).1

  -- none of the others is a descendant
  pub before_no_descendant : (v : ℕ) → Memᴰ v (words_before g w) → ¬ Memᴰ v (descendants g w)
  before_no_descendant v m d = (begins_apart (gaps w) (gaps v) (descendant_begins d)).0 (before_mem m)

  pub after_no_descendant : (v : ℕ) → Memᴰ v (words_after g w) → ¬ Memᴰ v (descendants g w)
  after_no_descendant v m d = (begins_apart (gaps w) (gaps v) (descendant_begins d)).1 (after_mem m)

-- ---- the place where they start

-- the words before a word of the genus list are those in front of it
pub before_word : (g v : ℕ) (k l : List ℕ) → k ++ v ∷ l ≡ genus_list g → words_before g v ≡ k
unfolding words_before
before_word g v k l e =
    ap (keep (λ u. comes_before (gaps u) (gaps v))) (sym e)
    ∙ in_front_of Earlier earlier_asym _ k l v (λ u. before_iff (gaps u) (gaps v)) (subst (Ordered Earlier) (sym e) (genus_list_ordered g))

-- those before the first descendant of w are those before w
pub before_first : (g w v : ℕ) (l : List ℕ) → genus w ≤ g → descendants g w ≡ v ∷ l → words_before g v ≡ words_before g w
before_first g w v l h e =
    before_word g v (words_before g w) (l ++ words_after g w) (ap (λ (d : List ℕ). words_before g w ++ (d ++ words_after g w)) (sym e) ∙ stretch g w h)

-- the descendants are the words from the place of w on, as many as there are
pub descendants_from_place : (g w : ℕ) → genus w ≤ g → take (descendant_count g w) (drop (place_of g w) (genus_list g)) ≡ descendants g w
unfolding place_of descendant_count
descendants_from_place g w h =
    ap (λ (l : List ℕ). take (length (descendants g w)) (drop (length (words_before g w)) l)) (sym (stretch g w h))
    ∙ ap (take (length (descendants g w))) (drop-append_seam (words_before g w) (descendants g w ++ words_after g w))
    ∙ take-append_seam (descendants g w) (words_after g w)

-- ---- a genus list cut by all words of a smaller genus

-- the words h + r levels down are those r levels below those h levels down
leaves_add : (h r w : ℕ) → leaves (h + r) w ≡ joined (leaves r) (leaves h w)
unfolding leaves joined
leaves_add zero r w = ap (λ (n : ℕ). leaves n w) (zero-add r) ∙ sym (append-nil (leaves r w))
leaves_add (suc h) r w =
    ap (λ (n : ℕ). leaves n w) (suc-add h r) ∙ joined_cong _ _ (right_generators w) (λ x m. leaves_add h r (child_word w x))
    ∙ sym (joined_joined (leaves r) (λ x. leaves h (child_word w x)) (right_generators w))

module _ (g h : ℕ) (low : h ≤ g) (range : g ≤ 32) where
  -- the descendants of w are those of its descendants of a genus between, in their order
  pub through_genus : (w : ℕ) → w < 2 ^ 64 → closed w ≡ true → genus w ≤ h → joined (descendants g) (descendants h w) ≡ descendants g w
  through_genus w fits c above =
      let parts : h - genus w + (g - h) ≡ g - genus w = omega arith in
      joined_cong (descendants g) (leaves (g - h)) (descendants h w) (λ u m.
      let d = (descendants_mem h w m).word in
      descendants_at g u d.fits d.closed (omega (arith, d.gapped)) range ∙ ap (λ (n : ℕ). leaves (g - n) u) d.gapped)
      ∙ ap (joined (leaves (g - h))) (descendants_at h w fits c above (omega arith)) ∙ sym (leaves_add (h - genus w) (g - h) w)
      ∙ ap (λ (n : ℕ). leaves n w) parts ∙ sym (descendants_at g w fits c (omega arith) range)

  -- a genus list is the descendants of all words of a smaller genus, in their order
  pub by_ancestors : joined (descendants g) (genus_list h) ≡ genus_list g
  by_ancestors =
      ap (joined (descendants g)) (sym (descendants_zero h)) ∙ through_genus 0 (omega arith) closed_zero (omega (arith, genus_zero)) ∙ descendants_zero g

module _ (g w : ℕ) (fits : w < 2 ^ 64) (c : closed w ≡ true) (low : genus w ≤ g) (range : g ≤ 32) where
  -- the words before w are the descendants of those of its own genus before it
  pub before_by_ancestors : words_before g w ≡ joined (descendants g) (words_before (genus w) w)
  unfolding words_before joined
  before_by_ancestors =
      let B : List ℕ = words_before (genus w) w in
      let A : List ℕ = words_after (genus w) w in
      let p : ℕ → Bool = λ v. comes_before (gaps v) (gaps w) in
      let parts : joined (descendants g) B ++ (descendants g w ++ joined (descendants g) A) ≡ genus_list g =
      sym (joined_append (descendants g) B (w ∷ A))
      ∙ ap (joined (descendants g)) (ap (λ (l : List ℕ). B ++ (l ++ A)) (sym (descendants_own w fits c)) ∙ stretch (genus w) w (omega arith))
      ∙ by_ancestors g (genus w) low range in
      ap (keep p) (sym parts)
      ∙ keep_front p (joined (descendants g) B) (descendants g w ++ joined (descendants g) A)
      (λ v m.
      let (u, i, d) = joined_mem (descendants g) B m in
      (before_iff (gaps v) (gaps w)).1 ((begins_follows (gaps u) (gaps v) (gaps w) (descendant_begins g u d)).0 (before_mem (genus w) w i)))
      (append_each (descendants g w) (joined (descendants g) A)
      (λ v d. is_false (p v) (λ e. (begins_apart (gaps w) (gaps v) (descendant_begins g w d)).0 ((before_iff (gaps v) (gaps w)).0 e)))
      (λ v m.
      let (u, i, d) = joined_mem (descendants g) A m in
      let later = (begins_follows (gaps u) (gaps v) (gaps w) (descendant_begins g u d)).1 (after_mem (genus w) w i) in
      is_false (p v) (λ e. before_asym (gaps w) (gaps v) later ((before_iff (gaps v) (gaps w)).0 e))))

  -- so that the place of w is the sum of their counts
  pub place_counts : place_of g w ≡ sum_over (λ u. descendant_count g u) (words_before (genus w) w)
  unfolding place_of descendant_count
  place_counts = ap length before_by_ancestors ∙ length_joined (descendants g) (words_before (genus w) w)
