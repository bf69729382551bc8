-- Relatives stand together, and what the calls give of them: from the laws of the list order, by the batches of a walk that has an end of the
-- genus list still to give. Assumes nothing.
use Prim.Native.Nat.{ℕ, ◌+◌, ◌-◌, ◌≤◌, min}
use mathlib.Core.Path.{◌≡◌, refl, sym, ◌∙◌, ap, ap₂, subst}
use mathlib.Core.Logic.{◌↔◌}
use mathlib.Core.List.{List, [], ◌∷◌, ◌++◌, append-nil, head?, Memᴰ}
use mathlib.Core.Option.{Option, none, some}
use native.Mathlib.Omega.{arith}
use lib.ListN.{length, take, drop, length-append, drop_of_length-le}
use lib.Seq.{take-append_seam}
use Rattle.semigroups.specs.Lists.{joined, sum_over}
use Rattle.semigroups.specs.Words.{genus}
use Rattle.semigroups.specs.GenusList.{genus_list, descendants, descendant_count, FirstInOrder, AllOf}
use Rattle.semigroups.specs.GapLists.{Extends}
use Rattle.semigroups.specs.Relatives.{words_before, words_after, place_of}
use Rattle.semigroups.proofs.Lists.{no_length, joined_cong}
use Rattle.semigroups.proofs.Heads.{head_none, head_some, first_of_all}
use Rattle.semigroups.proofs.GenusList.{genus_list_mem}
use Rattle.semigroups.proofs.Tree.{descendants_own}
use Rattle.semigroups.proofs.GapLists.{descendants_all}
use Rattle.semigroups.proofs.Relatives.{stretch, before_no_descendant, after_no_descendant, before_first, descendants_from_place, by_ancestors, place_counts}
use Rattle.answers.specs.Answers.{Answer, given}
use Rattle.windows.specs.Windows.{window_list}
use Rattle.windows.proofs.Windows.{window_whole}
use Rattle.counts.specs.Counts.{count_of}
use Rattle.counts.proofs.Counts.{count_answers}
use Rattle.descendants.specs.Descendants.{first_descendant_of}
use Rattle.descendants.proofs.Descendants.{descendant_answers, descendant_answer_iff}
use Rattle.walk.specs.declared.Walk.{Walk}
use Rattle.walk.specs.Walks.{standing, Ending, start_of, batch_of}
use Rattle.walk.proofs.Walks.{batch_standing, start_standing}
use Rattle.demands.specs.Demand3.{atlas, batches, wrote, N}
use Rattle.demands.specs.Relatives.{Ancestor, CutByWord, FromFirst, written_from, written_by_first, share, CutByGenus, Relatives}
use Rattle.demands.proofs.Demand3.{lengths_lent, demanded, batches_wrote}

module _ (w g : ℕ) (h : Ancestor w g) where
  -- the descendants
  abbrev D : List ℕ
  D = descendants g w

  -- the words after them
  abbrev A : List ℕ
  A = words_after g w

  -- ---- the cut

  all_descendants : AllOf (Extends (g - genus w) w) D
  all_descendants =
      let sum : genus w + (g - genus w) ≡ g = omega (arith, h.own_le) in
      subst (λ (n : ℕ). AllOf (Extends (g - genus w) w) (descendants n w)) sum (descendants_all (g - genus w) w (omega (arith, h.small)))

  count_is : count_of w g ≡ given (descendant_count g w)
  count_is = count_answers w g h.accepted h.small

  cut_by_word : CutByWord w g
  unfolding descendant_count
  cut_by_word = record {
    parts = stretch g w h.own_le;
    middle = all_descendants;
    own = λ e. ap (λ (n : ℕ). descendants n w) e ∙ descendants_own w h.fits h.accepted.closed;
    before_no_descendant = before_no_descendant g w;
    after_no_descendant = after_no_descendant g w;
    number = descendant_count g w;
    count_answers = count_is;
    how_many = refl;
    nothing_cut = λ e.
        let empty = no_length D e in
        (empty, ap (λ (l : List ℕ). words_before g w ++ (l ++ A)) (sym empty) ∙ stretch g w h.own_le);
    place = descendants_from_place g w h.own_le;
    place_counts = place_counts g w h.fits h.accepted.closed h.own_le h.small;
  }

  -- ---- the first descendant

  no_descendant : (first_descendant_of w g ≡ given none) ↔ (count_of w g ≡ given 0)
  unfolding descendant_count
  no_descendant =
      let first = descendant_answer_iff w g h.accepted h.small none in (
        λ e. count_is ∙ ap (λ (l : List ℕ). given (length l)) (head_none D (first.0 e)),
        λ e. let zero : length D ≡ 0 = cc count_is in first.1 (ap head? (no_length D zero)),
      )

  first_descendant : (v : ℕ) → (first_descendant_of w g ≡ given (some v)) ↔ FirstInOrder (Extends (g - genus w) w) v
  first_descendant v =
      let first = descendant_answer_iff w g h.accepted h.small (some v) in
      let all = first_of_all D all_descendants v in
      (λ e. all.0 (first.0 e), λ f. first.1 (all.1 f))

  -- ---- the walk from it on

  -- it has the descendants and then the words after them still to give
  abbrev on_first : Walk
  on_first = standing g 1 33 (D ++ A)

  -- which are an end of the genus list
  is_end : words_before g w ++ (D ++ A) ≡ window_list g 1 33
  is_end = stretch g w h.own_le ∙ sym (window_whole g h.small)

  -- the start call gives that walk for the first descendant
  starts : (v : ℕ) (l : List ℕ) → D ≡ v ∷ l → start_of v ≡ given on_first
  starts v l split =
      start_standing g v (words_before g w) (l ++ A) h.small
      (ap (λ (k : List ℕ). words_before g w ++ (k ++ A)) (sym split) ∙ stretch g w h.own_le)
      ∙ ap (λ (k : List ℕ). given (standing g 1 33 (k ++ A))) (sym split)

  exactly : (lents : List (List ℕ)) → sum_over length lents ≡ length D → joined wrote (batches atlas on_first lents) ≡ D
  unfolding N
  exactly lents e =
      let calls = batches atlas on_first lents in
      let first : N (D ++ A) calls ≡ length D = omega (arith, lengths_lent on_first lents, length-append D A) in
      batches_wrote g 1 33 (D ++ A) (words_before g w) is_end h.small lents ∙ ap (λ (n : ℕ). take n (D ++ A)) first ∙ take-append_seam D A

  in_one_list : (lent : List ℕ) → length lent ≡ length D → (batch_of on_first lent).list ≡ D
  in_one_list lent e =
      let n : min (length lent) (length (D ++ A)) ≡ length D = omega (arith, length-append D A) in
      ap (λ (e : Ending). e.list) (batch_standing g 1 33 h.small (words_before g w) (D ++ A) lent is_end)
      ∙ ap (λ (n : ℕ). take n (D ++ A) ++ drop n lent) n
      ∙ ap₂ ◌++◌ (take-append_seam D A) (drop_of_length-le lent {i = length D} (omega arith)) ∙ append-nil D

  from_first : (v : ℕ) (l : List ℕ) → D ≡ v ∷ l → (lents : List (List ℕ)) → FromFirst w g v lents
  unfolding place_of descendant_count
  from_first v l split lents = record {
    same_place = ap length (before_first g w v l h.own_le split);
    walk = on_first;
    start_answers = starts v l split;
    demanded = demanded g 1 33 (D ++ A) (words_before g w) is_end h.small (start_of v) (starts v l split) lents;
    exactly = exactly lents;
    in_one_list = in_one_list;
  }

  -- ---- the share of w

  -- with lists that are together as long as the count it is the descendants
  share_is : (lents : List (List ℕ)) → sum_over length lents ≡ descendant_count g w → share g w lents ≡ D
  unfolding descendant_count written_by_first written_from
  share_is lents e = ap (λ (a : Answer (Option ℕ)). written_by_first a lents) (descendant_answers w g h.accepted h.small) ∙ by_first D refl
    where
      by_first : (k : List ℕ) → D ≡ k → written_by_first (given (head? k)) lents ≡ D
      by_first [] split = sym split
      by_first (v ∷ l) split = ap (λ (a : Answer Walk). written_from a lents) (starts v l split) ∙ exactly lents e

-- ---- the claim

-- the words of a genus up to g are ancestors
ancestor : (h g : ℕ) → h ≤ g → g ≤ 32 → {w : ℕ} → Memᴰ w (genus_list h) → Ancestor w g
ancestor h g low small m =
    let o = genus_list_mem h m in
    record {
      fits = o.fits;
      accepted = record { closed = o.closed; few = omega (arith, o.gapped) };
      own_le = omega (arith, o.gapped);
      small = small;
    }

cut_by_genus : (h g : ℕ) → h ≤ g → g ≤ 32 → CutByGenus h g
cut_by_genus h g low small = record {
  stretches = by_ancestors g h low small;
  shares = λ lents lengths-are.
      joined_cong (λ w. share g w (lents w)) (descendants g) (genus_list h) (λ w m.
      let a = ancestor h g low small m in
      let enough : sum_over length (lents w) ≡ descendant_count g w = let answers = lengths-are w m in let count = count_is w g a in cc in
      share_is w g a (lents w) enough)
      ∙ by_ancestors g h low small;
}

pub relatives : Relatives
relatives = record {
  by_word = cut_by_word;
  no_descendant = no_descendant;
  first_descendant = first_descendant;
  from_first = λ w g h v e.
      let (l, split) = head_some (descendants g w) ((descendant_answer_iff w g h.accepted h.small (some v)).0 e) in
      from_first w g h v l split;
  by_genus = cut_by_genus;
}
