-- Relatives stand together: what a reader who cuts a genus list by ancestors is promised of the list and of the calls, as one claim. Assumes
-- nothing: these are definitions.
use Rattle.std.specs.Prelude.{ℕ, ◌-◌, ◌^◌, ◌≤◌, ◌<◌, ◌≡◌, ◌↔◌, length, take, drop}
use mathlib.Core.List.{List, [], ◌∷◌, ◌++◌, Memᴰ}
use Rattle.std.proofs.Math.Option.{Option, none, some}
use Rattle.semigroups.specs.Lists.{joined, sum_over}
use Rattle.semigroups.specs.Words.{genus}
use Rattle.semigroups.specs.GenusList.{genus_list, descendants, descendant_count, FirstInOrder, AllOf}
use Rattle.semigroups.specs.GapLists.{Extends}
use Rattle.semigroups.specs.Relatives.{words_before, words_after, place_of}
use Rattle.answers.specs.Answers.{Answer, refused, given}
use Rattle.words.specs.Looks.{Accepted}
use Rattle.counts.specs.Counts.{count_of}
use Rattle.descendants.specs.Descendants.{first_descendant_of}
use Rattle.walk.specs.declared.Walk.{Walk}
use Rattle.walk.specs.Walks.{start_of, batch_of}
use Rattle.demands.specs.Demand3.{atlas, batches, wrote, Demanded}

-- an accepted word w, and a genus g from its own to 32
pub record Ancestor (w g : ℕ) : Type 0 where
  pub fits : w < 2 ^ 64
  pub accepted : Accepted w
  pub own_le : genus w ≤ g
  pub small : g ≤ 32

-- ---- the genus list of g, cut by w

pub record CutByWord (w g : ℕ) : Type 0 where
  -- it is three lists joined, of which the middle one has the descendants of w
  pub parts : words_before g w ++ (descendants g w ++ words_after g w) ≡ genus_list g
  -- these are the words of all numerical semigroups of genus g whose smallest gaps are exactly the gaps of w
  pub middle : AllOf (Extends (g - genus w) w) (descendants g w)
  -- at the genus of w, w itself
  pub own : g ≡ genus w → descendants g w ≡ w ∷ []
  -- no word of the first list or the last is a descendant
  pub before_no_descendant : (v : ℕ) → Memᴰ v (words_before g w) → ¬ Memᴰ v (descendants g w)
  pub after_no_descendant : (v : ℕ) → Memᴰ v (words_after g w) → ¬ Memᴰ v (descendants g w)
  -- how many they are is the count call's number
  pub number : ℕ
  pub count_answers : count_of w g ≡ given number
  pub how_many : length (descendants g w) ≡ number
  -- where there are none, nothing is cut out
  pub nothing_cut : number ≡ 0 → (descendants g w ≡ []) × (words_before g w ++ words_after g w ≡ genus_list g)
  -- they start at the place of w, the number of words before them
  pub place : take number (drop (place_of g w) (genus_list g)) ≡ descendants g w
  -- which is the sum of the counts of the words of the genus of w before it
  pub place_counts : place_of g w ≡ sum_over (λ u. descendant_count g u) (words_before (genus w) w)

-- ---- the first descendant, and a walk from it on

-- v is the first descendant of w of genus g; lists are lent, one to each batch
pub record FromFirst (w g v : ℕ) (lents : List (List ℕ)) : Type 0 where
  -- it has the place of w
  pub same_place : place_of g v ≡ place_of g w
  -- a walk is started on it
  pub walk : Walk
  pub start_answers : start_of v ≡ given walk
  -- demand 3 of that walk: it is to list the descendants and then the words after them
  pub demanded : Demanded atlas (start_of v) (descendants g w ++ words_after g w) (length (descendants g w ++ words_after g w)) lents
  -- by lists that are together as long as the count it writes exactly the descendants
  pub exactly : sum_over length lents ≡ descendant_count g w → joined wrote (batches atlas walk lents) ≡ descendants g w
  -- and one list as long as the count holds them afterwards
  pub in_one_list : (lent : List ℕ) → length lent ≡ descendant_count g w → (batch_of walk lent).list ≡ descendants g w

-- ---- a genus list cut by all words of a smaller genus

-- the words that batches write from the walk of a start call on; none where it is refused
unfoldable pub written_from : Answer Walk → List (List ℕ) → List ℕ
written_from (refused n) lents = []
written_from (given w) lents = joined wrote (batches atlas w lents)

-- by the answer of the call for the first descendant: from that on, and none where there is none
unfoldable pub written_by_first : Answer (Option ℕ) → List (List ℕ) → List ℕ
written_by_first (refused n) lents = []
written_by_first (given none) lents = []
written_by_first (given (some v)) lents = written_from (start_of v) lents

-- the share of the ancestor w: the words of genus g that are written for it
abbrev pub share : ℕ → ℕ → List (List ℕ) → List ℕ
share g w lents = written_by_first (first_descendant_of w g) lents

-- the genus h of the ancestors is not above g
pub record CutByGenus (h g : ℕ) : Type 0 where
  -- the descendants of all words of genus h, in the order of these, are the genus list: none is missing, and none is there twice
  pub stretches : joined (descendants g) (genus_list h) ≡ genus_list g
  -- so are their shares, each with lists that are together as long as the count
  pub shares : (lents : ℕ → List (List ℕ)) → ((w : ℕ) → Memᴰ w (genus_list h) → count_of w g ≡ given (sum_over length (lents w)))
      → joined (λ w. share g w (lents w)) (genus_list h) ≡ genus_list g

-- ---- the claim

pub record Relatives : Type 0 where
  pub by_word : (w g : ℕ) → Ancestor w g → CutByWord w g
  -- the call for the first descendant tells none exactly when the count is 0, and else the word of the first such semigroup in list order
  pub no_descendant : (w g : ℕ) → Ancestor w g → (first_descendant_of w g ≡ given none) ↔ (count_of w g ≡ given 0)
  pub first_descendant : (w g : ℕ) → Ancestor w g → (v : ℕ) → (first_descendant_of w g ≡ given (some v)) ↔ FirstInOrder (Extends (g - genus w) w) v
  pub from_first : (w g : ℕ) → Ancestor w g → (v : ℕ) → first_descendant_of w g ≡ given (some v) → (lents : List (List ℕ)) → FromFirst w g v lents
  pub by_genus : (h g : ℕ) → h ≤ g → g ≤ 32 → CutByGenus h g
