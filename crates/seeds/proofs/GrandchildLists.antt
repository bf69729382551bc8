-- The gap lists with two gaps more than a word: one for each generator x not below the conductor, and each generator above x of what is left
-- without x. Assumes nothing.
use Prim.Native.Nat.{ℕ, ◌+◌, ◌^◌, ◌≤◌, ◌<◌}
use mathlib.Core.Path.{◌≡◌, refl, sym, ap, ◌∙◌, subst₂}
use mathlib.Core.Logic.{◌⊎◌, inl, inr, ◌↔◌, ⊎_elim}
use mathlib.Core.Bool.{true, false}
use mathlib.Core.List.Memᴰ
use mathlib.Core.List.{List, [], ◌∷◌, ◌++◌, map, Memᴰ}
use native.Mathlib.Omega.{arith}
use lib.Dec.{ltb}
use lib.ListN.{length, length-append, length-map}
use borrow.Author.Tests.{lt-ltb, ltb-true}
use Rattle.semigroups.specs.Lists.{keep, joined, sum_over, Ordered}
use Rattle.semigroups.specs.Sets.{without, sum_of_two}
use Rattle.semigroups.specs.Words.{set_of, gaps, conductor, closed}
use Rattle.semigroups.specs.Elements.{multiplicity, generator, right_generators}
use Rattle.semigroups.specs.GenusList.{Before}
use Rattle.semigroups.specs.GapLists.{extensions}
use Rattle.semigroups.proofs.Lists.{keep_mem, mem_keep, joined_mem, mem_joined, length_joined, ordered_append, ordered_keep, ordered_map, ordered_joined, ordered_unique, sum_same, sum_plus}
use Rattle.semigroups.proofs.Elements.{multiplicity_pos, generator_below, right_generators_mem, mem_right_generators, right_generators_ordered}
use Rattle.semigroups.proofs.ListOrder.{before_asym, before_append}
use Rattle.semigroups.proofs.GapLists.{extensions_all, two_more_iff}
use Rattle.seeds.specs.Grandchildren.{grandchild_count, pairs}
use Rattle.seeds.proofs.Pairs.{later_pairs}

-- new x lists the numbers above x that are generators without x and were none: none of them is below x + m
module _ (w : ℕ) (fits : w < 2 ^ 64) (c : closed w ≡ true) (new : ℕ → List ℕ) (rising : (x : ℕ) → Ordered ◌<◌ (new x))
    (beyond : (x y : ℕ) → Memᴰ y (new x) → x + multiplicity w ≤ y)
    (made : (x y : ℕ) → conductor w ≤ x → x < y → (sum_of_two (without x (set_of w)) y ≡ false) ↔ ((generator w y ≡ true) ⊎ Memᴰ y (new x))) where
  -- the generators not below the conductor
  abbrev right : List ℕ
  right = right_generators w

  -- the generators above x without x
  abbrev next_generators : ℕ → List ℕ
  next_generators x = keep (ltb x) right ++ new x

  -- the gaps of w and two more
  abbrev two : ℕ → ℕ → List ℕ
  two x y = gaps w ++ x ∷ y ∷ []

  -- they are the numbers above x that are no sum of two without x
  next_mem : {x y : ℕ} → Memᴰ x right → Memᴰ y (next_generators x) → (x < y) × (sum_of_two (without x (set_of w)) y ≡ false)
  next_mem {x} {y} i j =
      let (high, g) = right_generators_mem w fits i in
      ⊎_elim
      (λ k. let (l, t) = keep_mem (ltb x) right k in
      let less = ltb-true x y t in
      (less, (made x y high less).1 (inl (right_generators_mem w fits l).1)))
      (λ k. let less : x < y = omega (arith, beyond x y k, multiplicity_pos w fits) in (less, (made x y high less).1 (inr k)))
      (Memᴰ.append_cases (keep (ltb x) right) j)

  mem_next : (x y : ℕ) → conductor w ≤ x → x < y → sum_of_two (without x (set_of w)) y ≡ false → Memᴰ y (next_generators x)
  mem_next x y high less e =
      ⊎_elim
      (λ g. Memᴰ.append_left (new x) (mem_keep (ltb x) right (mem_right_generators w fits y (omega arith) g) (lt-ltb x y less)))
      (Memᴰ.append_right (keep (ltb x) right))
      ((made x y high less).0 e)

  -- they rise
  next_ordered : {x : ℕ} → Memᴰ x right → Ordered ◌<◌ (next_generators x)
  next_ordered {x} i =
      ordered_append ◌<◌ (keep (ltb x) right) (new x) (ordered_keep ◌<◌ (ltb x) right (right_generators_ordered w fits)) (rising x)
      (λ y z j k. omega (arith, (right_generators_mem w fits i).0, generator_below w fits y (right_generators_mem w fits (keep_mem (ltb x) right j).0).1, beyond x z k))

  -- the gap lists that they make
  abbrev pub grandchild_lists : List (List ℕ)
  grandchild_lists = joined (λ x. map (two x) (next_generators x)) right

  -- they are in list order
  lists_ordered : Ordered Before grandchild_lists
  unfolding Before
  lists_ordered =
      ordered_joined ◌<◌ Before (λ x. map (two x) (next_generators x)) right (right_generators_ordered w fits)
      (λ x i. ordered_map ◌<◌ Before (two x) (next_generators x) (next_ordered i) (λ y z j k h. before_append (gaps w) (x ∷ y ∷ []) (x ∷ z ∷ []) (inr (refl, inl h))))
      (λ x z i j h k l p q. first h (Memᴰ.of_map (two x) (next_generators x) p) (Memᴰ.of_map (two z) (next_generators z) q))
    where
      first : {x z : ℕ} {k l : List ℕ} → x < z → (y : ℕ) × Memᴰ y (next_generators x) × (two x y ≡ k)
          → (y : ℕ) × Memᴰ y (next_generators z) × (two z y ≡ l) → Before k l
      first {x} {z} h (y, i, e) (v, j, f) = subst₂ Before e f (before_append (gaps w) (x ∷ y ∷ []) (z ∷ v ∷ []) (inl h))

  -- and they are all with two gaps more
  pub extensions_by_generators : extensions 2 w ≡ grandchild_lists
  extensions_by_generators =
      ordered_unique Before before_asym (extensions 2 w) grandchild_lists (extensions_all 2 w).ordered lists_ordered
      (λ k i. let (x, y, high, less, g, e, split) = (two_more_iff w fits c k).0 i in
      Memᴰ.cast (sym split) (mem_joined _ right (mem_right_generators w fits x high g) (Memᴰ.map (two x) (mem_next x y high less e))))
      (λ k i. let (x, j, p) = joined_mem _ right i in
      let (y, q, split) = Memᴰ.of_map (two x) (next_generators x) p in
      let (high, g) = right_generators_mem w fits j in
      let (less, e) = next_mem j q in
      (two_more_iff w fits c k).1 (x, y, high, less, g, e, split))

  -- each two generators, and the new ones
  pub by_new_generators : grandchild_count w ≡ pairs (length (right_generators w)) + sum_over (λ x. length (new x)) (right_generators w)
  unfolding grandchild_count
  by_new_generators =
      ap length extensions_by_generators ∙ length_joined (λ x. map (two x) (next_generators x)) right
      ∙ sum_same _ _ right (λ x i. length-map (next_generators x) (two x) ∙ length-append (keep (ltb x) right) (new x))
      ∙ sum_plus (λ x. length (keep (ltb x) right)) (λ x. length (new x)) right
      ∙ ap (λ (n : ℕ). n + sum_over (λ x. length (new x)) right) (later_pairs right (right_generators_ordered w fits))
