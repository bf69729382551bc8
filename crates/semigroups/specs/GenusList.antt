-- The genus list: the gap words of the numerical semigroups of a genus, in list order. Assumes nothing: these are definitions.
use Rattle.std.specs.Prelude.{ℕ, zero, suc, ◌-◌, ◌^◌, ◌<◌, ◌≡◌, ◌⊎◌, length}
use mathlib.Core.List.{List, [], ◌∷◌, map, Memᴰ}
use Rattle.semigroups.specs.Lists.{run, keep, joined, begins, Ordered}
use Rattle.semigroups.specs.Sets.{Set, NumericalSemigroup, GapsOf, HasGenus}
use Rattle.semigroups.specs.Words.{set_of, gaps, word_of, closed}

-- all rising lists of r numbers, each at least lo and at most hi, in list order
unfoldable pub risings : ℕ → ℕ → ℕ → List (List ℕ)
risings zero lo hi = [] ∷ []
risings (suc r) lo hi = joined (λ x. map (λ l. x ∷ l) (risings r (suc x) hi)) (run lo (suc hi - lo))

-- of the gap sets of g numbers from 1 to 64, in list order, the words of those that are closed
unfoldable pub genus_list : ℕ → List ℕ
genus_list g = keep closed (map word_of (risings g 1 64))

-- the words of the genus list of g whose smallest gaps are exactly the gaps of w
unfoldable pub descendants : ℕ → ℕ → List ℕ
descendants g w = keep (λ v. begins (gaps w) (gaps v)) (genus_list g)

-- how many they are
unfoldable pub descendant_count : ℕ → ℕ → ℕ
descendant_count g w = length (descendants g w)

-- list order: at the first place where two lists of gaps differ, the first list has the smaller gap
unfoldable pub Before : List ℕ → List ℕ → Type 0
Before [] m = ⊥
Before (x ∷ l) [] = ⊥
Before (x ∷ l) (y ∷ m) = (x < y) ⊎ ((x ≡ y) × Before l m)

-- the word v comes before the word w in list order
abbrev pub Earlier : ℕ → ℕ → Type 0
Earlier v w = Before (gaps v) (gaps w)

-- l has the words of all sets with P and no other, in list order, each exactly once
pub record AllOf (P : Set → Type 0) (l : List ℕ) : Type 0 where
  pub fits : (w : ℕ) → Memᴰ w l → w < 2 ^ 64
  pub only : (w : ℕ) → Memᴰ w l → P (set_of w)
  pub all : (S : Set) → P S → (w : ℕ) × ((x : ℕ) → set_of w x ≡ S x) × Memᴰ w l
  pub ordered : Ordered Earlier l
  pub once : (w : ℕ) (i j : Memᴰ w l) → i ≡ j

-- w is the word of the first set with P in list order
pub record FirstInOrder (P : Set → Type 0) (w : ℕ) : Type 0 where
  pub fits : w < 2 ^ 64
  pub has : P (set_of w)
  pub first : (S : Set) → P S → (l : List ℕ) → GapsOf S l → (l ≡ gaps w) ⊎ Before (gaps w) l

-- l has the words of all numerical semigroups of genus g and no other, in list order, each exactly once
abbrev pub AllOfGenus : ℕ → List ℕ → Type 0
AllOfGenus g = AllOf (λ S. NumericalSemigroup S × HasGenus S g)
