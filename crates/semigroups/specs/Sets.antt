-- Numerical semigroups as sets of whole numbers. Assumes nothing: these are definitions.
use Rattle.std.specs.Prelude.{ℕ, zero, suc, ◌+◌, ◌-◌, ◌≤◌, ◌<◌, ◌≡◌, Bool, true, false, not, ◌&&◌, eqb, ltb, ℤ, pos, negsuc, length}
use mathlib.Core.List.{List, Memᴰ}
use Rattle.semigroups.specs.Lists.{run, keep, every, Ordered}

-- a set of whole numbers: which numbers it holds
abbrev pub Set : Type 0
Set = ℕ → Bool

-- S without the number x
abbrev pub without : ℕ → Set → Set
without x S y = not (eqb y x) && S y

-- the gaps of S from 1 to n, in rising order
unfoldable pub gaps_to : Set → ℕ → List ℕ
gaps_to S n = keep (λ x. not (S x)) (run 1 n)

-- n is a sum of two positive elements of S
unfoldable pub sum_of_two : Set → ℕ → Bool
sum_of_two S n = not (every (λ a. not (S a && S (n - a))) (run 1 (n - 1)))

-- x is a generator of S: a positive element that is no sum of two positive elements
abbrev pub generator_of : Set → ℕ → Bool
generator_of S x = ltb 0 x && S x && not (sum_of_two S x)

-- sums of elements are elements
abbrev pub ClosedUnderAddition : Set → Type 0
ClosedUnderAddition S = (a b : ℕ) → S a ≡ true → S b ≡ true → S (a + b) ≡ true

pub record NumericalSemigroup (S : Set) : Type 0 where
  pub zero_in : S 0 ≡ true
  pub closed : ClosedUnderAddition S
  pub cofinite : (n : ℕ) × ((x : ℕ) → n ≤ x → S x ≡ true)

-- l lists the gaps of S, smallest first
pub record GapsOf (S : Set) (l : List ℕ) : Type 0 where
  pub rising : Ordered ◌<◌ l
  pub missed : (x : ℕ) → Memᴰ x l → S x ≡ false
  pub all : (x : ℕ) → S x ≡ false → Memᴰ x l

-- S has g gaps
abbrev pub HasGenus : Set → ℕ → Type 0
HasGenus S g = (l : List ℕ) × GapsOf S l × (length l ≡ g)

-- m is the multiplicity of S: its least positive element
pub record MultiplicityOf (S : Set) (m : ℕ) : Type 0 where
  pub positive : 0 < m
  pub element : S m ≡ true
  pub least : (x : ℕ) → 0 < x → S x ≡ true → m ≤ x

-- f is the largest gap of S: it is missed, and every number above it belongs to S
pub record LargestGapOf (S : Set) (f : ℕ) : Type 0 where
  pub gap : S f ≡ false
  pub largest : (x : ℕ) → f < x → S x ≡ true

-- z is the largest gap of S as a signed number, and -1 where S has no gaps (`negsuc n` is -(n + 1))
abbrev pub SignedLargestGapOf : Set → ℤ → Type 0
SignedLargestGapOf S (pos f) = LargestGapOf S f
SignedLargestGapOf S (negsuc zero) = (x : ℕ) → S x ≡ true
SignedLargestGapOf S (negsuc (suc n)) = ⊥

-- c is the conductor of S as other algebra packages have it, which the atlas reports: the least number from which on all belong to S, so
-- that it is 0 where S has no gaps (source 000 takes the least positive one)
pub record ReportedConductorOf (S : Set) (c : ℕ) : Type 0 where
  pub on : (x : ℕ) → c ≤ x → S x ≡ true
  pub least : (n : ℕ) → ((x : ℕ) → n ≤ x → S x ≡ true) → c ≤ n
