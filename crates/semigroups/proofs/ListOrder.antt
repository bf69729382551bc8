-- List order: at the first place where two lists of numbers differ, the smaller number comes first. Assumes nothing.
use Prim.Native.Nat.{ℕ, ◌≤◌}
use mathlib.Core.Path.{◌≡◌, refl, sym, ◌∙◌, subst₂}
use mathlib.Core.Logic.{◌⊎◌, inl, inr, ⊎_elim}
use mathlib.Core.Bool.{true, and-eq-true_iff}
use mathlib.Core.List.{List, [], ◌∷◌, ◌++◌, append-nil, map}
use native.Mathlib.Omega.{arith}
use native.Mathlib.Nat.{eq-or-lt_of_le}
use native.Mathlib.Decide.{dec_lt}
use lib.Dec.{eqb}
use lib.ListN.{length}
use borrow.Author.Tests.{eq-eqb}
use Rattle.semigroups.specs.Lists.{begins, Ordered}
use Rattle.semigroups.specs.Words.{gaps}
use Rattle.semigroups.specs.GenusList.{Before, Earlier}
use Rattle.semigroups.proofs.Lists.{begins_rest, ordered_map}

-- it holds one way round only
pub before_asym : (k l : List ℕ) → Before k l → Before l k → ⊥
unfolding Before
before_asym [] l b c = b
before_asym (x ∷ k) [] b c = b
before_asym (x ∷ k) (y ∷ l) (inl h) (inl i) = omega arith
before_asym (x ∷ k) (y ∷ l) (inl h) (inr c) = omega arith
before_asym (x ∷ k) (y ∷ l) (inr b) (inl i) = omega arith
before_asym (x ∷ k) (y ∷ l) (inr b) (inr c) = before_asym k l b.1 c.1

-- so of words
pub earlier_asym : (v w : ℕ) → Earlier v w → Earlier w v → ⊥
earlier_asym v w = before_asym (gaps v) (gaps w)

-- and what comes before one that comes before m comes before m
pub before_trans : (k l m : List ℕ) → Before k l → Before l m → Before k m
unfolding Before
before_trans [] l m b c = b
before_trans (x ∷ k) [] m b c = absurd b
before_trans (x ∷ k) (y ∷ l) [] b c = c
before_trans (x ∷ k) (y ∷ l) (z ∷ m) (inl h) (inl i) = inl (omega arith)
before_trans (x ∷ k) (y ∷ l) (z ∷ m) (inl h) (inr c) = inl (omega (arith, c.0))
before_trans (x ∷ k) (y ∷ l) (z ∷ m) (inr b) (inl i) = inl (omega (arith, b.0))
before_trans (x ∷ k) (y ∷ l) (z ∷ m) (inr b) (inr c) = inr (b.0 ∙ c.0, before_trans k l m b.1 c.1)

-- it holds whatever comes behind the two lists
pub before_longer : (k l s t : List ℕ) → Before k l → Before (k ++ s) (l ++ t)
unfolding Before
before_longer [] l s t b = absurd b
before_longer (x ∷ k) [] s t b = absurd b
before_longer (x ∷ k) (y ∷ l) s t (inl h) = inl h
before_longer (x ∷ k) (y ∷ l) s t (inr b) = inr (b.0, before_longer k l s t b.1)

-- it stays behind the same beginning
pub before_append : (k l m : List ℕ) → Before l m → Before (k ++ l) (k ++ m)
unfolding Before
before_append [] l m b = b
before_append (x ∷ k) l m b = inr (refl, before_append k l m b)

pub ordered_behind : (x : ℕ) (l : List (List ℕ)) → Ordered Before l → Ordered Before (map (λ k. x ∷ k) l)
ordered_behind x l o = ordered_map Before Before (λ k. x ∷ k) l o (λ k m i j. before_append (x ∷ []) k m)

-- ---- lists that begin with another

-- a list that is not shorter than k comes before it, begins with it or comes after it
pub three_ways : (k l : List ℕ) → length k ≤ length l → Before l k ⊎ ((begins k l ≡ true) ⊎ Before k l)
unfolding Before begins
three_ways [] l h = inr (inl refl)
three_ways (x ∷ k) [] h = absurd (omega arith)
three_ways (x ∷ k) (y ∷ l) h =
    ⊎_elim (λ b. inl (inl b))
    (⊎_elim
    (λ e.
    ⊎_elim (λ b. inl (inr (sym e, b)))
    (⊎_elim (λ b. inr (inl ((and-eq-true_iff (eqb x y) (begins k l)).1 (eq-eqb x y e, b)))) (λ b. inr (inr (inr (e, b)))))
    (three_ways k l (omega arith)))
    (λ b. inr (inr (inl b))))
    (elim (dec_lt y x) [ yes l ↦ inl l | no l ↦ inr (eq-or-lt_of_le (omega arith)) ])

-- what begins with k comes before what k comes before, and after what comes before k
pub begins_follows : (k l m : List ℕ) → begins k l ≡ true → (Before k m → Before l m) × (Before m k → Before m l)
begins_follows k l m e =
    let (r, s) = begins_rest k l e in
    (λ b. subst₂ Before s (append-nil m) (before_longer k m r [] b), λ b. subst₂ Before (append-nil m) s (before_longer m k [] r b))

-- so that it comes neither before nor after k itself
pub begins_apart : (k l : List ℕ) → begins k l ≡ true → (Before l k → ⊥) × (Before k l → ⊥)
begins_apart k l e =
    let (before, after) = begins_follows k l l e in
    (λ b. before_asym l l (after b) (after b), λ b. before_asym l l (before b) (before b))
