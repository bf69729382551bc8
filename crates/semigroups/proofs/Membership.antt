-- The members of a list as a set, and the first place of a member. Assumes nothing.
use Prim.Native.Nat.{ℕ, ◌+◌, ◌<◌}
use mathlib.Core.Path.{◌≡◌, refl, sym, ap, ◌∙◌}
use mathlib.Core.Logic.{◌↔◌, ⊎_elim}
use mathlib.Core.Bool.{true, not, ◌||◌}
use mathlib.Core.List.Memᴰ
use mathlib.Core.List.{List, [], ◌∷◌, ◌++◌, Memᴰ}
use native.Mathlib.Numerals.{add-one}
use lib.Dec.{eqb}
use lib.ListN.{length, get_or, take}
use lib.Seq.{take-suc}
use borrow.Author.Tests.{eqb-true, eqb-false, eq-eqb, not-true, not-false}
use Rattle.semigroups.specs.Lists.{every, member_of}
use Rattle.semigroups.proofs.Booleans.{not_both, is_false, by_value}
use Rattle.semigroups.proofs.Lists.{every_mem, every_false, some_more}

-- the test of a member
pub member_iff : (A : List ℕ) (x : ℕ) → (member_of A x ≡ true) ↔ Memᴰ x A
unfolding member_of
member_iff A x = (
  λ e. let (a, m, f) = every_false (λ a. not (eqb a x)) A (not-true _ e) in Memᴰ.cast (sym (eqb-true a x (not-false _ f))) m,
  λ m. ap not (is_false (every (λ a. not (eqb a x)) A) (λ e. not_both (eq-eqb x x refl) (not-true _ (every_mem (λ a. not (eqb a x)) A e m)))),
)

-- the members before i + 1 are those before i and that at i
pub member_more : (l : List ℕ) (i x : ℕ) → i < length l → member_of (take (i + 1) l) x ≡ (member_of (take i l) x || eqb (get_or l i 0) x)
unfolding member_of
member_more l i x h =
    ap (λ (k : List ℕ). not (every (λ a. not (eqb a x)) k)) (ap (λ (j : ℕ). take j l) (add-one i) ∙ take-suc l i 0 h)
    ∙ some_more (λ a. eqb a x) (take i l) (get_or l i 0)

-- where x is in l, a part of l that has no x stands before the first x
pub first_split : {x : ℕ} (l : List ℕ) → Memᴰ x l → (k t : List ℕ) × (k ++ x ∷ t ≡ l) × (¬ Memᴰ x k)
first_split [] m = absurd (Memᴰ.not-nil m)
first_split {x} (y ∷ l) m =
    by_value (eqb y x) (λ e. ([], l, ap (λ (z : ℕ). z ∷ l) (sym (eqb-true y x e)), λ n. Memᴰ.not-nil n))
    (λ e.
    let other : ¬ (x ≡ y) = λ s. eqb-false y x e (sym s) in
    let (k, t, whole, fresh) = first_split l (⊎_elim (λ s. absurd (other s)) (λ n. n) (Memᴰ.cases_cons m)) in
    (y ∷ k, t, ap (λ (r : List ℕ). y ∷ r) whole, λ n. ⊎_elim other fresh (Memᴰ.cases_cons n)))
