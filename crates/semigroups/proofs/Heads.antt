-- The first of a list, where there is one: the least of a rising list that passes a test, and the first of a list of all sets with a property, in
-- list order. Assumes nothing.
use Prim.Native.Nat.{ℕ, ◌≤◌, ◌<◌}
use mathlib.Core.Path.{◌≡◌, refl, sym, ◌∙◌, ap, subst, fun_ext}
use mathlib.Core.Logic.{inl, inr, ◌↔◌, ⊎_elim}
use mathlib.Core.Bool.{Bool, true, false}
use mathlib.Core.List.{List, [], ◌∷◌, ◌++◌, head?, Memᴰ}
use mathlib.Core.Option.{none, some, none-ne-some, some-injective}
use native.Mathlib.Omega.{arith}
use lib.ListN.{get_or}
use Rattle.semigroups.specs.Lists.{keep, Ordered}
use Rattle.semigroups.specs.Sets.{Set, GapsOf}
use Rattle.semigroups.specs.Words.{set_of, gaps}
use Rattle.semigroups.specs.GenusList.{AllOf, FirstInOrder, Before, Earlier}
use Rattle.semigroups.proofs.Booleans.{is_false}
use Rattle.semigroups.proofs.Lists.{nothing, keep_mem, mem_keep, ordered_keep, least_first}
use Rattle.semigroups.proofs.Kept.{keep_none, ordered_first}
use Rattle.semigroups.proofs.Sets.{gaps_unique}
use Rattle.semigroups.proofs.Words.{gaps_of, same_set}
use Rattle.semigroups.proofs.ListOrder.{before_asym}

module _ {A : Type 0} where
  -- a list without a first is empty
  pub head_none : (l : List A) → head? l ≡ none → l ≡ []
  head_none [] e = refl
  head_none (x ∷ l) e = absurd (none-ne-some x (sym e))

  -- with a first, it begins with it
  pub head_some : {x : A} (l : List A) → head? l ≡ some x → (t : List A) × (l ≡ x ∷ t)
  head_some {x} [] e = absurd (none-ne-some x e)
  head_some {x} (y ∷ l) e = (l, ap (λ (z : A). z ∷ l) (some-injective y x e))

  -- of two lists joined, the first is that of the first list
  pub head_append_some : {x : A} (k l : List A) → head? k ≡ some x → head? (k ++ l) ≡ some x
  head_append_some {x} [] l e = absurd (none-ne-some x e)
  head_append_some (y ∷ k) l e = e

  -- and where that has none, that of the second
  pub head_append_none : (k l : List A) → head? k ≡ none → head? (k ++ l) ≡ head? l
  head_append_none k l e = ap (λ (t : List A). head? (t ++ l)) (head_none k e)

  -- a list that holds x and nothing else has it as its first
  pub head_only : {x : A} (l : List A) → Memᴰ x l → ((y : A) → Memᴰ y l → y ≡ x) → head? l ≡ some x
  head_only [] m h = absurd (mathlib.Core.List.Memᴰ.not-nil m)
  head_only (y ∷ l) m h = ap some (h y (mathlib.Core.List.Memᴰ.head refl))

-- ---- the least of a rising list that passes a test

module _ (p : ℕ → Bool) (l : List ℕ) where
  -- there is none just where none passes
  pub least_none : (head? (keep p l) ≡ none) ↔ ((x : ℕ) → Memᴰ x l → p x ≡ false)
  least_none = (
    λ e x m. is_false (p x) (λ t. mathlib.Core.List.Memᴰ.not-nil (subst (Memᴰ x) (head_none (keep p l) e) (mem_keep p l m t))),
    λ never. ap head? (keep_none p l never),
  )

  -- else it passes, and none that passes is smaller
  pub least_some : Ordered ◌<◌ l
      → (x : ℕ) → (head? (keep p l) ≡ some x) ↔ (Memᴰ x l × (p x ≡ true) × ((y : ℕ) → Memᴰ y l → p y ≡ true → x ≤ y))
  least_some o x =
      let rising = ordered_keep ◌<◌ p l o in (
        λ e.
            let (t, s) = head_some (keep p l) e in
            let kept = subst (Memᴰ x) (sym s) (mathlib.Core.List.Memᴰ.head refl) in
            let (m, pass) = keep_mem p l kept in
            let first : get_or (keep p l) 0 x ≡ x = ap (λ (k : List ℕ). get_or k 0 x) s in
            (m, pass, λ y n q. omega (arith, (least_first (keep p l) x rising kept).1 y (mem_keep p l n q))),
        λ (m, pass, least).
            ap head? (ordered_first ◌<◌ (keep p l) rising (mem_keep p l m pass) (λ y n b. let (i, q) = keep_mem p l n in omega (arith, least y i q))).1,
      )

-- ---- a list of all sets with P, in list order

module _ {P : Set → Type 0} (l : List ℕ) (a : AllOf P l) where
  -- it has no first exactly when there is no such set
  pub none_of_all : (head? l ≡ none) ↔ ((S : Set) → P S → ⊥)
  none_of_all = (
    λ e S s. let (w, same, m) = a.all S s in mathlib.Core.List.Memᴰ.not-nil (subst (Memᴰ w) (head_none l e) m),
    λ nowhere. ap head? (nothing l (λ w m. nowhere (set_of w) (a.only w m))),
  )

  -- its first is the word of the first such set in list order
  pub first_of_all : (w : ℕ) → (head? l ≡ some w) ↔ FirstInOrder P w
  unfolding Ordered
  first_of_all w = (
    λ e.
        let (t, s) = head_some l e in
        let m : Memᴰ w l = subst (Memᴰ w) (sym s) (mathlib.Core.List.Memᴰ.head refl) in
        record {
          fits = a.fits w m;
          has = a.only w m;
          first = λ S p k gaps-are.
              let (v, same, i) = a.all S p in
              let listed = gaps_unique S k (gaps v) gaps-are (subst (λ (T : Set). GapsOf T (gaps v)) (fun_ext same) (gaps_of v (a.fits v i))) in
              ⊎_elim (λ q. inl (listed ∙ ap gaps q)) (λ j. inr (subst (Before (gaps w)) (sym listed) ((subst (Ordered Earlier) s a.ordered).0 v j)))
              (mathlib.Core.List.Memᴰ.cases_cons (subst (Memᴰ v) s i));
        },
    λ f.
        let (u, same, i) = a.all (set_of w) f.has in
        let here = same_set u w (a.fits u i) f.fits same in
        let (t, s) = ordered_first Earlier l a.ordered (subst (λ (x : ℕ). Memᴰ x l) here i) (λ v m b.
        ⊎_elim (λ q. before_asym (gaps w) (gaps w) (rw q at b) (rw q at b)) (before_asym (gaps v) (gaps w) b)
        (f.first (set_of v) (a.only v m) (gaps v) (gaps_of v (a.fits v m)))) in
        ap head? s,
  )
