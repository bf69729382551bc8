-- What tests keep of a list: tests that agree on it, that all or none pass, and the parts of a list that two or three tests keep. Assumes
-- nothing.
use mathlib.Core.Path.{◌≡◌, refl, sym, ◌∙◌, ap, ap₂, subst}
use mathlib.Core.Logic.{◌⊎◌, ◌↔◌, ⊎_elim}
use mathlib.Core.Bool.{Bool, true, false, ◌&&◌, ◌||◌, and-false}
use mathlib.Core.List.Memᴰ
use mathlib.Core.List.{List, [], ◌∷◌, ◌++◌, append-nil, map, Memᴰ}
use Prim.Native.Nat.{ℕ}
use lib.Dec.{eqb}
use borrow.Author.Tests.{eqb-true}
use Rattle.semigroups.specs.Lists.{keep, keep_if, on_from, Ordered}
use Rattle.semigroups.proofs.Booleans.{not_both, is_false, by_value}
use Rattle.semigroups.proofs.Lists.{nothing, keep_mem, mem_keep, keep_in, keep_out, keep_append, append_each, ordered_keep, ordered_append, ordered_parts, ordered_unique}

module _ {A : Type 0} where
  -- two tests that agree on a list keep the same of it
  pub keep_same : (p q : A → Bool) (l : List A) → ((x : A) → Memᴰ x l → p x ≡ q x) → keep p l ≡ keep q l
  unfolding keep
  keep_same p q [] h = refl
  keep_same p q (x ∷ l) h = ap₂ (λ (b : Bool) (k : List A). keep_if b x k) (h x (Memᴰ.head refl)) (keep_same p q l (λ y m. h y (Memᴰ.tail m)))

  -- what two tests keep, one after the other
  pub keep_both : (p q : A → Bool) (l : List A) → keep p (keep q l) ≡ keep (λ x. q x && p x) l
  unfolding keep
  keep_both p q [] = refl
  keep_both p q (x ∷ l) = by_value (q x) (λ e. rw e (ap (keep_if (p x) x) (keep_both p q l))) (λ e. rw e (keep_both p q l))

  -- of f of each, what the test keeps
  pub keep_map : {B : Type 0} (p : A → Bool) (f : B → A) (l : List B) → keep p (map f l) ≡ map f (keep (λ x. p (f x)) l)
  unfolding keep
  keep_map p f [] = refl
  keep_map p f (x ∷ l) = by_value (p (f x)) (λ e. rw e (ap (λ (k : List A). f x ∷ k) (keep_map p f l))) (λ e. rw e (keep_map p f l))

  -- where all of a list that pass p pass q, p keeps of it what p keeps of those that pass q
  pub keep_within : (p q : A → Bool) (l : List A) → ((x : A) → Memᴰ x l → p x ≡ true → q x ≡ true) → keep p l ≡ keep p (keep q l)
  keep_within p q l h =
      keep_same p (λ x. q x && p x) l (λ x m. by_value (p x) (λ e. rw (e, h x m e)) (λ e. rw e (sym (and-false (q x))))) ∙ sym (keep_both p q l)

  -- a test that all pass keeps the list
  pub keep_all : (p : A → Bool) (l : List A) → ((x : A) → Memᴰ x l → p x ≡ true) → keep p l ≡ l
  unfolding keep
  keep_all p [] h = refl
  keep_all p (x ∷ l) h = keep_in p x l (h x (Memᴰ.head refl)) ∙ ap (λ (k : List A). x ∷ k) (keep_all p l (λ y m. h y (Memᴰ.tail m)))

  -- a test that none pass keeps nothing
  pub keep_none : (p : A → Bool) (l : List A) → ((x : A) → Memᴰ x l → p x ≡ false) → keep p l ≡ []
  keep_none p l h = nothing (keep p l) (λ x m. let (i, e) = keep_mem p l m in not_both e (h x i))

  -- of two lists joined, it keeps the first where all of that pass and none of the second do
  pub keep_front : (p : A → Bool) (k l : List A) → ((x : A) → Memᴰ x k → p x ≡ true) → ((x : A) → Memᴰ x l → p x ≡ false) → keep p (k ++ l) ≡ k
  keep_front p k l pass fail = keep_append p k l ∙ ap₂ ◌++◌ (keep_all p k pass) (keep_none p l fail) ∙ append-nil k

  -- where none that pass p come after one that passes q, or are one, those that pass p or q are the ones and then the others
  pub keep_apart : (p q r : A → Bool) (l : List A) → ((x : A) → r x ≡ (p x || q x)) → ((x : A) → q x ≡ true → p x ≡ false)
      → Ordered (λ x y. q x ≡ true → p y ≡ false) l → keep r l ≡ keep p l ++ keep q l
  unfolding keep Ordered
  keep_apart p q r [] either not-one o = refl
  keep_apart p q r (x ∷ l) either not-one o =
      by_value (q x)
      (λ e.
      let none : keep p (x ∷ l) ≡ [] = keep_out p x l (not-one x e) ∙ keep_none p l (λ y m. o.0 y m e) in
      keep_in r x l (either x ∙ rw (e, not-one x e))
      ∙ ap (λ (k : List A). x ∷ k) (keep_same r q l (λ y m. either y ∙ rw (o.0 y m e)))
      ∙ sym (ap₂ ◌++◌ none (keep_in q x l e)))
      (λ e.
      by_value (p x)
      (λ f.
      keep_in r x l (either x ∙ rw f) ∙ ap (λ (k : List A). x ∷ k) (keep_apart p q r l either not-one o.1)
      ∙ sym (ap₂ ◌++◌ (keep_in p x l f) (keep_out q x l e)))
      (λ f.
      keep_out r x l (either x ∙ rw (e, f)) ∙ keep_apart p q r l either not-one o.1
      ∙ sym (ap₂ ◌++◌ (keep_out p x l f) (keep_out q x l e))))

  -- in a list ordered by R the member that none comes before is the first
  pub ordered_first : (R : A → A → Type 0) (l : List A) {x : A} → Ordered R l → Memᴰ x l → ((y : A) → Memᴰ y l → R y x → ⊥)
      → (t : List A) × (l ≡ x ∷ t)
  unfolding Ordered
  ordered_first R [] o m first = elim m [ ]
  ordered_first R (y ∷ l) o (Memᴰ.head e) first = (l, ap (λ (z : A). z ∷ l) (sym e))
  ordered_first R (y ∷ l) {x} o (Memᴰ.tail m) first = absurd (first y (Memᴰ.head refl) (o.0 x m))

  -- R is asymmetric: it holds one way round only
  module _ (R : A → A → Type 0) (asym : (x y : A) → R x y → R y x → ⊥) where
    -- a list ordered by R is three parts joined, those that pass p, those that pass q and those that pass r, where each member passes one of the
    -- tests and R holds from part to part
    pub ordered_three : (p q r : A → Bool) (l : List A) → Ordered R l → ((x : A) → Memᴰ x l → (p x ≡ true) ⊎ ((q x ≡ true) ⊎ (r x ≡ true)))
        → ((x y : A) → p x ≡ true → q y ≡ true → R x y) → ((x y : A) → p x ≡ true → r y ≡ true → R x y) → ((x y : A) → q x ≡ true → r y ≡ true → R x y)
        → keep p l ++ (keep q l ++ keep r l) ≡ l
    ordered_three p q r l o one pq pr qr =
        ordered_unique R asym (keep p l ++ (keep q l ++ keep r l)) l
        (ordered_append R (keep p l) (keep q l ++ keep r l) (ordered_keep R p l o)
        (ordered_append R (keep q l) (keep r l) (ordered_keep R q l o) (ordered_keep R r l o) (λ x y m n. qr x y (keep_mem q l m).1 (keep_mem r l n).1))
        (λ x y m. append_each (keep q l) (keep r l) (λ z n. pq x z (keep_mem p l m).1 (keep_mem q l n).1) (λ z n. pr x z (keep_mem p l m).1 (keep_mem r l n).1) y))
        o
        (append_each (keep p l) (keep q l ++ keep r l) (λ x m. (keep_mem p l m).0)
        (append_each (keep q l) (keep r l) (λ x m. (keep_mem q l m).0) (λ x m. (keep_mem r l m).0)))
        (λ x m.
        ⊎_elim (λ e. Memᴰ.append_left (keep q l ++ keep r l) (mem_keep p l m e))
        (λ e.
        Memᴰ.append_right (keep p l)
        (⊎_elim (λ f. Memᴰ.append_left (keep r l) (mem_keep q l m f)) (λ f. Memᴰ.append_right (keep q l) (mem_keep r l m f)) e)) (one x m))

    -- what comes before a member of it is what stands in front of that
    pub in_front_of : (p : A → Bool) (k l : List A) (x : A) → ((y : A) → (p y ≡ true) ↔ R y x) → Ordered R (k ++ x ∷ l) → keep p (k ++ x ∷ l) ≡ k
    unfolding Ordered
    in_front_of p k l x decides o =
        let (later, in-front) = ordered_parts R k (x ∷ l) o in
        keep_front p k (x ∷ l) (λ y m. (decides y).1 (in-front y x m (Memᴰ.head refl)))
        (λ y m.
        is_false (p y) (λ e.
        let b = (decides y).0 e in
        ⊎_elim (λ q. let b' = subst (R y) (sym q) b in asym y y b' b') (λ n. asym y x b (later.0 y n)) (Memᴰ.cases_cons m)))

-- from a number that passes on, the test keeps what it keeps from it on
pub on_from_keep : (p : ℕ → Bool) (x : ℕ) (l : List ℕ) → p x ≡ true → on_from x (keep p l) ≡ keep p (on_from x l)
unfolding on_from keep
on_from_keep p x [] e = refl
on_from_keep p x (y ∷ l) e =
    by_value (eqb x y)
    (λ same.
    let passes : p y ≡ true = sym (ap p (eqb-true x y same)) ∙ e in
    rw (same, keep_in p y l passes, same))
    (λ other.
    by_value (p y)
    (λ passes. rw (keep_in p y l passes, other) (on_from_keep p x l e))
    (λ fails. rw (keep_out p y l fails, other) (on_from_keep p x l e)))
