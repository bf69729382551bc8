-- Places of a list: the first place of a number, and a list without one place. Assumes nothing.
use Prim.Native.Nat.{ℕ, suc, ◌+◌, ◌-◌, ◌≤◌, ◌<◌}
use mathlib.Core.Path.{◌≡◌, refl, sym, ap, ap₂, ◌∙◌}
use mathlib.Core.Logic.{◌↔◌}
use mathlib.Core.Bool.{Bool, true, false, cond, not}
use mathlib.Core.List.{List, [], ◌∷◌, ◌++◌, Memᴰ, append-nil}
use native.Mathlib.Omega.{arith}
use native.Mathlib.Decide.{dec_lt}
use native.Mathlib.Numerals.{add-one}
use lib.Dec.{eqb, ltb}
use lib.ListN.{length, get_or, take, drop, length-append, length-take, length-drop, get_or-append}
use lib.Seq.{take-append_seam, drop-append-add, get_or-append-add, get_or-take, get_or-drop, length-take-le}
use borrow.Author.Tests.{eq-eqb, ne_eqb, lt-ltb, le-ltb}
use Rattle.std.specs.Prelude.{Option, Some, None}
use Rattle.std.specs.List.{position_or_len}
use Rattle.semigroups.specs.Lists.{member_of}
use Rattle.semigroups.proofs.Booleans.{not_both, is_true}
use Rattle.semigroups.proofs.Membership.{member_iff, first_split}
use Rattle.changes.specs.Changes.{without_first}
use Rattle.changes.proofs.Changes.{without_first_is}
use Rattle.editor.specs.Private.{first_place, without_place, skipping}

module _ (a : ℕ) where
  -- behind a part without a
  first_place_later : (k l : List ℕ) → (¬ Memᴰ a k) → first_place a (k ++ l) ≡ length k + first_place a l
  unfolding first_place
  first_place_later [] l fresh = omega arith
  first_place_later (x ∷ k) l fresh =
      rw (ne_eqb x a (λ e. fresh (Memᴰ.head (sym e)))) (omega (arith, first_place_later k l (λ m. fresh (Memᴰ.tail m))))

  -- the first a stands at it
  pub first_place_is : (k l : List ℕ) → (¬ Memᴰ a k) → first_place a (k ++ a ∷ l) ≡ length k
  unfolding first_place
  first_place_is k l fresh =
      let here : first_place a (a ∷ l) ≡ 0 = simp (eq-eqb a a refl) in
      omega (arith, first_place_later k (a ∷ l) fresh)

  -- it is a place of the list just where a is in it
  pub first_place_iff : (l : List ℕ) → Memᴰ a l ↔ (first_place a l < length l)
  unfolding first_place
  first_place_iff l = (
    λ m.
        let (k, t, whole, fresh) = first_split l m in
        omega (arith, ap (first_place a) (sym whole) ∙ first_place_is k t fresh, ap length whole, length-append k (a ∷ t)),
    λ h. (member_iff l a).0 (is_true (member_of l a) (λ e. omega (arith, none l (λ m. not_both ((member_iff l a).1 m) e)))),
  )
    where
      none : (l : List ℕ) → (¬ Memᴰ a l) → first_place a l ≡ length l
      none l fresh = ap (first_place a) (sym (append-nil l)) ∙ first_place_later l [] fresh ∙ omega arith

  -- it is the library's word for it
  pub first_place_position : (l : List ℕ) → position_or_len (λ x. eqb x a) l ≡ first_place a l
  unfolding first_place
  first_place_position [] = refl
  first_place_position (x ∷ l) = by_test (eqb x a) (omega (arith, first_place_position l))
    where
      by_test : (t : Bool) → 1 + position_or_len (λ x. eqb x a) l ≡ suc (first_place a l)
          → cond (not t) (1 + position_or_len (λ x. eqb x a) l) 0 ≡ cond t 0 (suc (first_place a l))
      by_test true e = refl
      by_test false e = e

  -- what the library's search for a gives: its first place, where it is in the list
  module _ (l : List ℕ) (o : Option ℕ)
      (searched : o ≡ cond (ltb (position_or_len (λ x. eqb x a) l) (length l)) (Some (position_or_len (λ x. eqb x a) l)) None) where
    at_first : o ≡ cond (ltb (first_place a l) (length l)) (Some (first_place a l)) None
    at_first = searched ∙ ap (λ (n : ℕ). cond (ltb n (length l)) (Some n) None) (first_place_position l)

    pub search_found : (place : ℕ) → o ≡ Some place → (place ≡ first_place a l) × (place < length l)
    search_found place e =
        elim (dec_lt (first_place a l) (length l)) [
          | yes h ↦
              let here : Some (first_place a l) ≡ Some place = sym (at_first ∙ rw (lt-ltb (first_place a l) (length l) h)) ∙ e in
              let same : place ≡ first_place a l = cc in
              (same, omega arith)
          | no h ↦
              let none : ◌≡◌ {A = Option ℕ} None (Some place) = sym (at_first ∙ rw (le-ltb (first_place a l) (length l) (omega arith))) ∙ e in
              absurd cc
        ]

    pub search_none : o ≡ None → ¬ Memᴰ a l
    search_none e m =
        let here : Some (first_place a l) ≡ None = sym (at_first ∙ rw (lt-ltb (first_place a l) (length l) ((first_place_iff l).0 m))) ∙ e in
        cc

  -- without it, the list is without its first a
  pub first_place_without : (l : List ℕ) → first_place a l < length l → without_place (first_place a l) l ≡ without_first a l
  unfolding without_place
  first_place_without l h =
      let (k, t, whole, fresh) = first_split l ((first_place_iff l).1 h) in
      let place = ap (first_place a) (sym whole) ∙ first_place_is k t fresh in
      let back : drop (suc (length k)) (k ++ a ∷ t) ≡ t = ap (λ (n : ℕ). drop n (k ++ a ∷ t)) (sym (add-one (length k))) ∙ drop-append-add k (a ∷ t) 1 in
      ap₂ without_place place (sym whole) ∙ ap₂ ◌++◌ (take-append_seam k (a ∷ t)) back ∙ sym (ap (without_first a) (sym whole) ∙ without_first_is a k t fresh)

-- ---- a list without one place

-- a place of the shorter list is one of the whole list
pub skipping_lt : (i place n : ℕ) → suc i < n → skipping i place < n
skipping_lt i place n h =
    elim (dec_lt i place) [
      | yes k ↦ rw (lt-ltb i place k) (omega arith)
      | no k ↦ rw (le-ltb i place (omega arith)) (omega arith)
    ]

module _ (l : List ℕ) (place : ℕ) (there : place < length l) where
  -- it has one number less
  pub without_place_length : suc (length (without_place place l)) ≡ length l
  unfolding without_place
  without_place_length =
      omega (arith, length-append (take place l) (drop (suc place) l), length-take place l, length-drop (suc place) l)

  -- its numbers before the place stand as they did, those behind it one place further up
  pub without_place_entry : (i : ℕ) → get_or (without_place place l) i 0 ≡ get_or l (skipping i place) 0
  unfolding without_place
  without_place_entry i =
      let front : length (take place l) ≡ place = length-take-le place l (omega arith) in
      elim (dec_lt i place) [
        | yes h ↦ get_or-append (take place l) (drop (suc place) l) 0 i (omega arith) ∙ get_or-take place l i 0 h ∙ rw (lt-ltb i place h)
        | no h ↦
            let at : i ≡ length (take place l) + (i - place) = omega arith in
            let source : suc place + (i - place) ≡ i + 1 = omega arith in
            ap (λ (j : ℕ). get_or (take place l ++ drop (suc place) l) j 0) at ∙ get_or-append-add (take place l) (drop (suc place) l) (i - place) 0
            ∙ get_or-drop (suc place) l (i - place) 0 ∙ ap (λ (j : ℕ). get_or l j 0) source ∙ rw (le-ltb i place (omega arith))
      ]
