-- Numbers counted up at places of a list: what one more changes, what all of a list of places change, and where a loop stands that counts them up.
-- Assumes nothing.
use Prim.Native.Nat.{ℕ, suc, ◌+◌, ◌≤◌, ◌<◌}
use mathlib.Core.Path.{◌≡◌, refl, sym, ap, ◌∙◌, subst}
use mathlib.Core.List.{List, [], ◌∷◌, ◌++◌, map, map-append}
use native.Mathlib.Omega.{arith}
use native.Mathlib.Nat.{add-zero}
use native.Mathlib.Decide.{ℕ_discrete, dec_lt}
use lib.Dec.{eqb}
use lib.ListN.{length, get_or, length-set, length-append, length-map, length-replicate, get_or-eq_default}
use lib.Seq.{get_or-set_same, get_or-set_other}
use borrow.Author.Tests.{eq-eqb, ne_eqb}
use Rattle.semigroups.specs.Lists.{keep, keep_if}
use Rattle.semigroups.proofs.Lists.{get_d_append_default}
use Rattle.census.specs.Private.{blank, one_more_at, tallied, RoomFor}

-- places without any
pub blank_length : (n : ℕ) → length (blank n) ≡ n
unfolding blank
blank_length n = length-replicate {A = ℕ} n 0

pub blank_at : (n p : ℕ) → get_or (blank n) p 0 ≡ 0
unfolding blank
blank_at n p = get_d_append_default [] n p 0

-- ---- counting up

pub one_more_length : (p : ℕ) (o : List ℕ) → length (one_more_at p o) ≡ length o
unfolding one_more_at
one_more_length p o = length-set o p (get_or o p 0 + 1)

-- one more at p is one more there
pub one_more_same : (p : ℕ) (o : List ℕ) → p < length o → get_or (one_more_at p o) p 0 ≡ get_or o p 0 + 1
unfolding one_more_at
one_more_same p o h = get_or-set_same o p (get_or o p 0 + 1) 0 h

-- and no more at any other place
pub one_more_other : (p q : ℕ) (o : List ℕ) → ¬ (q ≡ p) → get_or (one_more_at p o) q 0 ≡ get_or o q 0
unfolding one_more_at
one_more_other p q o h = get_or-set_other o p q (get_or o p 0 + 1) 0 h

pub tallied_length : (l o : List ℕ) → length (tallied l o) ≡ length o
unfolding tallied
tallied_length [] o = refl
tallied_length (p ∷ l) o = tallied_length l (one_more_at p o) ∙ one_more_length p o

pub tallied_append : (k l o : List ℕ) → tallied (k ++ l) o ≡ tallied l (tallied k o)
unfolding tallied
tallied_append [] l o = refl
tallied_append (p ∷ k) l o = tallied_append k l (one_more_at p o)

-- at a place there are as many more as the list has of it
pub tallied_at : (l o : List ℕ) (p : ℕ) → p < length o → get_or (tallied l o) p 0 ≡ get_or o p 0 + length (keep (λ q. eqb q p) l)
unfolding tallied keep keep_if
tallied_at [] o p h = sym (add-zero (get_or o p 0))
tallied_at (q ∷ l) o p h =
    let rest = tallied_at l (one_more_at q o) p (omega (arith, one_more_length q o)) in
    elim (ℕ_discrete q p) [
      | yes e ↦ rw (eq-eqb q p e) (omega (arith, rest, one_more_same p o h, ap (λ (k : ℕ). get_or (one_more_at k o) p 0) e))
      | no e ↦ rw (ne_eqb q p e) (omega (arith, rest, one_more_other q p o (λ f. e (sym f))))
    ]

-- one more at a place is at most one more at each
one_more_le : (p q : ℕ) (o : List ℕ) → get_or (one_more_at p o) q 0 ≤ get_or o q 0 + 1
one_more_le p q o = elim (ℕ_discrete q p) [
  | yes e ↦ elim (dec_lt q (length o)) [
    | yes h ↦ omega (arith, ap (λ (k : ℕ). get_or (one_more_at k o) q 0) (sym e), one_more_same q o h)
    | no h ↦ omega (arith, get_or-eq_default (one_more_at p o) 0 {n = q} (omega (arith, one_more_length p o)))
  ]
  | no e ↦ omega (arith, one_more_other p q o e)
]

-- room for more is room for fewer
pub room_for_fewer : {m n : ℕ} {o : List ℕ} → m ≤ n → RoomFor n o → RoomFor m o
room_for_fewer h r = record { places = r.places; below = λ q k. omega (arith, r.below q k) }

-- where there was room for one more and n others, there is room for the others
pub room_after_one : {n : ℕ} (p : ℕ) (o : List ℕ) → RoomFor (suc n) o → RoomFor n (one_more_at p o)
room_after_one p o r = record { places = omega (arith, r.places, one_more_length p o); below = λ q h. omega (arith, r.below q h, one_more_le p q o) }

-- and where there was room for all of a list and n others
pub room_after : {n : ℕ} (l o : List ℕ) → RoomFor (length l + n) o → RoomFor n (tallied l o)
unfolding tallied
room_after [] o r = room_for_fewer (omega arith) r
room_after (p ∷ l) o r = room_after l (one_more_at p o) (room_after_one p o (room_for_fewer (omega arith) r))

-- ---- a loop that counts up

-- a list in two parts
pub record InParts (k l whole : List ℕ) : Type 0 where
  pub split : whole ≡ k ++ l

-- a loop adds one at the place f x of each x of a list: o₀ has the numbers before the loop, o has those now, and the x of rest are left
pub record Tallying (f : ℕ → ℕ) (all rest o₀ o : List ℕ) : Type 0 where
  pub size : length o ≡ length o₀
  pub room : RoomFor (length rest) o
  pub total : tallied (map f rest) o ≡ tallied (map f all) o₀

-- at first all are left
pub tally_begins : (f : ℕ → ℕ) {all rest o : List ℕ} → all ≡ rest → RoomFor (length all) o → Tallying f all rest o o
tally_begins f {all} {rest} {o} same room = subst (λ (l : List ℕ). Tallying f all l o o) same record { size = refl; room = room; total = refl }

module _ {f : ℕ → ℕ} {all rest o₀ o : List ℕ} (at : Tallying f all rest o₀ o) where
  -- what is left has two parts
  module _ {k l : List ℕ} (parts : InParts k l rest) where
    -- their lengths are together that of the whole
    abbrev sizes : length rest ≡ length k + length l
    sizes = ap length parts.split ∙ length-append k l

    -- there is room for the first
    pub room_first : RoomFor (length k) o
    room_first = room_for_fewer (omega (arith, sizes)) at.room

    -- after it the second is left
    pub tally_again : {p : List ℕ} → p ≡ tallied (map f k) o → Tallying f all l o₀ p
    tally_again {p} done = record {
      size = ap length done ∙ tallied_length (map f k) o ∙ at.size;
      room = subst (RoomFor (length l)) (sym done) (room_after (map f k) o (room_for_fewer (omega (arith, sizes, length-map k f)) at.room));
      total =
          ap (tallied (map f l)) done ∙ sym (tallied_append (map f k) (map f l) o)
          ∙ ap (λ (t : List ℕ). tallied t o) (sym (ap (map f) parts.split ∙ map-append f k l)) ∙ at.total;
    }

  -- at last none is left
  pub tally_ends : rest ≡ [] → o ≡ tallied (map f all) o₀
  unfolding tallied
  tally_ends none = rw none at at.total
