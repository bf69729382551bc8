-- Words put into a lent list: one after the other, and what became of the list when all were put. Assumes nothing.
use Rattle.std.proofs.Common.{◌≡◌, ℕ, zero, suc, ◌+◌, ◌%◌, ◌^◌, ◌<◌, ◌≤◌, min, cond, List, [], ◌∷◌, ◌++◌, map, length, get_or, take, drop, set, sym, refl, ap, ◌∙◌, append_assoc, add-zero, zero-add, add-one, arith, length-append, length-set, le-ltb, lt-ltb}
use Rattle.std.specs.Prelude.{Result, Ok, Err, IsErrAnd}
use mathlib.Core.List.{head?}
use mathlib.Core.Option as O
use native.Mathlib.Decide.{dec_lt}
use lib.Seq.{set-append_seam}
use Rattle.semigroups.specs.Lists.{none}
use Rattle.semigroups.proofs.StandingBits.{positions_zero}
use Rattle.nodes.proofs.Branches.{TakenOff}
use Rattle.lending.specs.Lending.{Lent, put_one, put_all, with_each}
use Rattle.lending.specs.declared.NoRoom.{NoRoom}

-- ---- one word

module _ (x : ℕ) (o : List ℕ) (at : ℕ) where
  -- at the next place, where the list has it
  pub put_room : at < length o → put_one x (o, Ok at) ≡ (set o at x, Ok (at + 1))
  unfolding put_one
  put_room h = rw (lt-ltb at (length o) h)

  -- without room, where the list is full
  pub put_full : length o ≤ at → put_one x (o, Ok at) ≡ (o, Err record { next = x })
  unfolding put_one
  put_full h = rw (le-ltb at (length o) h)

-- the list keeps its length when a word is put
kept_one : (x : ℕ) (t : Lent) → length (put_one x t).0 ≡ length t.0
unfolding put_one
kept_one x (o, Err e) = refl
kept_one x (o, Ok at) = elim (dec_lt at (length o)) [
  | yes l ↦ rw (lt-ltb at (length o) l) (length-set o at x)
  | no l ↦ rw (le-ltb at (length o) (omega arith))
]

-- and when a list is
pub kept_all : (l : List ℕ) (t : Lent) → length (put_all l t).0 ≡ length t.0
unfolding put_all
kept_all [] t = refl
kept_all (x ∷ l) t = kept_all l (put_one x t) ∙ kept_one x t

-- ---- one list after the other

-- two lists joined are put one after the other
put_append : (a b : List ℕ) (t : Lent) → put_all (a ++ b) t ≡ put_all b (put_all a t)
unfolding put_all
put_append [] b t = refl
put_append (x ∷ a) b t = put_append a b (put_one x t)

-- where a word found no room, nothing more is put
pub put_more : (l : List ℕ) (o : List ℕ) (e : NoRoom) → put_all l (o, Err e) ≡ (o, Err e)
unfolding put_all put_one
put_more [] o e = refl
put_more (x ∷ l) o e = put_more l o e

-- what a `?` hands on of the word that found no room
handed_on : (o : List ℕ) (r : Result ℕ NoRoom) (e : NoRoom) {t : Lent} → IsErrAnd r (λ d. d ≡ e) → (o, Err e) ≡ t → (o, r) ≡ t
handed_on o (Ok at) e h same = absurd h
handed_on o (Err d) e h same = ap (λ (d : NoRoom). (o, Err d)) h ∙ same

-- from a place of the list on, the place after words that all found room is one of the list, or its end
pub put_within : (l o : List ℕ) (at : ℕ) {out : List ℕ} {next : ℕ} → at ≤ length o → (out, Ok next) ≡ put_all l (o, Ok at) → next ≤ length out
unfolding put_all
put_within [] o at {out} {next} room e =
    let place : ◌≡◌ {A = Result ℕ NoRoom} (Ok next) (Ok at) = ap (λ (t : Lent). t.1) e in
    let same : next ≡ at = cc in
    omega (arith, ap (λ (t : Lent). length t.0) e)
put_within (x ∷ l) o at {out} {next} room e = elim (dec_lt at (length o)) [
  | yes h ↦ put_within l (set o at x) (at + 1) (omega (arith, length-set o at x)) (e ∙ ap (put_all l) (put_room x o at h))
  | no h ↦
      let full : ◌≡◌ {A = Result ℕ NoRoom} (Ok next) (Err record { next = x }) = ap (λ (t : Lent). t.1) (e ∙ ap (put_all l) (put_full x o at (omega arith)) ∙ put_more l o _) in
      absurd cc
]

-- l is the words of a and then those of b
module _ (a b : List ℕ) {l : List ℕ} (parts : l ≡ a ++ b) (o : List ℕ) (at : ℕ) where
  -- to put l is to put those of a, and then those of b
  put_parts : put_all l (o, Ok at) ≡ put_all b (put_all a (o, Ok at))
  put_parts = ap (λ (l : List ℕ). put_all l (o, Ok at)) parts ∙ put_append a b (o, Ok at)

  -- where one of a found no room, those of b are not put
  pub put_stops : {out : List ℕ} {r : Result ℕ NoRoom} {e : NoRoom} → IsErrAnd r (λ d. d ≡ e) → (out, Err e) ≡ put_all a (o, Ok at) → (out, r) ≡ put_all l (o, Ok at)
  put_stops {out} {r} {e} told h = handed_on out r e told (sym (put_parts ∙ ap (put_all b) (sym h) ∙ put_more b out e))

  -- else they follow
  pub put_follows : {out : List ℕ} {next : ℕ} → (out, Ok next) ≡ put_all a (o, Ok at) → put_all b (out, Ok next) ≡ put_all l (o, Ok at)
  put_follows h = sym (put_parts ∙ ap (put_all b) (sym h))

-- ---- a loop that puts words

-- what holds at its head: `below` has the words of some bits, `rest` has the bits that are left, and all were left when the list was `lent`, with
-- `from` for its next place: to put the words that are left is to put all, and where
-- `from` is not past the end of the list, `at` is not either
pub record Putting (below : ℕ → List ℕ) (bits : ℕ) (lent : List ℕ) (from rest : ℕ) (out : List ℕ) (at : ℕ) : Type 0 where
  pub room : from ≤ length lent → at ≤ length out
  pub same : length out ≡ length lent
  pub whole : put_all (below rest) (out, Ok at) ≡ put_all (below bits) (lent, Ok from)

-- it begins with all bits
pub putting_all : {below : ℕ → List ℕ} {bits : ℕ} {lent : List ℕ} {from : ℕ} → Putting below bits lent from bits lent from
putting_all = record { room = λ h. h; same = refl; whole = refl }

module _ {below : ℕ → List ℕ} {bits from rest at : ℕ} {lent out : List ℕ} (p : Putting below bits lent from rest out at) where
  -- it ends where no word is left
  pub putting_none : below rest ≡ [] → (out, Ok at) ≡ put_all (below bits) (lent, Ok from)
  unfolding put_all
  putting_none none = ap (λ (l : List ℕ). put_all l (out, Ok at)) (sym none) ∙ p.whole

  -- it goes on at the same place where a bit has no words
  pub putting_over : (others : ℕ) → below rest ≡ below others → Putting below bits lent from others out at
  putting_over others same = record { room = p.room; same = p.same; whole = ap (λ (l : List ℕ). put_all l (out, Ok at)) (sym same) ∙ p.whole }

  -- first are the words of one bit and others has the bits after it
  module _ (first : List ℕ) (others : ℕ) (parts : below rest ≡ first ++ below others) {o : List ℕ} where
    -- it ends where one of the words finds no room
    pub putting_stops : {r : Result ℕ NoRoom} {e : NoRoom} → IsErrAnd r (λ d. d ≡ e) → (o, Err e) ≡ put_all first (out, Ok at) → (o, r) ≡ put_all (below bits) (lent, Ok from)
    putting_stops told h = put_stops first (below others) parts out at told h ∙ p.whole

    -- else it goes on with the others
    pub putting_on : {next : ℕ} → (o, Ok next) ≡ put_all first (out, Ok at) → Putting below bits lent from others o next
    putting_on h = record {
      room = λ k. put_within first out at (p.room k) h;
      same = ap (λ (t : Lent). length t.0) h ∙ kept_all first (out, Ok at) ∙ p.same;
      whole = put_follows first (below others) parts out at h ∙ p.whole;
    }

-- ---- all of a list

-- n words are written, and those of l are left: the first of them found no room
abbrev pub leaving : ℕ → List ℕ → Result ℕ NoRoom
leaving n l = cond (none l) (Ok n) (Err record { next = get_or l 0 0 })

-- after the words of p, n of those of l are put over the front of q, and then l or q is at its end
put_after : (l p q : List ℕ) (n : ℕ) → n ≡ min (length q) (length l)
    → put_all l (p ++ q, Ok (length p)) ≡ (p ++ (take n l ++ drop n q), leaving (length p + n) (drop n l))
unfolding put_all none
put_after [] p q zero e = rw add-zero
put_after [] p q (suc n) e = absurd (omega arith)
put_after (x ∷ l) p [] zero e = ap (put_all l) (put_full x _ _ (omega (arith, length-append p []))) ∙ put_more l _ _
put_after (x ∷ l) p [] (suc n) e = absurd (omega arith)
put_after (x ∷ l) p (y ∷ q) zero e = absurd (omega arith)
put_after (x ∷ l) p (y ∷ q) (suc n) e =
    let longer : length (p ++ x ∷ []) ≡ suc (length p) = omega (arith, length-append p (x ∷ [])) in
    let sum : suc (length p) + n ≡ length p + suc n = omega arith in
    let next = put_after l (p ++ x ∷ []) q n (omega arith) in
    ap (put_all l) (put_room x _ _ (omega (arith, length-append p (y ∷ q))))
    ∙ rw (set-append_seam, add-one) (rw (append_assoc p (x ∷ []) q, append_assoc p (x ∷ []) (take n l ++ drop n q), longer, sum) at next)

-- all of l put into a list that was just lent
pub put_all_is : (l o : List ℕ) (n : ℕ) → n ≡ min (length o) (length l) → put_all l (o, Ok 0) ≡ (take n l ++ drop n o, leaving n (drop n l))
put_all_is l o n e = rw zero-add at (put_after l [] o n e)

-- the word that found no room, or that there is none
abbrev pub without_room : Result ℕ NoRoom → O.Option ℕ
without_room (Ok at) = O.none
without_room (Err e) = O.some e.next

-- in a list without places it is the first word
pub put_nowhere : (l : List ℕ) {t : Lent} → t ≡ put_all l ([], Ok 0) → without_room t.1 ≡ head? l
unfolding put_all
put_nowhere [] e = ap (λ (t : Lent). without_room t.1) e
put_nowhere (x ∷ l) e = ap (λ (t : Lent). without_room t.1) (e ∙ ap (put_all l) (put_full x [] 0 (omega arith)) ∙ put_more l _ _)

-- ---- a word with each bit of a number

-- no bit, no word
pub with_none : (w : ℕ) → with_each w 0 ≡ []
unfolding with_each
with_none w = ap (map (λ i. (w + 2 ^ i) % 2 ^ 64)) positions_zero

-- i is the lowest of the bits, and rest has the others: the word with i comes first
pub with_first : (w : ℕ) {bits i rest : ℕ} → TakenOff bits i rest → with_each w bits ≡ (w + 2 ^ i) % 2 ^ 64 ∷ with_each w rest
unfolding with_each
with_first w low = ap (map (λ i. (w + 2 ^ i) % 2 ^ 64)) low.first
