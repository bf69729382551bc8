-- What a batch answers by the questions, and that the words put into the lent list make its ending. Assumes nothing.
use Prim.Native.Nat.{ℕ, ◌^◌, ◌≤◌, ◌<◌, min}
use mathlib.Core.Path.{◌≡◌, refl, sym, ◌∙◌, ap, subst}
use mathlib.Core.Logic.{◌≢◌}
use mathlib.Core.Bool.{Bool, true, false, cond, ◌&&◌}
use mathlib.Core.List.{List, [], ◌∷◌, ◌++◌, Memᴰ}
use native.Mathlib.Nat.{min-zero}
use native.Mathlib.Omega.{arith}
use lib.Dec.{leb, eqb}
use lib.ListN.{length, take, drop, length-append, length-take, length-drop}
use borrow.Author.Tests.{le-leb, lt-leb, eq-eqb, ne_eqb, eqb-true}
use Rattle.semigroups.specs.Lists.{none, on_from}
use Rattle.semigroups.specs.Words.{genus, closed}
use Rattle.semigroups.specs.Elements.{multiplicity}
use Rattle.semigroups.specs.Tree.{leaves}
use Rattle.semigroups.proofs.Booleans.{by_value}
use Rattle.semigroups.proofs.GenusList.{mem_genus_list}
use Rattle.semigroups.proofs.Leaves.{genus_list_leaves}
use Rattle.answers.specs.Answers.{Answer, refused, given, number_of, ask}
use Rattle.answers.specs.declared.Refusal.{Refusal}
use Rattle.words.specs.Looks.{ask_word, report_of, look_of}
use Rattle.words.specs.declared.Report.{Report}
use Rattle.words.proofs.Looks.{asked, asked_refused, look_given_report}
use Rattle.windows.specs.Windows.{within, holds, window_list}
use Rattle.windows.proofs.Windows.{window_mem, window_on_from}
use Rattle.lending.specs.Lending.{Lent, put_all}
use Rattle.lending.specs.declared.NoRoom.{NoRoom}
use Rattle.std.specs.Prelude.{Result, Ok, Err, IsErrAnd}
use Rattle.lending.proofs.Lending.{leaving, put_all_is}
use Rattle.descendants.specs.Cut.{from_multiplicity}
use Rattle.descendants.specs.Descendants.{filled_given, write_from_of}
use Rattle.walk.specs.declared.Moved.{Moved}
use Rattle.walk.specs.declared.Walk.{Walk}
use Rattle.walk.specs.Walks.{rest, standing, in_order, Ending, stepped, unmoved, batch_of}
use Rattle.walk.proofs.Walks.{in_order_mem, batch_moves}

-- ---- question 4

-- an unfinished walk stands on a word that its window holds
pub in_order_going : (w : Walk) → w.finished ≡ false → in_order w ≡ holds w.genus w.window.lowest w.window.highest w.word
unfolding in_order
in_order_going w e = rw e

-- it asks questions 1 and 2 of the word, then for its genus and its window
module _ (w : Walk) (going : w.finished ≡ false) where
  in_order_asked : in_order w ≡ ask_word (λ n. false) w.word (eqb (genus w.word) w.genus && within w.window.lowest w.window.highest (multiplicity w.word))
  unfolding in_order ask_word
  in_order_asked =
      rw going (all (leb (genus w.word) 32) (closed w.word) (eqb (genus w.word) w.genus) (within w.window.lowest w.window.highest (multiplicity w.word)))
    where
      all : (a b c d : Bool) → (a && b && c && d) ≡ cond a (cond b (c && d) false) false
      all true true c d = refl
      all true false c d = refl
      all false b c d = refl

  -- by what a look at the word told
  pub in_order_refused : (n : ℕ) → look_of w.word ≡ refused n → in_order w ≡ false
  in_order_refused n e = in_order_asked ∙ asked_refused (λ n. false) w.word _ n e

  pub in_order_told : (r : Report) → look_of w.word ≡ given r → in_order w ≡ (eqb r.genus w.genus && within w.window.lowest w.window.highest r.multiplicity)
  unfolding report_of
  in_order_told r e =
      let (accepted, same) = look_given_report w.word r e in
      in_order_asked ∙ asked (λ n. false) w.word _ accepted
      ∙ ap (λ (r : Report). eqb r.genus w.genus && within w.window.lowest w.window.highest r.multiplicity) (sym same)

-- an unfinished walk in order stands on a word of its genus list, with at least its lowest multiplicity
pub walk_leaf : (w : Walk) → w.word < 2 ^ 64 → w.genus ≤ 32 → in_order w ≡ true → w.finished ≡ false
    → Memᴰ w.word (leaves w.genus 0) × (w.window.lowest ≤ multiplicity w.word)
walk_leaf w fits small ordered going =
    let (h, low, high) = window_mem w.genus w.window.lowest w.window.highest (in_order_mem w fits ordered going) in
    (subst (Memᴰ w.word) (genus_list_leaves w.genus small) (mem_genus_list w.genus w.word h), low)

-- a finished walk has the word 0
pub in_order_finished : (w : Walk) → w.finished ≡ true → in_order w ≡ eqb w.word 0
unfolding in_order
in_order_finished w e = rw e

-- ---- endings

-- the ending of a batch with the walk w, by what became of the lent list: without a word that found no room none are left
abbrev pub put_ending : Walk → Lent → Ending
put_ending w (o, Ok n) = record {
  answer = given record { count = n; finished = true };
  walk = record { genus = w.genus; word = 0; window = w.window; finished = true };
  list = o;
}
put_ending w (o, Err e) = record {
  answer = given record { count = length o; finished = false };
  walk = record { genus = w.genus; word = e.next; window = w.window; finished = false };
  list = o;
}

-- a refusal that a step hands on moves nothing
pub step_refused : (w : Walk) (r : Result Moved Refusal) (e : Refusal) (l : List ℕ) → IsErrAnd r (λ d. d ≡ e) → stepped w r l ≡ unmoved (number_of e) w l
step_refused w (Ok m) e l h = absurd h
step_refused w (Err d) e l h = ap (λ (r : Refusal). unmoved (number_of r) w l) h

-- words that are not written are refused 4
pub write_refused : (g lo hi w : ℕ) (lent : List ℕ) {n : ℕ} {l : List ℕ} → (refused n, l) ≡ write_from_of g lo hi w lent → n ≡ 4
unfolding write_from_of
write_refused g lo hi w lent e = by_test (holds g lo hi w) _ (ap (λ (t : Answer (Result ℕ NoRoom) × List ℕ). t.0) e)
  where
    by_test : (held : Bool) (t : Lent) {n : ℕ} → refused n ≡ (ask held (refused 4, lent) (filled_given t)).0 → n ≡ 4
    by_test true t e = cc
    by_test false t e = cc

-- n words were written into a list, and those of r are left, if any because it is full
put_leaves : (w : Walk) (r o : List ℕ) (n : ℕ) → (0 < length r → n ≡ length o)
    → put_ending w (o, leaving n r) ≡ record { answer = given record { count = n; finished = none r }; walk = standing w.genus w.window.lowest w.window.highest r; list = o }
unfolding standing none
put_leaves w [] o n full = refl
put_leaves w (x ∷ r) o n full = rw (full (omega arith)) refl

-- the ending of a batch with an unfinished walk, by what the words from its word on made of the lent list
abbrev pub written_ending : Walk → Answer (Result ℕ NoRoom) × List ℕ → Ending
written_ending w (refused n, l) = unmoved n w l
written_ending w (given f, l) = put_ending w (l, f)

module _ (w : Walk) (lent : List ℕ) where
  pub batch_genus : 32 < w.genus → batch_of w lent ≡ unmoved 3 w lent
  unfolding batch_of
  batch_genus h = simp (lt-leb w.genus 32 h)

  module _ (small : w.genus ≤ 32) where
    pub batch_order : in_order w ≡ false → batch_of w lent ≡ unmoved 4 w lent
    unfolding batch_of
    batch_order e = simp (le-leb w.genus 32 small, e)

    module _ (ordered : in_order w ≡ true) where
      -- a finished walk has nothing to give
      pub batch_finished : w.finished ≡ true → batch_of w lent ≡ record { answer = given record { count = 0; finished = true }; walk = w; list = lent }
      unfolding rest standing none
      batch_finished e =
          let zero : w.word ≡ 0 = eqb-true w.word 0 (sym (in_order_finished w e) ∙ ordered) in
          batch_moves w lent small ordered ∙ rw (e, zero, min-zero (length lent))

      -- what an unfinished walk has still to give is put into the lent list
      put_rest : w.finished ≡ false
          → batch_of w lent ≡ put_ending w (put_all (on_from w.word (window_list w.genus w.window.lowest w.window.highest)) (lent, Ok 0))
      unfolding rest standing
      put_rest going =
          let l : List ℕ = on_from w.word (window_list w.genus w.window.lowest w.window.highest) in
          let n : ℕ = min (length lent) (length l) in
          let filled = length-append (take n l) (drop n lent) in
          batch_moves w lent small ordered
          ∙ rw going
          (sym (put_leaves w (drop n l) (take n l ++ drop n lent) n (λ some. omega (arith, length-take n l, length-drop n lent, length-drop n l))))
          ∙ ap (put_ending w) (sym (put_all_is l lent n refl))

      -- those from the walk's on that have at least its lowest multiplicity are put into the lent list
      pub batch_put : w.word < 2 ^ 64 → w.finished ≡ false → {t : Lent}
          → t ≡ put_all (from_multiplicity w.window.lowest (on_from w.word (leaves w.genus 0))) (lent, Ok 0) → batch_of w lent ≡ put_ending w t
      unfolding from_multiplicity
      batch_put fits going e =
          put_rest going
          ∙ rw (window_on_from w.genus w.window.lowest w.window.highest w.word (in_order_mem w fits ordered going), genus_list_leaves w.genus small)
          (ap (put_ending w) (sym e))

    -- a finished walk with another word than 0 is refused, and with the word 0 it has nothing to give
    module _ (finished : w.finished ≡ true) where
      pub batch_no_word : w.word ≢ 0 → batch_of w lent ≡ unmoved 4 w lent
      batch_no_word e = batch_order (in_order_finished w finished ∙ ne_eqb w.word 0 e)

      pub batch_idle : w.word ≡ 0 → batch_of w lent ≡ record { answer = given record { count = 0; finished = true }; walk = w; list = lent }
      batch_idle e = batch_finished (in_order_finished w finished ∙ eq-eqb w.word 0 e) finished

    -- of an unfinished walk, the words of its window from its word on are written
    module _ (going : w.finished ≡ false) where
      pub batch_written : batch_of w lent ≡ written_ending w (write_from_of w.genus w.window.lowest w.window.highest w.word lent)
      unfolding write_from_of
      batch_written = by_value (holds w.genus w.window.lowest w.window.highest w.word)
          (λ held. put_rest (in_order_going w going ∙ held) going ∙ rw held)
          (λ out. batch_order (in_order_going w going ∙ out) ∙ rw out)
