-- Where a walk stands: the walks in order are those that have an end of their window still to give, and they have just that to give; and
-- what the calls answer. Assumes nothing.
use Prim.Native.Nat.{ℕ, ◌^◌, ◌≤◌, ◌<◌}
use mathlib.Core.Path.{◌≡◌, refl, sym, ◌∙◌, ap, subst}
use mathlib.Core.Logic.{◌↔◌}
use mathlib.Core.Bool.{Bool, true, false, and-false}
use mathlib.Core.List.{List, [], ◌∷◌, ◌++◌, append-nil, Memᴰ}
use lib.Dec.{leb}
use lib.ListN.{length}
use native.Mathlib.Omega.{arith}
use native.Mathlib.Nat.{le_of_eq, le_trans, zero-min}
use borrow.Author.Tests.{le-leb, lt-leb, eq-eqb, eqb-true}
use Rattle.semigroups.specs.Lists.{none, on_from, Ordered}
use Rattle.semigroups.specs.Words.{genus}
use Rattle.semigroups.specs.Elements.{multiplicity}
use Rattle.semigroups.specs.GenusList.{genus_list, Earlier}
use Rattle.semigroups.proofs.Lists.{none_iff, no_length, mem_middle, mem_split, on_from_split, on_from_end}
use Rattle.semigroups.proofs.Elements.{multiplicity_pos, multiplicity_le_genus}
use Rattle.semigroups.proofs.Booleans.{by_value}
use Rattle.semigroups.proofs.ListOrder.{earlier_asym}
use Rattle.semigroups.proofs.GenusList.{genus_list_mem}
use Rattle.answers.specs.Answers.{refused, given, ask}
use Rattle.words.specs.Looks.{Accepted}
use Rattle.words.proofs.Looks.{asked}
use Rattle.windows.specs.Windows.{within, window_list}
use Rattle.windows.proofs.Windows.{within_iff, window_mem, window_ordered, window_whole}
use Rattle.windows.proofs.Held.{held_mem}
use Rattle.walk.specs.declared.Walk.{Walk}
use Rattle.walk.specs.Walks.{rest, standing, in_order, fresh_of, fresh_in_of, start_of, started_at, start_in_of, unmoved, moved, batch_of}

-- ---- where a walk stands

-- an unfinished walk in order, with a word of 64 bits, stands on a word of its window
pub in_order_mem : (w : Walk) → w.word < 2 ^ 64 → in_order w ≡ true → w.finished ≡ false → Memᴰ w.word (window_list w.genus w.window.lowest w.window.highest)
unfolding in_order
in_order_mem w fits ordered going = held_mem w.genus w.window.lowest w.window.highest w.word fits (rw going at ordered)

module _ (g lo hi : ℕ) where
  abbrev L : List ℕ
  L = window_list g lo hi

  -- l is an end of the window
  module _ (k : List ℕ) where
    pub rest_standing : (l : List ℕ) → k ++ l ≡ L → rest (standing g lo hi l) ≡ l
    unfolding rest standing none
    rest_standing [] e = refl
    rest_standing (x ∷ l) e =
        ap (on_from x) (sym e) ∙ on_from_split Earlier (λ w b. earlier_asym w w b b) k l x (subst (Ordered Earlier) (sym e) (window_ordered g lo hi))

    pub standing_in_order : g ≤ 32 → (l : List ℕ) → k ++ l ≡ L → in_order (standing g lo hi l) ≡ true
    unfolding in_order standing none
    standing_in_order small [] e = refl
    standing_in_order small (x ∷ l) e =
        let (h, low, high) = window_mem g lo hi (subst (Memᴰ x) e (mem_middle k l x)) in
        rw (le-leb (genus x) 32 (le_trans (le_of_eq h.gapped) small), h.closed, eq-eqb (genus x) g h.gapped, (within_iff lo hi (multiplicity x)).1 (low, high))

  -- a walk in order has an end of its window still to give
  in_order_stands : (x : ℕ) (f : Bool) → x < 2 ^ 64 → in_order record { genus = g; word = x; window = record { lowest = lo; highest = hi }; finished = f } ≡ true
      → (k l : List ℕ) × (k ++ l ≡ L) × (standing g lo hi l ≡ record { genus = g; word = x; window = record { lowest = lo; highest = hi }; finished = f })
  unfolding in_order standing none
  in_order_stands x true fits h = (
    L,
    [],
    append-nil L,
    ap (λ (y : ℕ). record { genus = g; word = y; window = record { lowest = lo; highest = hi }; finished = true }) (sym (eqb-true x 0 h)),
  )
  in_order_stands x false fits h = let (k, l, e) = mem_split L (in_order_mem _ fits h refl) in (k, x ∷ l, e, refl)

-- what a walk has still to give is an end of its window
pub rest_end : (w : Walk) → (k : List ℕ) × (k ++ rest w ≡ window_list w.genus w.window.lowest w.window.highest)
unfolding rest
rest_end w =
    let l : List ℕ = window_list w.genus w.window.lowest w.window.highest in
    by_value w.finished (λ e. (l, rw e (append-nil l))) (λ e. let (k, s) = on_from_end w.word l in (k, rw e s))

-- its rest is that end, and it is the walk that has its rest still to give
pub in_order_rest : (w : Walk) → w.word < 2 ^ 64 → in_order w ≡ true
    → (k : List ℕ) × (k ++ rest w ≡ window_list w.genus w.window.lowest w.window.highest) × (standing w.genus w.window.lowest w.window.highest (rest w) ≡ w)
in_order_rest w fits h =
    let (k, l, e, s) = in_order_stands w.genus w.window.lowest w.window.highest w.word w.finished fits h in
    let same : rest w ≡ l = ap rest (sym s) ∙ rest_standing w.genus w.window.lowest w.window.highest k l e in
    (k, ap (λ (r : List ℕ). k ++ r) same ∙ e, ap (standing w.genus w.window.lowest w.window.highest) same ∙ s)

-- ---- the batch

-- a walk in order is not refused
pub batch_moves : (w : Walk) (lent : List ℕ) → w.genus ≤ 32 → in_order w ≡ true → batch_of w lent ≡ moved w (rest w) lent
unfolding batch_of
batch_moves w lent small h = rw (le-leb w.genus 32 small, h)

-- one that has an end of its window still to give writes from it
pub batch_standing : (g lo hi : ℕ) → g ≤ 32 → (k l lent : List ℕ) → k ++ l ≡ window_list g lo hi → batch_of (standing g lo hi l) lent ≡ moved (standing g lo hi l) l lent
unfolding standing
batch_standing g lo hi small k l lent e =
    batch_moves (standing g lo hi l) lent small (standing_in_order g lo hi k small l e)
    ∙ ap (λ (r : List ℕ). moved (standing g lo hi l) r lent) (rest_standing g lo hi k l e)

-- an unfinished walk on a word outside its window is refused
pub outside_refused : (w : Walk) (lent : List ℕ) → w.genus ≤ 32 → w.finished ≡ false → within w.window.lowest w.window.highest (multiplicity w.word) ≡ false
    → batch_of w lent ≡ unmoved 4 w lent
unfolding in_order batch_of
outside_refused w lent small going outside = rw (le-leb w.genus 32 small, going, outside, and-false)

-- a refusal does not move the walk and writes nothing
pub refusal_stays : (w : Walk) (lent : List ℕ) (n : ℕ) → (batch_of w lent).answer ≡ refused n → batch_of w lent ≡ unmoved n w lent
unfolding batch_of
refusal_stays w lent n e = by_questions (leb w.genus 32) (in_order w) e
  where
    unmoved_as : (m : ℕ) → (unmoved m w lent).answer ≡ refused n → unmoved m w lent ≡ unmoved n w lent
    unmoved_as m e = let same : m ≡ n = cc in ap (λ (i : ℕ). unmoved i w lent) same

    by_questions : (p q : Bool) → (ask p (unmoved 3 w lent) (ask q (unmoved 4 w lent) (moved w (rest w) lent))).answer ≡ refused n
        → ask p (unmoved 3 w lent) (ask q (unmoved 4 w lent) (moved w (rest w) lent)) ≡ unmoved n w lent
    by_questions false q e = unmoved_as 3 e
    by_questions true false e = unmoved_as 4 e
    by_questions true true e = absurd (let z : ◌≡◌ {A = ℕ} 0 1 = cc in omega arith)

-- a list of length 0 gets nothing written, and is told finished only if the walk already was
pub batch_empty : (w : Walk) → w.genus ≤ 32 → w.word < 2 ^ 64 → in_order w ≡ true
    → batch_of w [] ≡ record { answer = given record { count = 0; finished = w.finished }; walk = w; list = [] }
unfolding standing
batch_empty w small fits h =
    rw (batch_moves w [] small h, zero-min (length (rest w)))
    (ap (λ (v : Walk). record { answer = given record { count = 0; finished = v.finished }; walk = v; list = [] }) (in_order_rest w fits h).2)

-- ---- the fresh and the start calls

-- the fresh walk has the window to give
pub fresh_in_answers : (g lo hi : ℕ) → g ≤ 32 → fresh_in_of g lo hi ≡ given (standing g lo hi (window_list g lo hi))
unfolding fresh_in_of
fresh_in_answers g lo hi small = rw (le-leb g 32 small)

-- above genus 32 it is refused
pub fresh_in_refused : (g lo hi : ℕ) → 32 < g → fresh_in_of g lo hi ≡ refused 3
unfolding fresh_in_of
fresh_in_refused g lo hi large = rw (lt-leb g 32 large)

-- without a window, the walk has the genus list to give
pub fresh_answers : (g : ℕ) → g ≤ 32 → fresh_of g ≡ given (standing g 1 33 (genus_list g))
unfolding fresh_of
fresh_answers g small = fresh_in_answers g 1 33 small ∙ ap (λ (l : List ℕ). given (standing g 1 33 l)) (window_whole g small)

-- the walk of a window is already finished exactly when the window is empty
pub fresh_in_finished : (g lo hi : ℕ) → g ≤ 32 → (w : Walk) → fresh_in_of g lo hi ≡ given w → (w.finished ≡ true) ↔ (window_list g lo hi ≡ [])
unfolding standing
fresh_in_finished g lo hi small w e =
    let same : w ≡ standing g lo hi (window_list g lo hi) = let answers = fresh_in_answers g lo hi small in cc in
    let empty = none_iff (window_list g lo hi) in
    subst (λ (v : Walk). (v.finished ≡ true) ↔ (window_list g lo hi ≡ [])) (sym same)
    (λ f. no_length (window_list g lo hi) (empty.0 f), λ f. empty.1 (ap length f))

module _ (w : ℕ) (h : Accepted w) (lo hi : ℕ) where
  -- an accepted word in a window starts a walk
  pub start_in_answers : within lo hi (multiplicity w) ≡ true → start_in_of w lo hi ≡ given (started_at w lo hi)
  unfolding start_in_of
  start_in_answers e = asked refused w _ h ∙ rw e

  -- outside it is refused
  pub start_in_refused : within lo hi (multiplicity w) ≡ false → start_in_of w lo hi ≡ refused 4
  unfolding start_in_of
  start_in_refused e = asked refused w _ h ∙ rw e

  -- the walk is in order
  pub start_in_order : within lo hi (multiplicity w) ≡ true → in_order (started_at w lo hi) ≡ true
  unfolding in_order
  start_in_order e = rw (le-leb (genus w) 32 h.few, h.closed, eq-eqb (genus w) (genus w) refl, e)

-- without a window, an accepted word starts a walk
pub start_answers : (w : ℕ) → w < 2 ^ 64 → Accepted w → start_of w ≡ given (started_at w 1 33)
unfolding start_of
start_answers w fits h =
    start_in_answers w h 1 33 ((within_iff 1 33 (multiplicity w)).1 (omega (arith, multiplicity_pos w fits, multiplicity_le_genus w fits, h.few)))

-- it has the genus list from the word on to give
pub start_standing : (g w : ℕ) (k l : List ℕ) → g ≤ 32 → k ++ w ∷ l ≡ genus_list g → start_of w ≡ given (standing g 1 33 (w ∷ l))
unfolding standing none
start_standing g w k l small e =
    let h = genus_list_mem g (subst (Memᴰ w) e (mem_middle k l w)) in
    start_answers w h.fits record { closed = h.closed; few = le_trans (le_of_eq h.gapped) small }
    ∙ ap (λ (n : ℕ). given record { genus = n; word = w; window = record { lowest = 1; highest = 33 }; finished = false }) h.gapped
