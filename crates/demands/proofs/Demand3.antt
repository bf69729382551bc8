-- Demand 3: a walk that has an end of its window still to give writes that end, call by call; and after each call it has what is behind
-- the first N words of that end still to give. Assumes nothing.
use Prim.Native.Nat.{ℕ, ◌+◌, ◌-◌, ◌≤◌, min}
use mathlib.Core.Path.{◌≡◌, refl, sym, ◌∙◌, ap, ap₂, subst, subst₂}
use mathlib.Core.Logic.{◌↔◌}
use mathlib.Core.Bool.{true}
use mathlib.Core.List.{List, [], ◌∷◌, ◌++◌, map, append-nil, append_assoc, nil≢cons, head-eq_of_cons-eq, tail-eq_of_cons-eq}
use native.Mathlib.Omega.{arith}
use lib.ListN.{length, take, drop, length-drop}
use lib.Seq.{take_at, drop_at, take-add, drop-drop, length_front, length-take-le}
use Rattle.semigroups.specs.Lists.{none, joined, sum_over}
use Rattle.semigroups.specs.GenusList.{genus_list}
use Rattle.semigroups.proofs.Lists.{none_iff, end_drop, joined_last}
use Rattle.semigroups.proofs.GenusList.{genus_list_all}
use Rattle.answers.specs.Answers.{Answer, given}
use Rattle.windows.specs.Windows.{window_list}
use Rattle.windows.proofs.Windows.{window_all, window_whole}
use Rattle.counts.proofs.Counts.{count_all}
use Rattle.walk.specs.declared.Walk.{Walk}
use Rattle.walk.specs.Walks.{standing, Ending, fresh_of, fresh_in_of, moved}
use Rattle.walk.proofs.Walks.{batch_standing, fresh_in_answers}
use Rattle.demands.specs.Demand3.{atlas, Call, call, batches, reported_count, wrote, lengths, N, AfterCall, Demanded, DemandedInWindow, DemandedOfGenus, Demand3}

lengths_append : (k l : List Call) → lengths (k ++ l) ≡ lengths k + lengths l
unfolding lengths
lengths_append [] l = omega arith
lengths_append (c ∷ k) l = omega (arith, lengths_append k l)

lent_each : (w : Walk) (lents : List (List ℕ)) → map (λ c. c.lent) (batches atlas w lents) ≡ lents
unfolding batches
lent_each w [] = refl
lent_each w (lent ∷ lents) = ap (λ (l : List (List ℕ)). lent ∷ l) (lent_each (call atlas w lent).ending.walk lents)

-- the lengths of the lent lists, summed
pub lengths_lent : (w : Walk) (lents : List (List ℕ)) → lengths (batches atlas w lents) ≡ sum_over length lents
unfolding batches lengths sum_over
lengths_lent w [] = refl
lengths_lent w (lent ∷ lents) = ap (λ (n : ℕ). length lent + n) (lengths_lent (call atlas w lent).ending.walk lents)

-- ---- one batch, of a walk that has r still to give

module _ (g lo hi : ℕ) (r lent : List ℕ) where
  abbrev n : ℕ
  n = min (length lent) (length r)

  abbrev made : Call
  made = record { lent = lent; ending = moved (standing g lo hi r) r lent }

  length_made : length (take n r) ≡ n
  length_made = length-take-le n r (omega arith)

  made_wrote : wrote made ≡ take n r
  unfolding wrote reported_count
  made_wrote = take_at (take n r) (drop n lent) n length_made

  made_untouched : drop n made.ending.list ≡ drop n lent
  made_untouched = drop_at (take n r) (drop n lent) n length_made

  made_same_length : length made.ending.list ≡ length lent
  made_same_length = length_front lent (take n r) n (length_made ∙ sym (length-take-le n lent (omega arith)))

-- ---- a list of batches

module _ (g lo hi : ℕ) where
  -- the calls with a walk in the window that has r still to give, in terms of r
  unfoldable pub served : List ℕ → List (List ℕ) → List Call
  served r [] = []
  served r (lent ∷ lents) = made g lo hi r lent ∷ served (drop (n g lo hi r lent) r) lents

  -- r is an end of the window
  pub batches_served : g ≤ 32 → (k r : List ℕ) → k ++ r ≡ window_list g lo hi → (lents : List (List ℕ)) → batches atlas (standing g lo hi r) lents ≡ served r lents
  unfolding batches served standing
  batches_served small k r e [] = refl
  batches_served small k r e (lent ∷ lents) =
      ap (λ (d : Ending). record { lent = lent; ending = d } ∷ batches atlas d.walk lents) (batch_standing g lo hi small k r lent e)
      ∙ ap (λ (calls : List Call). made g lo hi r lent ∷ calls)
      (batches_served small (k ++ take (n g lo hi r lent) r) (drop (n g lo hi r lent) r) (end_drop (n g lo hi r lent) k r e) lents)

-- ---- the words of a list L, from a walk that has L still to give

module _ (g lo hi : ℕ) (L : List ℕ) where
  -- the calls so far wrote the first N
  abbrev WroteFirst : List Call → Type 0
  WroteFirst calls = joined wrote calls ≡ take (N L calls) L

  start : N L [] ≡ 0
  unfolding N lengths
  start = omega arith

  -- one more call, of a walk that has the others still to give
  module _ (calls : List Call) (h : WroteFirst calls) (lent : List ℕ) where
    abbrev r : List ℕ
    r = drop (N L calls) L

    abbrev k : ℕ
    k = n g lo hi r lent

    abbrev c : Call
    c = made g lo hi r lent

    grown : N L calls + k ≡ N L (calls ++ c ∷ [])
    unfolding N lengths
    grown = omega (arith, lengths_append calls (c ∷ []), length-drop (N L calls) L)

    words : WroteFirst (calls ++ c ∷ [])
    words =
        joined_last wrote calls c ∙ ap₂ ◌++◌ h (made_wrote g lo hi r lent)
        ∙ sym (take-add (N L calls) k L) ∙ ap (λ (m : ℕ). take m L) grown

    left : drop k r ≡ drop (N L (calls ++ c ∷ [])) L
    left = drop-drop k (N L calls) L ∙ ap (λ (m : ℕ). drop m L) grown

    finished : (none (drop k r) ≡ true) ↔ (N L (calls ++ c ∷ []) ≡ length L)
    unfolding N
    finished =
        let others : length (drop k r) ≡ length L - N L (calls ++ c ∷ []) = ap length left ∙ length-drop (N L (calls ++ c ∷ [])) L in
        (λ e. omega (arith, (none_iff (drop k r)).0 e), λ e. (none_iff (drop k r)).1 (omega arith))

    after_one : AfterCall L (length L) calls c
    after_one = record {
      report = record { count = k; finished = none (drop k r) };
      answered = refl;
      words = words;
      grown = grown;
      untouched = made_untouched g lo hi r lent;
      same_length = made_same_length g lo hi r lent;
      finished = finished;
    }

  -- so it holds after each of the calls that follow
  after_each : (calls : List Call) → WroteFirst calls → (lents : List (List ℕ)) (before after : List Call) (c : Call)
      → served g lo hi (drop (N L calls) L) lents ≡ before ++ c ∷ after → AfterCall L (length L) (calls ++ before) c
  unfolding served
  after_each calls h [] [] after c e = absurd (nil≢cons e)
  after_each calls h [] (b ∷ before) after c e = absurd (nil≢cons e)
  after_each calls h (lent ∷ lents) [] after c e =
      subst₂ (AfterCall L (length L)) (sym (append-nil calls)) (head-eq_of_cons-eq e) (after_one calls h lent)
  after_each calls h (lent ∷ lents) (b ∷ before) after c e =
      let next : Call = made g lo hi (r calls h lent) lent in
      rw (← head-eq_of_cons-eq e, ← append_assoc calls (next ∷ []) before)
      (after_each (calls ++ next ∷ []) (words calls h lent) lents before after c
      (ap (λ (t : List ℕ). served g lo hi t lents) (sym (left calls h lent)) ∙ tail-eq_of_cons-eq e))

  -- and all of them write the first N
  all_wrote : (calls : List Call) → WroteFirst calls → (lents : List (List ℕ)) → WroteFirst (calls ++ served g lo hi (drop (N L calls) L) lents)
  unfolding served
  all_wrote calls h [] = rw append-nil h
  all_wrote calls h (lent ∷ lents) =
      let next : Call = made g lo hi (r calls h lent) lent in
      subst WroteFirst
      (append_assoc calls (next ∷ []) (served g lo hi (drop (N L (calls ++ next ∷ [])) L) lents)
      ∙ ap (λ (t : List ℕ). calls ++ next ∷ served g lo hi t lents) (sym (left calls h lent)))
      (all_wrote (calls ++ next ∷ []) (words calls h lent) lents)

  -- L is an end of the window
  module _ (k : List ℕ) (e : k ++ L ≡ window_list g lo hi) (small : g ≤ 32) where
    abbrev started : Walk
    started = standing g lo hi L

    none_yet : WroteFirst []
    unfolding joined
    none_yet = ap (λ (m : ℕ). take m L) (sym start)

    served_from_start : (lents : List (List ℕ)) → batches atlas started lents ≡ served g lo hi (drop (N L []) L) lents
    served_from_start lents = batches_served g lo hi small k L e lents ∙ ap (λ (m : ℕ). served g lo hi (drop m L) lents) (sym start)

    -- the demand for the walk that has L still to give
    pub demanded : (answer : Answer Walk) → answer ≡ given started → (lents : List (List ℕ)) → Demanded atlas answer L (length L) lents
    demanded answer answers lents = record {
      fresh = started;
      fresh_answers = answers;
      start = start;
      lent_each = lent_each started lents;
      each = λ before after c e. after_each [] none_yet lents before after c (sym (served_from_start lents) ∙ e);
      how_many = refl;
    }

    -- its batches write the first N
    pub batches_wrote : (lents : List (List ℕ)) → WroteFirst (batches atlas started lents)
    batches_wrote lents = subst WroteFirst (sym (served_from_start lents)) (all_wrote [] none_yet lents)

-- in a window, from the fresh call with one
demanded_in_window : (g lo hi : ℕ) → g ≤ 32 → (lents : List (List ℕ)) → DemandedInWindow atlas g lo hi lents
demanded_in_window g lo hi small lents = record {
  demanded = demanded g lo hi (window_list g lo hi) [] refl small (fresh_in_of g lo hi) (fresh_in_answers g lo hi small) lents;
  list = window_all g lo hi small;
}

-- the window from 1 to 33 is the whole genus, whose number the count call gives
demanded_of_genus : (g : ℕ) → g ≤ 32 → (lents : List (List ℕ)) → DemandedOfGenus atlas g lents
unfolding fresh_of
demanded_of_genus g small lents = record {
  number = length (genus_list g);
  count_answers = count_all g small;
  demanded =
      subst (λ (l : List ℕ). Demanded atlas (fresh_of g) l (length l) lents) (window_whole g small)
      (demanded g 1 33 (window_list g 1 33) [] refl small (fresh_of g) (fresh_in_answers g 1 33 small) lents);
  list = genus_list_all g small;
}

pub demand3 : Demand3 atlas
demand3 = record { in_window = λ g lo hi small low high. demanded_in_window g lo hi small; of_genus = demanded_of_genus }
