-- What a call stores in a right state of sixteen places is the state that the change leaves. Assumes nothing.
use Prim.Native.Nat.{ℕ, ◌+◌, ◌-◌, ◌<◌}
use mathlib.Core.Path.{◌≡◌, ap, ap₂, ◌∙◌}
use mathlib.Core.List.{List, [], ◌∷◌, ◌++◌}
use native.Mathlib.Omega.{arith}
use lib.ListN.{length, set, replicate, length-append}
use Rattle.semigroups.proofs.Lists.{fronted_front, fronted_set}
use Rattle.sums.specs.WordFrom.{word_from_of}
use Rattle.changes.specs.Changes.{without_first}
use Rattle.changes.specs.States.{State, held, RightState, in_sixteen, state_of}
use Rattle.changes.proofs.States.{right_state}
use Rattle.editor.specs.Private.{first_place, without_place, with_answer}
use Rattle.editor.proofs.Places.{first_place_without, without_place_length}

-- l in sixteen places, with its answer
with_answer_is : (l : List ℕ) → with_answer (in_sixteen l) (length l) ≡ state_of l
unfolding with_answer state_of
with_answer_is l = λ i. record { bytes = in_sixteen l; length = length l; answer = word_from_of (fronted_front l (replicate 16 0) i) }

-- what is stored in a right state of sixteen places
module _ (s : State) (sixteen : length s.bytes ≡ 16) (h : RightState s) where
  -- its places
  places : s.bytes ≡ in_sixteen (held s)
  unfolding state_of
  places = ap (λ (t : State). t.bytes) (right_state s sixteen h)

  -- its length is that of its list
  pub held_length : s.length ≡ length (held s)
  unfolding state_of
  held_length = ap (λ (t : State). t.length) (right_state s sixteen h)

  -- a number behind the list
  pub stored_behind : (a : ℕ) → s.length < 16 → with_answer (set s.bytes s.length a) (s.length + 1) ≡ state_of (held s ++ a ∷ [])
  stored_behind a room =
      let l : List ℕ = held s in
      let long : s.length + 1 ≡ length (l ++ a ∷ []) = omega (arith, held_length, length-append l (a ∷ [])) in
      let stored : set s.bytes s.length a ≡ in_sixteen (l ++ a ∷ []) =
      ap₂ (λ (b : List ℕ) (n : ℕ). set b n a) places held_length ∙ fronted_set l (replicate 16 0) a (omega (arith, held_length)) in
      ap₂ with_answer stored long ∙ with_answer_is (l ++ a ∷ [])

  -- the list without its first a
  pub stored_without : (a : ℕ) → first_place a (held s) < s.length
      → with_answer (in_sixteen (without_place (first_place a (held s)) (held s))) (s.length - 1) ≡ state_of (without_first a (held s))
  stored_without a there =
      let l : List ℕ = held s in
      let here : first_place a l < length l = omega (arith, held_length) in
      let short : s.length - 1 ≡ length (without_place (first_place a l) l) = omega (arith, held_length, without_place_length l (first_place a l) here) in
      ap (with_answer (in_sixteen (without_place (first_place a l) l))) short ∙ with_answer_is (without_place (first_place a l) l)
      ∙ ap state_of (first_place_without a l here)
