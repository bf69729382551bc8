-- Known batches of genus 4 from the fresh calls. Assumes nothing.
use Prim.Native.Nat.{ℕ, ◌≤◌}
use mathlib.Core.Path.{◌≡◌, refl, ◌∙◌, ap}
use mathlib.Core.Bool.{true, false}
use mathlib.Core.List.{List, [], ◌∷◌, map}
use native.Mathlib.Omega.{arith}
use Rattle.semigroups.specs.Lists.{none}
use Rattle.answers.specs.Answers.{Answer, given}
use Rattle.windows.specs.Windows.{window_list}
use Rattle.windows.proofs.Cases.{known_windows}
use Rattle.walk.specs.declared.Walk.{Walk}
use Rattle.walk.specs.declared.Written.{Written}
use Rattle.walk.specs.Walks.{standing, fresh_of, fresh_in_of}
use Rattle.walk.proofs.Walks.{fresh_in_answers}
use Rattle.demands.specs.Demand3.{atlas, Call, batches}
use Rattle.demands.proofs.Demand3.{served, batches_served}

-- what a call answered, and its list afterwards
abbrev pub answer_and_list : Call → Answer Written × List ℕ
answer_and_list c = (c.ending.answer, c.ending.list)

-- the calls with the walk that a fresh call gave, which has the window l still to give, in terms of l
known_calls : (g lo hi : ℕ) → g ≤ 32 → (w : Walk) → fresh_in_of g lo hi ≡ given w → (l : List ℕ) → window_list g lo hi ≡ l → (lents : List (List ℕ))
    → batches atlas w lents ≡ served g lo hi l lents
known_calls g lo hi small w fresh l e lents =
    let same : w ≡ standing g lo hi (window_list g lo hi) = let answers = fresh_in_answers g lo hi small in cc in
    ap (λ (v : Walk). batches atlas v lents) same ∙ batches_served g lo hi small [] (window_list g lo hi) refl lents
    ∙ ap (λ (k : List ℕ). served g lo hi k lents) e

-- by lists of 3, 0 and 5, whatever they held: 15 23 39; nothing, unfinished; 71 27 75 85, finished, and the fifth place untouched
pub genus_four : (w : Walk) → fresh_of 4 ≡ given w → (a b c d e f g h : ℕ)
    → map answer_and_list (batches atlas w ((a ∷ b ∷ c ∷ []) ∷ [] ∷ (d ∷ e ∷ f ∷ g ∷ h ∷ []) ∷ []))
    ≡ (given record { count = 3; finished = false }, 15 ∷ 23 ∷ 39 ∷ []) ∷ (given record { count = 0; finished = false }, [])
    ∷ (given record { count = 4; finished = true }, 71 ∷ 27 ∷ 75 ∷ 85 ∷ h ∷ []) ∷ []
unfolding served none fresh_of
genus_four w fresh a b c d e f g h = ap (map answer_and_list) (known_calls 4 1 33 (omega arith) w fresh _ known_windows.2 _)

-- in the window from 3 to 4, by lists of 2 and 4: 23 39, unfinished; 71 27 75, finished, and the fourth place untouched
pub genus_four_from_3_to_4 : (w : Walk) → fresh_in_of 4 3 4 ≡ given w → (a b c d e f : ℕ)
    → map answer_and_list (batches atlas w ((a ∷ b ∷ []) ∷ (c ∷ d ∷ e ∷ f ∷ []) ∷ []))
    ≡ (given record { count = 2; finished = false }, 23 ∷ 39 ∷ []) ∷ (given record { count = 3; finished = true }, 71 ∷ 27 ∷ 75 ∷ f ∷ []) ∷ []
unfolding served none
genus_four_from_3_to_4 w fresh a b c d e f = ap (map answer_and_list) (known_calls 4 3 4 (omega arith) w fresh _ known_windows.1 _)
