-- What the fresh call answers. Assumes nothing.
use Prim.Native.Nat.{ℕ, ◌-◌, ◌^◌, ◌≤◌}
use mathlib.Core.Path.{◌≡◌, refl, ◌∙◌, ap}
use mathlib.Core.Bool.{Bool, true, false}
use mathlib.Core.List.{List, [], ◌∷◌, head?}
use mathlib.Core.Option as maybe
use native.Mathlib.Omega.{arith}
use lib.Dec.{leb}
use Rattle.semigroups.specs.Lists.{none}
use Rattle.semigroups.proofs.First.{genus_list_first}
use Rattle.answers.specs.Answers.{Answer, refused, given, ask, sought}
use Rattle.std.specs.Prelude.{Option, None, Some, unwrap_or, is_none}
use Rattle.windows.specs.Windows.{window_list}
use Rattle.windows.specs.Answers.{first_word_of}
use Rattle.walk.specs.declared.Walk.{Walk}
use Rattle.walk.specs.Walks.{standing, fresh_of, fresh_in_of}
use Rattle.walk.proofs.Walks.{fresh_answers}

-- the fresh walk on the first word of a window, finished where there is none
abbrev pub stood_on : ℕ → ℕ → ℕ → Answer (maybe.Option ℕ) → Answer Walk
stood_on g lo hi (refused n) = refused n
stood_on g lo hi (given maybe.none) = given record { genus = g; word = 0; window = record { lowest = lo; highest = hi }; finished = true }
stood_on g lo hi (given (maybe.some w)) = given record { genus = g; word = w; window = record { lowest = lo; highest = hi }; finished = false }

-- is what the fresh call gives
pub fresh_by_first : (g lo hi : ℕ) → fresh_in_of g lo hi ≡ stood_on g lo hi (first_word_of g lo hi)
unfolding first_word_of fresh_in_of standing none
fresh_by_first g lo hi = by_list (window_list g lo hi)
  where
    by_list : (l : List ℕ) → ask (leb g 32) (refused 3) (given (standing g lo hi l)) ≡ stood_on g lo hi (ask (leb g 32) (refused 3) (given (head? l)))
    by_list [] = elim (leb g 32) as (λ (b : Bool). ask b (refused 3) (given (standing g lo hi [])) ≡ stood_on g lo hi (ask b (refused 3) (given maybe.none))) [ true ↦ refl | false ↦ refl ]
    by_list (x ∷ l) = elim (leb g 32) as (λ (b : Bool). ask b (refused 3) (given (standing g lo hi (x ∷ l))) ≡ stood_on g lo hi (ask b (refused 3) (given (maybe.some x)))) [ true ↦ refl | false ↦ refl ]

-- by the `Option` of the first word
pub stood : (g lo hi : ℕ) (first : Option ℕ)
    → given record { genus = g; word = unwrap_or first 0; window = record { lowest = lo; highest = hi }; finished = is_none first } ≡ stood_on g lo hi (given (sought first))
stood g lo hi None = refl
stood g lo hi (Some w) = refl

-- without a window it stands on the word whose gaps are the numbers from 1 to the genus
pub fresh_given : (g : ℕ) → g ≤ 32 → fresh_of g ≡ given record { genus = g; word = 2 ^ g - 1; window = record { lowest = 1; highest = 33 }; finished = false }
unfolding standing none
fresh_given g h = let (l, e) = genus_list_first g (omega arith) in fresh_answers g h ∙ ap (λ (l : List ℕ). given (standing g 1 33 l)) e
