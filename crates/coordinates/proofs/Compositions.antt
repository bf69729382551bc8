-- The genus list of g has at most 2 ^ g words: their Kunz coordinates are different lists of positive numbers that add up to g. Assumes
-- nothing.
use Prim.Native.Nat.{ℕ, zero, suc, ◌+◌, ◌^◌, ◌≤◌}
use mathlib.Core.Path.{◌≡◌, refl, sym, ap, subst, subst₂, ◌∙◌}
use mathlib.Core.List.{List, [], ◌∷◌, Memᴰ}
use native.Mathlib.Omega.{arith}
use native.Mathlib.Nat.{le_trans, zero-add, suc-add}
use lib.ListN.{length}
use Rattle.semigroups.specs.Lists.{joined, sum_over}
use Rattle.semigroups.specs.GenusList.{genus_list, Earlier}
use Rattle.semigroups.proofs.Lists.{mem_joined, length_joined_le}
use Rattle.semigroups.proofs.Words.{same_set}
use Rattle.semigroups.proofs.Counting.{length_le_injected}
use Rattle.semigroups.proofs.ListOrder.{earlier_asym}
use Rattle.semigroups.proofs.GenusList.{genus_list_mem, genus_list_ordered}
use Rattle.coordinates.specs.Coordinates.{kunz_coordinates, set_said}
use Rattle.coordinates.proofs.WordCoordinates.{coordinates_positive}
use Rattle.coordinates.proofs.Said.{said_coordinates}
use Rattle.coordinates.proofs.RoundTrips.{coordinates_sum}

-- a list with a 1 put in front, and with 1 added to its first number
grown : List ℕ → List (List ℕ)
grown [] = (1 ∷ []) ∷ []
grown (x ∷ l) = (1 ∷ x ∷ l) ∷ (suc x ∷ l) ∷ []

-- all lists of positive numbers that add up to n
compositions : ℕ → List (List ℕ)
compositions zero = [] ∷ []
compositions (suc n) = joined grown (compositions n)

-- they are at most 2 ^ n
compositions_number : (n : ℕ) → length (compositions n) ≤ 2 ^ n
unfolding compositions grown
compositions_number zero = omega arith
compositions_number (suc n) = omega (arith, compositions_number n, length_joined_le grown 2 (compositions n) (λ l m. two l))
  where
    two : (l : List ℕ) → length (grown l) ≤ 2
    two [] = omega arith
    two (x ∷ l) = omega arith

-- one of them with a positive number put in front is one of the sum
mem_front : (x n : ℕ) (l : List ℕ) → Memᴰ l (compositions n) → Memᴰ (suc x ∷ l) (compositions (suc x + n))
unfolding compositions grown
mem_front zero n [] m = rw (suc-add, zero-add) (mem_joined grown (compositions n) m (Memᴰ.head refl))
mem_front zero n (y ∷ l) m = rw (suc-add, zero-add) (mem_joined grown (compositions n) m (Memᴰ.head refl))
mem_front (suc x) n l m = rw suc-add (mem_joined grown (compositions (suc x + n)) (mem_front x n l m) (Memᴰ.tail (Memᴰ.head refl)))

-- each list of positive numbers is one of its sum
mem_compositions : (l : List ℕ) → ((x : ℕ) → Memᴰ x l → 1 ≤ x) → Memᴰ l (compositions (sum_over (λ x. x) l))
unfolding compositions sum_over
mem_compositions [] h = Memᴰ.head refl
mem_compositions (zero ∷ l) h = absurd (omega (arith, h 0 (Memᴰ.head refl)))
mem_compositions (suc x ∷ l) h = mem_front x (sum_over (λ x. x) l) l (mem_compositions l (λ y m. h y (Memᴰ.tail m)))

-- the genus list of g has at most 2 ^ g words
pub genus_number : (g : ℕ) → length (genus_list g) ≤ 2 ^ g
genus_number g =
    le_trans (length_le_injected kunz_coordinates Earlier (genus_list g) (compositions g) (genus_list_ordered g) differ held)
    (compositions_number g)
  where
    -- two of the list have different coordinates
    differ : (v w : ℕ) → Memᴰ v (genus_list g) → Memᴰ w (genus_list g) → Earlier v w → kunz_coordinates v ≡ kunz_coordinates w → ⊥
    differ v w m n b e =
        let h = genus_list_mem g m in
        let k = genus_list_mem g n in
        let same : v ≡ w =
        same_set v w h.fits k.fits
        (λ x. sym (said_coordinates v h.fits h.closed x) ∙ ap (λ (l : List ℕ). set_said l x) e ∙ said_coordinates w k.fits k.closed x) in
        earlier_asym v w b (subst₂ Earlier same (sym same) b)

    -- which are positive and add up to g
    held : (w : ℕ) → Memᴰ w (genus_list g) → Memᴰ (kunz_coordinates w) (compositions g)
    held w m =
        let h = genus_list_mem g m in
        subst (λ (n : ℕ). Memᴰ (kunz_coordinates w) (compositions n)) (coordinates_sum w h.fits h.closed ∙ h.gapped)
        (mem_compositions (kunz_coordinates w) (coordinates_positive w h.fits))
