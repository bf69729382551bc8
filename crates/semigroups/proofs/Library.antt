-- Runs, sums and written parts in the library's words. Assumes nothing.
use Prim.Native.Nat.{ℕ, zero, suc, ◌+◌, ◌≤◌}
use mathlib.Core.Path.{◌≡◌, refl, sym, ap, ◌∙◌}
use mathlib.Core.List.{List, [], ◌∷◌, ◌++◌, append_assoc}
use native.Mathlib.Omega.{arith}
use native.Mathlib.Numerals.{add-one}
use borrow.Rule.Slice.PartMut.{put_mid}
use lib.ListN.{length, take, drop, length-append}
use lib.Seq.{length-take-le, drop-drop}
use Rattle.std.specs.List.{range_with_len, sum_by}
use Rattle.std.proofs.lemmas.List.Sums.{sum_by-cons}
use Rattle.semigroups.specs.Lists.{run, sum_over, fronted}

-- n numbers in a row, from a on
pub run_range : (a n : ℕ) → run a n ≡ range_with_len a n
unfolding run
run_range a zero = refl
run_range a (suc n) = ap (λ (l : List ℕ). a ∷ l) (run_range (suc a) n ∙ ap (λ (b : ℕ). range_with_len b n) (sym (add-one a)))

-- a sum over a list
pub sum_over_by : {A : Type 0} (f : A → ℕ) (l : List A) → sum_over f l ≡ sum_by f l
unfolding sum_over
sum_over_by f [] = refl
sum_over_by f (x ∷ l) = ap (λ (n : ℕ). f x + n) (sum_over_by f l) ∙ sym (sum_by-cons f x l)

-- k numbers of a list, from the place a on, overwritten by those of l
pub fronted_part : (out l : List ℕ) (a k : ℕ) → a + k ≤ length out → length l ≡ k → put_mid a k out l ≡ fronted (take a out ++ l) out
unfolding fronted
fronted_part out l a k room long =
    let end : length (take a out ++ l) ≡ a + k = omega (arith, length-append (take a out) l, length-take-le a out (omega arith)) in
    sym (append_assoc (take a out) l (drop k (drop a out))) ∙ ap (λ (r : List ℕ). (take a out ++ l) ++ r) (drop-drop k a out ∙ ap (λ (n : ℕ). drop n out) (sym end))
