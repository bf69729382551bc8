-- Raking a table: which bits it keeps, and how it is done by doubling. Assumes nothing.
use Prim.Native.Nat.{ℕ, zero, suc, ◌+◌, ◌*◌, ◌-◌, ◌%◌, ◌^◌, ◌≤◌, ◌<◌}
use mathlib.Core.Path.{◌≡◌, refl, sym, ap, ap₂, ◌∙◌}
use mathlib.Core.Bool.{Bool, true, false, not, ◌&&◌, and_assoc, and-true, and-eq-true_iff, not-not}
use mathlib.Core.List.{[], ◌∷◌}
use native.Mathlib.Omega.{arith}
use native.Mathlib.Nat.{le_refl, le_trans, le_dest, lt_of_not-le, lt_of_le_of_lt}
use native.Mathlib.Decide.{dec_le, dec_lt}
use lib.Bits.{bit_and, and_le_l, and_comm, and_mask}
use lib.Dec.{leb}
use borrow.Author.Tests.{not-true, le-leb, lt-leb}
use Rattle.semigroups.specs.Lists.{run, every}
use Rattle.semigroups.specs.Words.{bit, set_of}
use Rattle.semigroups.specs.Elements.{element_at}
use Rattle.semigroups.proofs.Booleans.{is_false, not_both, true_together}
use Rattle.semigroups.proofs.Lists.{run_mem, mem_run, run_last, every_mem, mem_every, every_append}
use Rattle.semigroups.proofs.Bits.{bit_of_and, bit_zero, bit_shl, bit_shl_low, bit_mod, bit_not, bits_decide}
use Rattle.semigroups.proofs.Elements.{element_in, element_next}
use Rattle.seeds.specs.Child.{raked}

-- are p, p - 1, .., p - d + 1 all gaps
pub gaps_down : ℕ → ℕ → ℕ → Bool
gaps_down w p d = every (λ j. not (set_of w (p - j))) (run 0 d)

module _ (w p d : ℕ) where
  -- then each of them is
  gaps_down_gaps : gaps_down w p d ≡ true → (j : ℕ) → j < d → set_of w (p - j) ≡ false
  unfolding gaps_down
  gaps_down_gaps e j h = not-true _ (every_mem _ (run 0 d) e (mem_run 0 d (omega arith) (omega arith)))

  -- and they all are where each of them is
  down_gaps : ((j : ℕ) → j < d → set_of w (p - j) ≡ false) → gaps_down w p d ≡ true
  unfolding gaps_down
  down_gaps f = mem_every _ (run 0 d) (λ j m. ap not (f j (omega (arith, (run_mem 0 d m).1))))

  -- they are not where an element x is among them
  pub element_met : (x : ℕ) → set_of w x ≡ true → x ≤ p → p < x + d → gaps_down w p d ≡ false
  element_met x e low high =
      let there : x ≡ p - (p - x) = omega arith in
      is_false (gaps_down w p d) (λ all. not_both e (ap (set_of w) there ∙ gaps_down_gaps all (p - x) (omega arith)))

-- the word, shifted t + 1 times, has bit p where p - t is a gap
shifted_bit : (w t p : ℕ) → bit (w * 2 ^ suc t) p ≡ not (set_of w (p - t))
unfolding set_of
shifted_bit w t p = elim (dec_le p t) [
  | yes h ↦ let none : 0 ≡ p - t = omega arith in bit_shl_low w (suc t) p (omega arith) ∙ ap (λ (x : ℕ). not (set_of w x)) none
  | no h ↦
      let (i, e) = le_dest (lt_of_not-le h) in
      let next : suc i ≡ p - t = omega arith in
      ap (bit (w * 2 ^ suc t)) (sym e) ∙ bit_shl w (suc t) i ∙ sym (not-not (bit w i)) ∙ ap (λ (x : ℕ). not (set_of w x)) next
]

-- raked d times, a table keeps bit p where p, p - 1, .., p - d + 1 are gaps
pub raked_bit : (w S d p : ℕ) → bit (raked w S d) p ≡ (bit S p && gaps_down w p d)
unfolding raked gaps_down every run
raked_bit w S zero p = sym (and-true (bit S p))
raked_bit w S (suc t) p =
    let gap : ℕ → Bool = λ j. not (set_of w (p - j)) in
    let last : every gap (run 0 (suc t)) ≡ (every gap (run 0 t) && gap t) =
    ap (every gap) (run_last t) ∙ every_append gap (run 0 t) (t ∷ []) ∙ ap (λ (b : Bool). every gap (run 0 t) && b) (and-true (gap t)) in
    bit_of_and (raked w S t) (w * 2 ^ suc t) p ∙ ap₂ ◌&&◌ (raked_bit w S t p) (shifted_bit w t p)
    ∙ and_assoc (bit S p) (every gap (run 0 t)) (gap t) ∙ ap (λ (b : Bool). bit S p && b) (sym last)

-- raking only clears bits
pub raked_le : (w S d : ℕ) → raked w S d ≤ S
unfolding raked
raked_le w S zero = le_refl S
raked_le w S (suc t) = le_trans (and_le_l (raked w S t) (w * 2 ^ suc t)) (raked_le w S t)

-- in row i, which goes from element i to the next, p, p - 1, .., p - d + 1 are gaps where p is not below element i plus d
pub row_gaps : (w d i p : ℕ) → w < 2 ^ 64 → element_at w i ≤ p → p < element_at w (suc i) → gaps_down w p d ≡ leb (element_at w i + d) p
row_gaps w d i p fits low high =
    elim (dec_le (element_at w i + d) p) [
      | yes h ↦ down_gaps w p d (λ t l. is_false (set_of w (p - t)) (λ e. omega (arith, element_next w fits i (p - t) e (omega arith))))
          ∙ sym (le-leb (element_at w i + d) p h)
      | no h ↦ element_met w p d (element_at w i) (element_in w fits i) low (omega arith) ∙ sym (lt-leb (element_at w i + d) p (lt_of_not-le h))
    ]

-- ---- raking by doubling

-- the d numbers down from p are gaps where the first h and the last h of them are: none is left out
gaps_twice : (w p h k d : ℕ) → k ≤ h → h + k ≡ d → gaps_down w p d ≡ (gaps_down w p h && gaps_down w (p - k) h)
gaps_twice w p h k d few sum =
    true_together _ _
    (λ e. (and-eq-true_iff _ _).1 (
      down_gaps w p h (λ j l. gaps_down_gaps w p d e j (omega arith)),
      down_gaps w (p - k) h (λ j l. let at : p - k - j ≡ p - (k + j) = omega arith in ap (set_of w) at ∙ gaps_down_gaps w p d e (k + j) (omega arith)),
    ))
    (λ e. let (first, last) = (and-eq-true_iff _ _).0 e in
    down_gaps w p d (λ j l. elim (dec_lt j h) [
      | yes m ↦ gaps_down_gaps w p h first j m
      | no m ↦ let at : p - j ≡ p - k - (j - k) = omega arith in ap (set_of w) at ∙ gaps_down_gaps w (p - k) h last (j - k) (omega arith)
    ]))

-- the word moved up by 1, .., by d, all anded: what raking keeps of 64 places
abbrev pub anded : ℕ → ℕ → ℕ
anded w d = raked w (2 ^ 64 - 1) d

-- moved up by 1 alone
pub anded_first : (w : ℕ) → w * 2 % 2 ^ 64 ≡ anded w 1
unfolding raked
anded_first w = sym (and_mask (w * 2) 64) ∙ and_comm (w * 2) (2 ^ 64 - 1)

-- it has bit p where p, p - 1, .., p - d + 1 are gaps
anded_bit : (w d p : ℕ) → p < 64 → bit (anded w d) p ≡ gaps_down w p d
anded_bit w d p h = raked_bit w (2 ^ 64 - 1) d p ∙ ap (λ (b : Bool). b && gaps_down w p d) (bit_not 64 0 p (omega arith) h ∙ ap not (bit_zero p))

-- moved up by k, where the h numbers down from p - k are; below bit k there is 0 among them
anded_moved : (w h k p : ℕ) → 1 ≤ h → p < 64 → bit (anded w h * 2 ^ k) p ≡ gaps_down w (p - k) h
unfolding set_of
anded_moved w h k p some l = elim (dec_le k p) [
  | yes m ↦
      let (i, e) = le_dest m in
      let at : i ≡ p - k = omega arith in
      ap (bit (anded w h * 2 ^ k)) (sym e) ∙ bit_shl (anded w h) k i ∙ anded_bit w h i (omega arith) ∙ ap (λ (x : ℕ). gaps_down w x h) at
  | no m ↦
      let none : 0 ≡ p - k - 0 = omega arith in
      bit_shl_low (anded w h) k p (lt_of_not-le m)
      ∙ sym (is_false _ (λ e. not_both refl (ap (set_of w) none ∙ gaps_down_gaps w (p - k) h e 0 some)))
]

module _ (w S : ℕ) (fits : S < 2 ^ 64) where
  -- it stays a table of 64 bits
  raked_fits : (d : ℕ) → raked w S d < 2 ^ 64
  raked_fits d = lt_of_le_of_lt (raked_le w S d) fits

  -- raked, it keeps what it has in common with the ands
  pub raked_anded : (d : ℕ) → bit_and S (anded w d) ≡ raked w S d
  raked_anded d =
      bits_decide 64 _ _ (lt_of_le_of_lt (and_le_l S (anded w d)) fits) (raked_fits d)
      (λ p l. bit_of_and S (anded w d) p ∙ ap (λ (b : Bool). bit S p && b) (anded_bit w d p l) ∙ sym (raked_bit w S d p))

  -- the ands over 1 to d are those over 1 to h and, moved by d - h, over the same again
  pub raked_twice : (h k d : ℕ) → 1 ≤ h → k ≤ h → h + k ≡ d → bit_and (raked w S h) (anded w h * 2 ^ k % 2 ^ 64) ≡ raked w S d
  raked_twice h k d some few sum =
      bits_decide 64 _ _ (lt_of_le_of_lt (and_le_l (raked w S h) _) (raked_fits h)) (raked_fits d)
      (λ p l.
      bit_of_and (raked w S h) (anded w h * 2 ^ k % 2 ^ 64) p
      ∙ ap₂ ◌&&◌ (raked_bit w S h p) (bit_mod (anded w h * 2 ^ k) 64 p l ∙ anded_moved w h k p some l)
      ∙ and_assoc (bit S p) (gaps_down w p h) (gaps_down w (p - k) h)
      ∙ ap (λ (b : Bool). bit S p && b) (sym (gaps_twice w p h k d few sum)) ∙ sym (raked_bit w S d p))
