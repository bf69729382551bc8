-- The multiples of m as bits, found one after the other. Assumes nothing.
use Prim.Native.Nat.{ℕ, ◌+◌, ◌*◌, ◌/◌, ◌%◌, ◌^◌, ◌≤◌, ◌<◌}
use mathlib.Core.Path.{◌≡◌, ap, ap₂, ◌∙◌, fun_ext}
use mathlib.Core.Bool.{Bool, true, ◌||◌, ◌&&◌, and-false, and-true, and-eq-true_iff, or-false, false}
use native.Mathlib.Omega.{arith}
use native.Mathlib.Nat.{zero-mod, add-mod_right, div-add-mod, le_dest}
use lib.Dec.{eqb, ltb}
use lib.Bits.{bit_or}
use borrow.Author.Tests.{eq-eqb, ne_eqb, eqb-true, lt-ltb, le-ltb, ltb-true, ltb-false}
use Rattle.semigroups.specs.Sets.{Set}
use Rattle.semigroups.specs.Positions.{bits_from}
use Rattle.semigroups.proofs.Booleans.{by_value, true_together}
use Rattle.semigroups.proofs.Bits.{one_shl}
use Rattle.semigroups.proofs.BitSets.{bits_from_none, bits_from_same, bits_from_or, bits_from_one}
use Rattle.coordinates.proofs.Residues.{residue_mod}
use Rattle.kunz.specs.Private.{multiples_as_bits}

-- the multiples of m below n
abbrev pub multiples_below : ℕ → ℕ → Set
multiples_below m n j = eqb (j % m) 0 && ltb j n

-- the bits are the multiples of m below `at`, which is one
pub record MultiplesFound (m bits at : ℕ) : Type 0 where
  pub multiple : at % m ≡ 0
  pub found : bits ≡ bits_from (multiples_below m at) 0

module _ (m : ℕ) where
  -- none below 0
  pub multiples_none : MultiplesFound m 0 0
  multiples_none = record {
    multiple = zero-mod m;
    found = bits_from_none (multiples_below m 0) 0 (λ x low high. ap (λ (b : Bool). eqb (x % m) 0 && b) (le-ltb x 0 (omega arith)) ∙ and-false (eqb (x % m) 0));
  }

  -- of the m numbers from a multiple on, it alone is one
  multiples_more : (at x : ℕ) → 0 < m → at % m ≡ 0 → (multiples_below m at x || eqb (0 + at) x) ≡ multiples_below m (at + m) x
  multiples_more at x pos e = by_value (ltb x at) low high
    where
      low : ltb x at ≡ true → (multiples_below m at x || eqb (0 + at) x) ≡ multiples_below m (at + m) x
      low l =
          let h = ltb-true x at l in
          rw (l, ne_eqb (0 + at) x (λ q. omega arith), lt-ltb x (at + m) (omega arith)) (or-false (eqb (x % m) 0 && true))

      alone : ltb x at ≡ false → x % m ≡ 0 → x < at + m → 0 + at ≡ x
      alone l r h =
          let (d, q) = le_dest (ltb-false x at l) in
          let parts : m * (at / m) + d ≡ x = omega (arith, div-add-mod at m) in
          omega (arith, residue_mod m (at / m) d (omega arith), ap (λ (y : ℕ). y % m) parts)

      high : ltb x at ≡ false → (multiples_below m at x || eqb (0 + at) x) ≡ multiples_below m (at + m) x
      high l =
          rw (l, and-false) (true_together (eqb (0 + at) x) (multiples_below m (at + m) x)
          (λ q.
          let same = eqb-true (0 + at) x q in
          let here : x ≡ at = omega arith in
          (and-eq-true_iff _ _).1 (eq-eqb (x % m) 0 (ap (λ (y : ℕ). y % m) here ∙ e), lt-ltb x (at + m) (omega arith)))
          (λ q. let (r, h) = (and-eq-true_iff _ _).0 q in eq-eqb (0 + at) x (alone l (eqb-true (x % m) 0 r) (ltb-true x (at + m) h))))

  -- the next
  pub multiples_next : (bits at : ℕ) → 0 < m → at < 64 → MultiplesFound m bits at → MultiplesFound m (bit_or bits (1 * 2 ^ at % 2 ^ 64)) (at + m)
  multiples_next bits at pos h s = record {
    multiple = add-mod_right at m ∙ s.multiple;
    found =
        ap₂ bit_or s.found (one_shl at h ∙ bits_from_one 0 at h) ∙ bits_from_or (multiples_below m at) (eqb (0 + at)) 0
        ∙ ap (λ (S : Set). bits_from S 0) (fun_ext (λ x. multiples_more at x pos s.multiple));
  }

  -- all below 64
  pub multiples_all : (bits at : ℕ) → 64 ≤ at → MultiplesFound m bits at → bits ≡ multiples_as_bits m
  multiples_all bits at h s =
      s.found ∙ bits_from_same (multiples_below m at) (λ j. eqb (j % m) 0) 0
      (λ x low high. ap (λ (b : Bool). eqb (x % m) 0 && b) (lt-ltb x at (omega arith)) ∙ and-true (eqb (x % m) 0))
