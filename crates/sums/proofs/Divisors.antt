-- The greatest common divisor divides each, and each common divisor divides it. Assumes nothing.
use Prim.Native.Nat.{ℕ, zero, suc, ◌%◌, ◌≤◌, ◌<◌, ◌∣◌}
use mathlib.Core.Path.{◌≡◌, refl, ap, ◌∙◌}
use mathlib.Core.List.Memᴰ
use mathlib.Core.List.{List, [], ◌∷◌, Memᴰ, reverse, reverse-cons}
use native.Mathlib.Omega.{arith}
use native.Mathlib.Nat.{dvd_refl, dvd-zero, dvd_trans, dvd-mod_iff, dvd_antisymm, mod-lt, le_refl}
use Rattle.std.specs.List.{fold}
use Rattle.std.proofs.lemmas.List.Sums.{fold-append}
use Rattle.sums.specs.Divisors.{euclid, gcd, gcd_of}

-- g is a greatest common divisor of a and b
pub record IsGcd (a b g : ℕ) : Type 0 where
  pub left : g ∣ a
  pub right : g ∣ b
  pub greatest : (d : ℕ) → d ∣ a → d ∣ b → d ∣ g

-- Euclid's step: b and the rest of a by b have the common divisors of a and b
step_is : {a b g : ℕ} → IsGcd b (a % b) g → IsGcd a b g
step_is r = record {
  left = (dvd-mod_iff _ r.left).0 r.right;
  right = r.left;
  greatest = λ d p q. r.greatest d q ((dvd-mod_iff _ q).1 p);
}

euclid_is : (n a b : ℕ) → b ≤ n → IsGcd a b (euclid n a b)
unfolding euclid
euclid_is zero a b h = let none : b ≡ 0 = omega arith in rw none (record { left = dvd_refl a; right = dvd-zero a; greatest = λ d p q. p })
euclid_is (suc n) a zero h = record { left = dvd_refl a; right = dvd-zero a; greatest = λ d p q. p }
euclid_is (suc n) a (suc b) h =
    let low : a % suc b < suc b = mod-lt a (omega arith) in
    step_is (euclid_is n (suc b) (a % suc b) (omega arith))

-- Euclid's algorithm gives the greatest common divisor
pub gcd_is : (a b : ℕ) → IsGcd a b (gcd a b)
unfolding gcd
gcd_is a b = euclid_is b a b (le_refl b)

-- Euclid's step keeps the greatest common divisor
pub gcd_step : (a b : ℕ) → gcd a b ≡ gcd b (a % b)
gcd_step a b =
    let p = gcd_is a b in
    let q : IsGcd a b (gcd b (a % b)) = step_is (gcd_is b (a % b)) in
    dvd_antisymm (q.greatest (gcd a b) p.left p.right) (p.greatest (gcd b (a % b)) q.left q.right)

-- where it ends
pub gcd_zero : (a : ℕ) → gcd a 0 ≡ a
unfolding gcd euclid
gcd_zero a = refl

-- the greatest common divisor of a list divides each member
pub gcd_divides : {a : ℕ} (A : List ℕ) → Memᴰ a A → gcd_of A ∣ a
unfolding gcd_of
gcd_divides [] m = absurd (Memᴰ.not-nil m)
gcd_divides (b ∷ A) (Memᴰ.head e) = rw e (gcd_is b (gcd_of A)).left
gcd_divides (b ∷ A) (Memᴰ.tail m) = dvd_trans _ (gcd_is b (gcd_of A)).right (gcd_divides A m)

-- what divides each member divides it
pub gcd_greatest : (A : List ℕ) (d : ℕ) → ((a : ℕ) → Memᴰ a A → d ∣ a) → d ∣ gcd_of A
unfolding gcd_of
gcd_greatest [] d h = dvd-zero d
gcd_greatest (b ∷ A) d h = (gcd_is b (gcd_of A)).greatest d (h b (Memᴰ.head refl)) (gcd_greatest A d (λ a m. h a (Memᴰ.tail m)))

-- it may be taken from the end of the list on
pub gcd_reversed : (A : List ℕ) → fold (λ d a. gcd a d) 0 (reverse A) ≡ gcd_of A
unfolding gcd_of
gcd_reversed [] = refl
gcd_reversed (a ∷ A) =
    ap (fold (λ d a. gcd a d) 0) (reverse-cons a A) ∙ fold-append (λ d a. gcd a d) 0 (reverse A) (a ∷ []) ∙ ap (gcd a) (gcd_reversed A)
