-- Text written behind text is written as one, and text from the start of a list stands at its front. Assumes nothing.
use Prim.Native.Nat.{ℕ, ◌+◌, ◌≤◌, ◌<◌}
use mathlib.Core.Path.{◌≡◌, refl, sym, ◌∙◌, ap, ap₂, subst}
use mathlib.Core.List.{List, [], ◌∷◌, ◌++◌, append_assoc}
use native.Mathlib.Omega.{arith}
use borrow.Rule.Slice.PartMut.{put_mid}
use lib.ListN.{length, take, drop, set, length-append}
use lib.Seq.{sets, sets-eq, length-sets, drop-drop}
use Rattle.semigroups.specs.Lists.{fronted}
use Rattle.semigroups.proofs.Lists.{sets_append}
use Rattle.listing.specs.Writing.{Puts}

-- nothing is written
pub puts_nothing : (l : List ℕ) (at : ℕ) → at ≤ length l → Puts l at [] l at
puts_nothing l at h = record { list = refl; next = omega arith; within = omega arith }

-- a byte is stored
pub puts_byte : (l : List ℕ) (at b : ℕ) → at < length l → Puts l at (b ∷ []) (set l at b) (at + 1)
puts_byte l at b h = record { list = refl; next = refl; within = omega arith }

-- a part is overwritten by bytes
pub puts_part : (l : List ℕ) (at k : ℕ) (s t : List ℕ) → k ≡ length t → s ≡ t → at + length t ≤ length l → Puts l at t (put_mid at k l s) (at + length t)
puts_part l at k s t size same within = record {
  list =
      ap₂ (λ (n : ℕ) (m : List ℕ). put_mid at n l m) size same ∙ ap (λ (r : List ℕ). take at l ++ (t ++ r)) (drop-drop (length t) at l)
      ∙ sym (append_assoc (take at l) t (drop (at + length t) l)) ∙ sym (sets-eq t l at within);
  next = refl;
  within = within;
}

-- an equal text is written
pub puts_as : {l m s t : List ℕ} {at end : ℕ} → s ≡ t → Puts l at s m end → Puts l at t m end
puts_as {l} {m} {s} {t} {at} {end} e p = subst (λ (u : List ℕ). Puts l at u m end) e p

-- the list keeps its length
pub puts_length : {l m s : List ℕ} {at end : ℕ} → Puts l at s m end → length m ≡ length l
puts_length {l} {m} {s} {at} {end} p = ap length p.list ∙ length-sets l at s

-- t is written behind s
pub puts_on : {l m n s t : List ℕ} {at next end : ℕ} → Puts l at s m next → Puts m next t n end → Puts l at (s ++ t) n end
puts_on {l} {m} {n} {s} {t} {at} {next} {end} p q = record {
  list = q.list ∙ ap₂ (λ (k : List ℕ) (i : ℕ). sets k i t) p.list p.next ∙ sym (sets_append l at s t);
  next = omega (arith, p.next, q.next, length-append s t);
  within = omega (arith, p.next, q.within, puts_length p, length-append s t);
}

-- from the start on, the text stands at the front, and the places after it are untouched
pub puts_front : {l m s : List ℕ} {end : ℕ} → Puts l 0 s m end → (end ≡ length s) × (m ≡ fronted s l)
unfolding fronted
puts_front {l} {m} {s} {end} p =
    let zero : 0 + length s ≡ length s = omega arith in
    (p.next ∙ zero, p.list ∙ sets-eq s l 0 p.within ∙ ap (λ (i : ℕ). s ++ drop i l) zero)
