-- How long the lines are: that of a semigroup at most 27 bytes, the header 36, that of a refusal 11. Assumes nothing.
use Prim.Native.Nat.{ℕ, suc, ◌+◌, ◌*◌, ◌^◌, ◌≤◌, ◌<◌}
use mathlib.Core.Path.{◌≡◌, refl, sym, ◌∙◌, ap, ap₂}
use mathlib.Core.Bool.{Bool, true, false}
use mathlib.Core.List.{List, [], ◌∷◌, ◌++◌, Memᴰ}
use native.Mathlib.Omega.{arith}
use lib.Dec.{leb}
use Rattle.std.specs.Prelude.{Result, Ok}
use lib.ListN.{length, length-append}
use Rattle.semigroups.specs.Lists.{joined, fronted}
use Rattle.semigroups.specs.Words.{reported_conductor}
use Rattle.semigroups.specs.Elements.{multiplicity}
use Rattle.semigroups.specs.GenusList.{genus_list}
use Rattle.semigroups.proofs.Lists.{length_joined_le}
use Rattle.semigroups.proofs.Reported.{reported_le}
use Rattle.semigroups.proofs.Operations.{conductor_le, multiplicity_le}
use Rattle.semigroups.proofs.Tree.{genus_count_fits}
use Rattle.answers.specs.Answers.{Answer, refused, given, number_of, answered, ask}
use Rattle.answers.specs.declared.Refusal.{Refusal}
use Rattle.answers.proofs.Answers.{number_range}
use Rattle.requests.specs.Digits.{line_feed}
use Rattle.listing.specs.Decimal.{decimal}
use Rattle.listing.specs.Text.{blank, field, header, header_of, line_of, refusal_line, refusal_line_of}
use Rattle.listing.proofs.Decimal.{length_decimal}

-- a field has one byte more than digits
pub length_field : (n end : ℕ) → length (field n end) ≡ length (decimal n) + 1
unfolding field
length_field n end = length-append (decimal n) (end ∷ [])

-- a number below 10 ^ (k + 1) with the byte that ends it
pub field_le : (n end k : ℕ) → n < 2 ^ 64 → n < 10 ^ suc k → length (field n end) ≤ suc k + 1
field_le n end k fits h = omega (arith, length_field n end, length_decimal n fits k h)

-- a field of at most two digits
pub field_le_3 : (n end : ℕ) → n < 100 → length (field n end) ≤ 3
field_le_3 n end h = field_le n end 1 (omega arith) (omega arith)

-- the parts of a line
pub line_from : (w : ℕ) {c m : ℕ} → c ≡ reported_conductor w → m ≡ multiplicity w → line_of w ≡ field w blank ++ field c blank ++ field m line_feed
unfolding line_of
line_from w p q = ap₂ (λ (c m : ℕ). field w blank ++ field c blank ++ field m line_feed) (sym p) (sym q)

-- and their lengths
pub line_parts : (w : ℕ) {c m : ℕ} → c ≡ reported_conductor w → m ≡ multiplicity w
    → length (line_of w) ≡ length (field w blank) + length (field c blank) + length (field m line_feed)
line_parts w p q = ap length (line_from w p q) ∙ simp length-append

-- a line has bytes
pub line_some : (w : ℕ) → 0 < length (line_of w)
line_some w = omega (arith, line_parts w refl refl, length_field w blank)

-- and at most 27
pub line_le : (w : ℕ) → w < 2 ^ 64 → length (line_of w) ≤ 27
line_le w fits =
    omega (
      arith,
      line_parts w refl refl,
      field_le w blank 19 fits (omega arith),
      field_le_3 (reported_conductor w) blank (omega (arith, reported_le w, conductor_le w fits)),
      field_le_3 (multiplicity w) line_feed (omega (arith, multiplicity_le w fits)),
    )

-- the lines of words of 64 bits
pub lines_le : (l : List ℕ) → ((w : ℕ) → Memᴰ w l → w < 2 ^ 64) → length (joined line_of l) ≤ length l * 27
lines_le l fits = length_joined_le line_of 27 l (λ w m. line_le w (fits w m))

module _ (g n : ℕ) where
  -- the parts of a header, and its length
  pub header_parts : length (header g n) ≡ 6 + length (field g blank) + 6 + length (field n line_feed)
  unfolding header
  header_parts = simp length-append

  pub header_le : g ≤ 32 → n < 2 ^ 64 → length (header g n) ≤ 36
  header_le small fits = omega (arith, header_parts, field_le_3 g blank (omega arith), field_le n line_feed 19 fits (omega arith))

-- the header of a genus
pub header_of_le : (g : ℕ) → g ≤ 32 → length (header_of g) ≤ 36
unfolding header_of
header_of_le g small = header_le g (length (genus_list g)) small (genus_count_fits g small)

-- the line of a refusal
pub refusal_line_le : (n : ℕ) → n < 100 → length (refusal_line n) ≤ 11
unfolding refusal_line
refusal_line_le n h =
    let parts : length (refusal_line n) ≡ 8 + length (field n line_feed) = simp length-append in
    omega (arith, field_le_3 n line_feed (omega arith))

-- the line that is given has at most 11 bytes
pub refusal_given : (r : Refusal) (lent : List ℕ) (a : Result ℕ Refusal) (l : List ℕ) (m : ℕ) → (answered a, l) ≡ refusal_line_of (number_of r) lent
    → a ≡ Ok m → m ≤ 11
unfolding refusal_line_of
refusal_given r lent a l m e g =
    by_question (leb 11 (length lent)) (ap (λ (x : Answer ℕ × List ℕ). x.0) (sym e) ∙ ap answered g)
  where
    line : List ℕ
    line = refusal_line (number_of r)

    by_question : (b : Bool) → (ask {A = Answer ℕ × List ℕ} b (refused 6, lent) (given (length line), fronted line lent)).0 ≡ given m → m ≤ 11
    by_question true e = let same : length line ≡ m = cc in omega (arith, refusal_line_le (number_of r) (omega (arith, number_range r)))
    by_question false e = absurd (let z : ◌≡◌ {A = ℕ} 0 1 = cc in omega arith)
