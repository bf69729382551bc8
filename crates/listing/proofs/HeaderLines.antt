-- Headers: the count call gives their number, each is the first line of the listing of its genus, and those of genus 0 to 20, one behind the
-- other, are just these lines. Assumes nothing.
use Prim.Native.Nat.{ℕ, ◌+◌, ◌^◌, ◌≤◌, ◌<◌}
use mathlib.Core.Path.{◌≡◌, refl, sym, ◌∙◌, ap}
use mathlib.Core.Bool.{Bool, true, not, and-eq-true_iff}
use mathlib.Core.List.{List, [], ◌∷◌, ◌++◌, map, append_assoc, Memᴰ}
use native.Mathlib.Omega.{arith}
use native.Mathlib.Numerals.{add-one}
use Rattle.std.specs.Prelude.{Result, Ok}
use lib.Dec.{eqb}
use lib.ListN.{length, get_or}
use borrow.Author.Tests.{ne_eqb, not-true}
use Rattle.semigroups.specs.Lists.{run, every, joined}
use Rattle.semigroups.specs.GenusList.{genus_list}
use Rattle.semigroups.proofs.Lists.{run_mem, run_last, length_run, every_mem, mem_every, every_append, joined_last, length_joined_le, map_same}
use Rattle.semigroups.proofs.Tree.{genus_count_fits}
use Rattle.answers.specs.Answers.{refused, given, listed}
use Rattle.answers.specs.declared.Refusal.{Refusal}
use Rattle.answers.proofs.Answers.{lent_given}
use Rattle.counts.specs.Counts.{count_of}
use Rattle.counts.proofs.Counts.{count_all}
use Rattle.requests.specs.Digits.{line_feed, is_digit}
use Rattle.requests.proofs.Requests.{digit_range}
use Rattle.listing.specs.Decimal.{decimal}
use Rattle.listing.specs.Text.{blank, field, genus_word, count_word, header, header_of, line_of, listing_of, headers_to, header_lines, headers_of, onto_first, lines_of, first_line}
use Rattle.listing.proofs.Decimal.{decimal_digits}
use Rattle.listing.proofs.Lines.{header_of_le}

-- ---- the number

-- the count call for word 0 gives the number of semigroups of the genus
pub count_given : {g n : ℕ} → count_of 0 g ≡ given n → g ≤ 32 → header_of g ≡ header g n
unfolding header_of
count_given {g} {n} e small = let all = count_all g small in let same : length (genus_list g) ≡ n = cc in ap (header g) same

-- and is not refused
pub count_not_refused : {g n : ℕ} → count_of 0 g ≡ refused n → g ≤ 32 → ⊥
count_not_refused {g} {n} e small = let all = count_all g small in let z : ◌≡◌ {A = ℕ} 0 1 = cc in omega arith

-- ---- line by line

-- is the byte no line feed
abbrev no_line_feed : ℕ → Bool
no_line_feed b = not (eqb b line_feed)

-- bytes that are no line feed, and then one, are the first line of a text that begins with them
line_first : (l text : List ℕ) → every no_line_feed l ≡ true → lines_of ((l ++ line_feed ∷ []) ++ text) ≡ (l ++ line_feed ∷ []) ∷ lines_of text
unfolding every onto_first lines_of
line_first [] text e = refl
line_first (b ∷ l) text e =
    let (on, others) = (and-eq-true_iff (no_line_feed b) (every no_line_feed l)).0 e in
    rw (not-true (eqb b line_feed) on, line_first l text others)

-- digits are no line feed
digits_no_feed : (l : List ℕ) → every is_digit l ≡ true → every no_line_feed l ≡ true
digits_no_feed l e = mem_every no_line_feed l (λ b m. ap not (ne_eqb b line_feed (λ same. omega (arith, digit_range b (every_mem is_digit l e m)))))

-- a header is one line
header_line : (g n : ℕ) (text : List ℕ) → g < 2 ^ 64 → n < 2 ^ 64 → lines_of (header g n ++ text) ≡ header g n ∷ lines_of text
unfolding header field every
header_line g n text small fits =
    let front : List ℕ = genus_word ++ (decimal g ++ blank ∷ []) ++ count_word in
    let ends : header g n ≡ (front ++ decimal n) ++ line_feed ∷ [] = sym (append_assoc front (decimal n) (line_feed ∷ [])) in
    let whole : every no_line_feed (front ++ decimal n) ≡ true =
    simp (every_append, digits_no_feed (decimal g) (decimal_digits g small), digits_no_feed (decimal n) (decimal_digits n fits)) in
    ap (λ (h : List ℕ). lines_of (h ++ text)) ends ∙ line_first (front ++ decimal n) text whole
    ∙ ap (λ (h : List ℕ). h ∷ lines_of text) (sym ends)

-- and so is that of a genus
header_of_line : (g : ℕ) (text : List ℕ) → g ≤ 32 → lines_of (header_of g ++ text) ≡ header_of g ∷ lines_of text
unfolding header_of
header_of_line g text small = header_line g (length (genus_list g)) text (omega arith) (genus_count_fits g small)

-- it is the first line of the listing
pub first_line_header : (g : ℕ) → g ≤ 32 → first_line (listing_of g) ≡ header_of g
unfolding listing_of first_line
first_line_header g small = ap (λ (lines : List (List ℕ)). get_or lines 0 []) (header_of_line g (joined line_of (genus_list g)) small)

-- headers joined have no other lines
lines_each : (l : List ℕ) → ((g : ℕ) → Memᴰ g l → g ≤ 32) → lines_of (joined header_of l) ≡ map header_of l
unfolding joined lines_of
lines_each [] small = refl
lines_each (g ∷ l) small =
    header_of_line g (joined header_of l) (small g (Memᴰ.head refl))
    ∙ ap (λ (lines : List (List ℕ)). header_of g ∷ lines) (lines_each l (λ x m. small x (Memᴰ.tail m)))

-- the lines of those of genus 0 to 20
pub header_lines_are : lines_of header_lines ≡ map (λ g. first_line (listing_of g)) (run 0 21)
unfolding headers_to
header_lines_are =
    let small : (g : ℕ) → Memᴰ g (run 0 21) → g ≤ 32 = λ g m. omega (arith, run_mem 0 21 m) in
    lines_each (run 0 21) small ∙ map_same header_of (λ g. first_line (listing_of g)) (run 0 21) (λ g m. sym (first_line_header g (small g m)))

-- ---- one behind the other

-- one more
pub headers_next : (g : ℕ) → joined header_of (run 0 (g + 1)) ≡ joined header_of (run 0 g) ++ header_of g
headers_next g = rw (add-one g, run_last g) (joined_last header_of (run 0 g) g)

-- those of genus 0 to 20 have at most 36 bytes each
pub header_lines_le : length header_lines ≤ 756
unfolding headers_to
header_lines_le = omega (arith, length_run 0 21, length_joined_le header_of 36 (run 0 21) (λ g m. header_of_le g (omega (arith, run_mem 0 21 m))))

-- so the number of bytes that are given is at most that
pub headers_given : (lent : List ℕ) {r : Result ℕ Refusal} {after : List ℕ} (n : ℕ) → listed r after ≡ headers_of lent → r ≡ Ok n → n ≤ 756
unfolding headers_of
headers_given lent n e g = omega (arith, lent_given header_lines lent n e g, header_lines_le)
