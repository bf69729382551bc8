-- The pages of a listing, joined in call order, are a beginning of it, and the whole of it where a page says finished, which is so at the
-- latest after as many pages as there are semigroups of the genus. Assumes nothing.
use Prim.Native.Nat.{ℕ, ◌-◌, ◌^◌, ◌≤◌, ◌<◌, min}
use mathlib.Core.Path.{◌≡◌, refl, sym, ◌∙◌, ap, subst, subst₂}
use mathlib.Core.Logic.{◌↔◌}
use mathlib.Core.Bool.{Bool, true, false}
use mathlib.Core.List.Memᴰ
use mathlib.Core.List.{List, [], ◌∷◌, ◌++◌, map, append-nil, append_assoc, nil≢cons, head-eq_of_cons-eq, tail-eq_of_cons-eq, Memᴰ}
use native.Mathlib.Omega.{arith}
use lib.ListN.{length, take, drop, length-append, length-take, length-drop, take-append-drop}
use borrow.Author.Tests.{le-leb}
use Rattle.semigroups.specs.Lists.{none, joined}
use Rattle.semigroups.specs.GenusList.{genus_list}
use Rattle.semigroups.proofs.Booleans.{not_both}
use Rattle.semigroups.proofs.Lists.{none_iff, end_drop, joined_last, fronted_length, fronted_front, fronted_rest}
use Rattle.semigroups.proofs.GenusList.{genus_list_mem}
use Rattle.windows.proofs.Windows.{window_whole}
use Rattle.walk.specs.Walks.{standing}
use Rattle.walk.proofs.Walks.{rest_standing, standing_in_order}
use Rattle.listing.specs.declared.Listing.{Listing}
use Rattle.listing.specs.Text.{header_of, line_of, listing_of}
use Rattle.listing.specs.Pages.{fresh_listing_of, heading_of, text_left, Turn, lines_within, page_written, page_of, PageCall, pages, reported_bytes, wrote_bytes, AfterPage, Listings}
use Rattle.listing.proofs.Lines.{line_some, lines_le}
use Rattle.listing.proofs.Pages.{page_written_is, lines_some, page_fits, text_turns}

-- no line is empty, so that no words are left just where no bytes are
lines_none : (l : List ℕ) → none l ≡ true → joined line_of l ≡ []
unfolding none joined
lines_none [] e = refl
lines_none (w ∷ l) e = absurd (not_both e refl)

none_lines : (l : List ℕ) → length (joined line_of l) ≡ 0 → none l ≡ true
unfolding none joined
none_lines [] e = refl
none_lines (w ∷ l) e = absurd (omega (arith, length-append (line_of w) (joined line_of l), line_some w))

module _ (g : ℕ) (small : g ≤ 32) where
  -- the listing of genus g that has the lines of r still to give, and the header unless it is headed
  abbrev stood : Bool → List ℕ → Listing
  stood headed r = record { headed = headed; walk = standing g 1 33 r }

  -- the pages so far and what is left are the listing, and the semigroups left are fewer with each page
  record Stands (calls : List PageCall) (headed : Bool) (r : List ℕ) : Type 0 where
    passed : List ℕ
    split : passed ++ r ≡ genus_list g
    text : joined wrote_bytes calls ++ (heading_of headed g ++ joined line_of r) ≡ listing_of g
    fewer : length r ≤ length (genus_list g) - length calls

  -- one more page
  module _ (calls : List PageCall) (headed : Bool) (r : List ℕ) (h : Stands calls headed r) (lent : List ℕ) (room : 64 ≤ length lent) where
    abbrev n : ℕ
    n = min (lines_within headed (length lent)) (length r)

    abbrev text : List ℕ
    text = heading_of headed g ++ joined line_of (take n r)

    abbrev left : List ℕ
    left = joined line_of (drop n r)

    abbrev c : PageCall
    c = record { lent = lent; turn = page_written (stood headed r) r lent }

    page_stood : page_of (stood headed r) lent ≡ page_written (stood headed r) r lent
    unfolding standing
    page_stood =
        page_written_is (stood headed r) lent small (standing_in_order g 1 33 h.passed small r (h.split ∙ sym (window_whole g small))) room
        ∙ ap (λ (t : List ℕ). page_written (stood headed r) t lent) (rest_standing g 1 33 h.passed r (h.split ∙ sym (window_whole g small)))

    wrote_text : wrote_bytes c ≡ text
    unfolding wrote_bytes reported_bytes standing
    wrote_text = fronted_front text lent

    so_far : joined wrote_bytes (calls ++ c ∷ []) ≡ joined wrote_bytes calls ++ text
    so_far = joined_last wrote_bytes calls c ∙ ap (λ (t : List ℕ). joined wrote_bytes calls ++ t) wrote_text

    turns : joined wrote_bytes (calls ++ c ∷ []) ++ left ≡ listing_of g
    turns =
        ap (λ (t : List ℕ). t ++ left) so_far ∙ append_assoc (joined wrote_bytes calls) text left
        ∙ ap (λ (t : List ℕ). joined wrote_bytes calls ++ t) (text_turns (heading_of headed g) r n) ∙ h.text

    fewer : length (drop n r) ≤ length (genus_list g) - length (calls ++ c ∷ [])
    fewer = omega (arith, length-drop n r, h.fewer, length-append calls (c ∷ []), lines_some headed (length lent) room)

    finished : (none (drop n r) ≡ true) ↔ (joined wrote_bytes (calls ++ c ∷ []) ≡ listing_of g)
    finished = (
      λ e. sym (append-nil _) ∙ ap (λ (t : List ℕ). joined wrote_bytes (calls ++ c ∷ []) ++ t) (sym (lines_none (drop n r) e)) ∙ turns,
      λ e. none_lines (drop n r) (omega (arith, length-append (joined wrote_bytes (calls ++ c ∷ [])) left, ap length turns, ap length e)),
    )

    listed : (w : ℕ) → Memᴰ w (take n r) → w < 2 ^ 64
    listed w m =
        let in_rest = subst (Memᴰ w) (take-append-drop n r) (Memᴰ.append_left (drop n r) m) in
        (genus_list_mem g (subst (Memᴰ w) h.split (Memᴰ.append_right h.passed in_rest))).fits

    fits : length text ≤ length lent
    fits =
        omega (
          arith,
          length-append (heading_of headed g) (joined line_of (take n r)),
          lines_le (take n r) listed,
          length-take n r,
          page_fits headed (length lent) room g small,
        )

    after_page : AfterPage g calls c
    unfolding standing
    after_page = record {
      page = record { bytes = length text; finished = none (drop n r) };
      answered = refl;
      left = left;
      beginning = turns;
      finished = finished;
      enough = λ e. (none_iff (drop n r)).1 (omega (arith, fewer));
      untouched = fronted_rest text lent;
      same_length = fronted_length text lent fits;
    }

    turned_first : (lents : List (List ℕ)) {calls' : List PageCall} → pages (stood headed r) (lent ∷ lents) ≡ calls'
        → c ∷ pages (stood true (drop n r)) lents ≡ calls'
    unfolding pages standing
    turned_first lents e = ap (λ (t : Turn). record { lent = lent; turn = t } ∷ pages t.listing lents) (sym page_stood) ∙ e

    stands_on : Stands (calls ++ c ∷ []) true (drop n r)
    unfolding heading_of
    stands_on = record { passed = h.passed ++ take n r; split = end_drop n h.passed r h.split; text = turns; fewer = fewer }

  -- so it holds after each of the pages that follow
  after_each : (calls : List PageCall) (headed : Bool) (r : List ℕ) → Stands calls headed r
      → (lents : List (List ℕ)) → ((lent : List ℕ) → Memᴰ lent lents → 64 ≤ length lent)
      → (before after : List PageCall) (d : PageCall) → pages (stood headed r) lents ≡ before ++ d ∷ after → AfterPage g (calls ++ before) d
  unfolding pages
  after_each calls headed r h [] rooms [] after d e = absurd (nil≢cons e)
  after_each calls headed r h [] rooms (b ∷ before) after d e = absurd (nil≢cons e)
  after_each calls headed r h (lent ∷ lents) rooms [] after d e =
      let room = rooms lent (Memᴰ.head refl) in
      let first = head-eq_of_cons-eq (turned_first calls headed r h lent room lents e) in
      subst₂ (AfterPage g) (sym (append-nil calls)) first (after_page calls headed r h lent room)
  after_each calls headed r h (lent ∷ lents) rooms (b ∷ before) after d e =
      let room = rooms lent (Memᴰ.head refl) in
      let next : PageCall = c calls headed r h lent room in
      let parts = turned_first calls headed r h lent room lents e in
      rw (← head-eq_of_cons-eq parts, ← append_assoc calls (next ∷ []) before)
      (after_each (calls ++ next ∷ []) true (drop (n calls headed r h lent room) r) (stands_on calls headed r h lent room) lents
      (λ l m. rooms l (Memᴰ.tail m)) before after d (tail-eq_of_cons-eq parts))

lent_each : (l : Listing) (lents : List (List ℕ)) → map (λ c. c.lent) (pages l lents) ≡ lents
unfolding pages
lent_each l [] = refl
lent_each l (lent ∷ lents) = ap (λ (t : List (List ℕ)). lent ∷ t) (lent_each (page_of l lent).listing lents)

pub listings : Listings
unfolding fresh_listing_of text_left heading_of listing_of standing joined
listings g small lents rooms =
    let L : List ℕ = genus_list g in
    record {
      fresh = record { headed = false; walk = standing g 1 33 L };
      fresh_answers = rw (le-leb g 32 small);
      whole = ap (λ (r : List ℕ). header_of g ++ joined line_of r) (rest_standing g 1 33 [] L (sym (window_whole g small)));
      lent_each = lent_each _ lents;
      each = after_each g small [] false L record { passed = []; split = refl; text = refl; fewer = omega arith } lents rooms;
    }
