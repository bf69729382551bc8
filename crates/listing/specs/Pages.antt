-- A listing under way and its pages: what each call answers, where the listing stands after it and what the lent list then holds, for all
-- arguments; and what a row of pages owes. Assumes nothing: these are definitions.
use Rattle.std.specs.Prelude.{ℕ, ◌-◌, ◌/◌, ◌≤◌, min, ◌≡◌, ◌↔◌, Bool, true, false, cond, leb, length, take, drop, Result}
use mathlib.Core.List.{List, [], ◌∷◌, ◌++◌, map, Memᴰ}
use Rattle.semigroups.specs.Lists.{none, joined, fronted}
use Rattle.semigroups.specs.GenusList.{genus_list}
use Rattle.answers.specs.Answers.{Answer, refused, given, answered, ask}
use Rattle.answers.specs.declared.Refusal.{Refusal}
use Rattle.walk.specs.Walks.{rest, standing, in_order}
use Rattle.listing.specs.Text.{header_of, line_of, listing_of}
use Rattle.listing.specs.declared.Listing.{Listing}
use Rattle.listing.specs.declared.Page.{Page}

-- ---- a listing under way

-- a fresh listing of genus g, of which nothing was written: question 3
unfoldable pub fresh_listing_of : ℕ → Answer Listing
fresh_listing_of g = ask (leb g 32) (refused 3) (given record { headed = false; walk = standing g 1 33 (genus_list g) })

-- the header, unless it was written
unfoldable pub heading_of : Bool → ℕ → List ℕ
heading_of headed g = cond headed [] (header_of g)

-- the text that a listing has still to give
unfoldable pub text_left : Listing → List ℕ
text_left l = heading_of l.headed l.walk.genus ++ joined line_of (rest l.walk)

-- ---- a page

-- how a page ends: its answer, the listing and the lent list
pub record Turn : Type 0 where
  pub answer : Answer Page
  pub listing : Listing
  pub list : List ℕ

-- the ending of a page that returned r and left this listing and this list
abbrev pub turned : Result Page Refusal → Listing → List ℕ → Turn
turned r l list = record { answer = answered r; listing = l; list = list }

-- refused: the listing and the list are as they were
abbrev pub unturned : ℕ → Listing → List ℕ → Turn
unturned number l lent = record { answer = refused number; listing = l; list = lent }

-- how many lines of at most 27 bytes surely fit behind a header of at most 36 that is still to write; not more than 4,096 in a page
unfoldable pub lines_within : Bool → ℕ → ℕ
lines_within headed places = min 4096 ((places - cond headed 0 36) / 27)

-- of r, the words whose lines are still to write, the lines that fit, behind the header unless it was written
abbrev pub page_written : Listing → List ℕ → List ℕ → Turn
page_written l r lent =
    let g : ℕ = l.walk.genus in
    let n : ℕ = min (lines_within l.headed (length lent)) (length r) in
    let text : List ℕ = heading_of l.headed g ++ joined line_of (take n r) in
    record {
      answer = given record { bytes = length text; finished = none (drop n r) };
      listing = record { headed = true; walk = standing g l.walk.window.lowest l.walk.window.highest (drop n r) };
      list = fronted text lent;
    }

-- questions 3 and 4 for the walk, then 6: has the lent list at least 64 places
unfoldable pub page_of : Listing → List ℕ → Turn
page_of l lent =
    ask (leb l.walk.genus 32) (unturned 3 l lent)
    (ask (in_order l.walk) (unturned 4 l lent)
    (ask (leb 64 (length lent)) (unturned 6 l lent) (page_written l (rest l.walk) lent)))

-- ---- a row of pages

-- a page call: the list as it was lent, and how the call ended
pub record PageCall : Type 0 where
  pub lent : List ℕ
  pub turn : Turn

abbrev pub page_call : Listing → List ℕ → PageCall
page_call l lent = record { lent = lent; turn = page_of l lent }

-- a page for each lent list, each of the listing as the call before left it
unfoldable pub pages : Listing → List (List ℕ) → List PageCall
pages l [] = []
pages l (lent ∷ lents) = page_call l lent ∷ pages (page_of l lent).listing lents

-- how many bytes an answer reports
unfoldable pub reported_bytes : Answer Page → ℕ
reported_bytes (refused n) = 0
reported_bytes (given p) = p.bytes

-- the bytes that a page wrote: those at the front of its lent list when it ends, as many as it reports
unfoldable pub wrote_bytes : PageCall → List ℕ
wrote_bytes c = take (reported_bytes c.turn.answer) c.turn.list

-- what holds after the page c, which came after the pages `before`, of a listing of genus g
pub record AfterPage (g : ℕ) (before : List PageCall) (c : PageCall) : Type 0 where
  -- no page is refused
  pub page : Page
  pub answered : c.turn.answer ≡ given page
  -- the bytes written so far, joined in call order, are a beginning of the listing
  pub left : List ℕ
  pub beginning : joined wrote_bytes (before ++ c ∷ []) ++ left ≡ listing_of g
  -- it says finished exactly where they are the whole of it
  pub finished : (page.finished ≡ true) ↔ (joined wrote_bytes (before ++ c ∷ []) ≡ listing_of g)
  -- which is so after as many pages as there are semigroups of the genus
  pub enough : length (genus_list g) ≤ length (before ++ c ∷ []) → page.finished ≡ true
  -- and it leaves the rest of its list untouched
  pub untouched : drop page.bytes c.turn.list ≡ drop page.bytes c.lent
  pub same_length : length c.turn.list ≡ length c.lent

-- the pages of a genus up to 32 in any lists of at least 64 places
pub record Listed (g : ℕ) (lents : List (List ℕ)) : Type 0 where
  pub fresh : Listing
  pub fresh_answers : fresh_listing_of g ≡ given fresh
  -- all of the listing is still to give
  pub whole : text_left fresh ≡ listing_of g
  -- after each of the pages, one for each lent list in their order
  pub lent_each : map (λ c. c.lent) (pages fresh lents) ≡ lents
  pub each : (before after : List PageCall) (c : PageCall) → pages fresh lents ≡ before ++ c ∷ after → AfterPage g before c

abbrev pub Listings : Type 0
Listings = (g : ℕ) → g ≤ 32 → (lents : List (List ℕ)) → ((lent : List ℕ) → Memᴰ lent lents → 64 ≤ length lent) → Listed g lents
