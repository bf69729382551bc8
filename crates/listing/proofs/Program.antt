-- What the listing program writes for an input is the line of a refusal, the header lines of genus 0 to 20, or the pages of a listing
-- joined. Assumes nothing.
use Prim.Native.Nat.{ℕ, ◌≤◌, ◌<◌}
use mathlib.Core.Path.{◌≡◌, refl, sym, ◌∙◌, ap}
use mathlib.Core.Logic.{◌⊎◌, inl, inr}
use mathlib.Core.Bool.{Bool, true, false}
use mathlib.Core.List.Memᴰ
use mathlib.Core.List.{List, [], ◌∷◌, ◌++◌, Memᴰ}
use native.Mathlib.Omega.{arith}
use lib.Dec.{leb}
use lib.ListN.{length, length-map}
use borrow.Author.Tests.{le-leb, leb-true}
use Rattle.semigroups.specs.Lists.{none, joined, fronted}
use Rattle.semigroups.specs.GenusList.{genus_list}
use Rattle.semigroups.proofs.First.{genus_list_first}
use Rattle.answers.specs.Answers.{refused, given, ask}
use Rattle.answers.proofs.Answers.{lent_enough}
use Rattle.requests.specs.Digits.{value}
use Rattle.requests.specs.Request.{all_but_last, well_formed, request_of}
use Rattle.requests.specs.declared.Request.TheVariants as R
use Rattle.listing.specs.declared.Listing.{Listing}
use Rattle.listing.specs.declared.Page.{Page}
use Rattle.listing.specs.Text.{listing_of, header_lines, headers_of, refusal_line, refusal_line_of, answer_text, text_of}
use Rattle.listing.specs.Pages.{PageCall, pages, wrote_bytes, Listed}
use Rattle.listing.specs.Program.{RefusalText, HeadersText, PagesText, ProgramTexts}
use Rattle.listing.proofs.Lines.{refusal_line_le}
use Rattle.listing.proofs.HeaderLines.{header_lines_le}
use Rattle.listing.proofs.Listings.{listings}

-- a refused input: its text is the line of the refusal, which has its places
refusal_text : (input : List ℕ) (n : ℕ) → n < 100 → request_of input ≡ refused n → RefusalText input
unfolding answer_text text_of refusal_line_of
refusal_text input n h e =
    let text : text_of input ≡ refusal_line n = ap answer_text e in
    record {
      number = n;
      asked = e;
      text = text;
      fits = omega (arith, ap length text, refusal_line_le n h);
      line = λ lent room. rw (le-leb 11 (length lent) room) (ap (λ (t : List ℕ). (given (length t), fronted t lent)) (sym text));
    }

-- no bytes: the text is the header lines, which have their places
headers_text : HeadersText []
unfolding none headers_of request_of answer_text text_of
headers_text = record {
  empty = refl;
  asked = refl;
  text = refl;
  fits = header_lines_le;
  written = λ lent room. lent_enough header_lines lent (omega (arith, header_lines_le));
}

-- a list that is not empty, by its last member
by_last : {A C : Type 0} (l : List A) → 0 < length l → ((k : List A) (x : A) → l ≡ k ++ x ∷ [] → C) → C
by_last [] h f = absurd (omega arith)
by_last (x ∷ []) h f = f [] x refl
by_last (y ∷ z ∷ l) h f = by_last (z ∷ l) (omega arith) (λ k x e. f (y ∷ k) x (ap (λ (t : List _). y ∷ t) e))

-- an input that asks for a genus
module _ (input : List ℕ) (g : ℕ) (small : g ≤ 32) (asked : request_of input ≡ given (R.Listing g)) where
  -- the text is the listing of the genus
  text : text_of input ≡ listing_of g
  unfolding answer_text text_of
  text = ap answer_text asked

  -- the fresh listing, before any list is lent
  abbrev unlent : Listed g []
  unlent = listings g small [] (λ lent m. absurd (Memᴰ.not-nil m))

  module _ (lents : List (List ℕ)) (rooms : (lent : List ℕ) → Memᴰ lent lents → 64 ≤ length lent) where
    -- the pages in these lists
    abbrev listed : Listed g lents
    listed = listings g small lents rooms

    -- there is one fresh listing of the genus, so they are its pages
    same_pages : pages listed.fresh lents ≡ pages unlent.fresh lents
    same_pages =
        let answers = sym listed.fresh_answers ∙ unlent.fresh_answers in
        let same : listed.fresh ≡ unlent.fresh = cc in
        ap (λ (l : Listing). pages l lents) same

    -- the pages up to one that says finished are the text
    up_to_last : (before after : List PageCall) (c : PageCall) → pages unlent.fresh lents ≡ before ++ c ∷ after
        → (page : Page) → c.turn.answer ≡ given page → page.finished ≡ true → joined wrote_bytes (before ++ c ∷ []) ≡ text_of input
    up_to_last before after c e page told last =
        let h = listed.each before after c (same_pages ∙ e) in
        let answers = h.answered in
        let same : h.page ≡ page = cc in
        h.finished.0 (ap (λ (p : Page). p.finished) same ∙ last) ∙ sym text

    -- and so are as many as there are semigroups of the genus, the last of which says finished
    all_pages : length (genus_list g) ≤ length lents → joined wrote_bytes (pages unlent.fresh lents) ≡ text_of input
    all_pages enough =
        let calls : List PageCall = pages listed.fresh lents in
        let number : length calls ≡ length lents = sym (length-map calls (λ c. c.lent)) ∙ ap length listed.lent_each in
        by_last calls (omega (arith, ap length (genus_list_first g (omega arith)).1))
        (λ before c e.
        let h = listed.each before [] c e in
        ap (joined wrote_bytes) (sym same_pages ∙ e) ∙ h.finished.0 (h.enough (omega (arith, ap length e))) ∙ sym text)

  -- so the text is given page by page
  pages_text : PagesText input
  pages_text = record {
    genus = g;
    small = small;
    asked = asked;
    text = text;
    fresh = unlent.fresh;
    fresh_answers = unlent.fresh_answers;
    up_to_last = up_to_last;
    all_pages = all_pages;
  }

-- every input is empty, is refused or asks for a genus up to 32, by the questions that are put to it
pub program_texts : ProgramTexts
unfolding none request_of
program_texts [] = inr (inl headers_text)
program_texts (b ∷ l) = by_questions (well_formed input) (leb genus 32) refl refl
  where
    input : List ℕ
    input = b ∷ l

    genus : ℕ
    genus = value (all_but_last input)

    by_questions : (formed small : Bool) → request_of input ≡ ask formed (refused 10) (ask small (refused 3) (given (R.Listing genus))) → leb genus 32 ≡ small
        → RefusalText input ⊎ (HeadersText input ⊎ PagesText input)
    by_questions false small e s = inl (refusal_text input 10 (omega arith) e)
    by_questions true false e s = inl (refusal_text input 3 (omega arith) e)
    by_questions true true e s = inr (inr (pages_text input genus (leb-true genus 32 s) e))
