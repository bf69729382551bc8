-- What a page answers, by what a batch of the walk answers, and where the listing stands after it. Assumes nothing.
use Prim.Native.Nat.{ℕ, ◌+◌, ◌*◌, ◌≤◌, ◌<◌, min}
use mathlib.Core.Path.{◌≡◌, refl, sym, ◌∙◌, ap, ap₂, subst}
use mathlib.Core.Bool.{Bool, true, false, cond}
use mathlib.Core.List.{List, [], ◌∷◌, ◌++◌, append_assoc}
use native.Mathlib.Omega.{arith}
use native.Mathlib.Decide.{dec_le}
use Rattle.std.specs.Prelude.{Ok}
use lib.Dec.{leb}
use lib.ListN.{length, take, drop, length-append, length-drop, take-append-drop}
use lib.Seq.{take_at, length-take-le}
use borrow.Author.Tests.{le-leb, lt-leb, leb-true}
use Rattle.semigroups.specs.Lists.{none, joined, fronted}
use Rattle.semigroups.proofs.Booleans.{not_both, by_value}
use Rattle.semigroups.proofs.Lists.{end_drop, joined_append}
use Rattle.answers.specs.Answers.{Answer, refused, given, ask}
use Rattle.walk.specs.declared.Walk.{Walk}
use Rattle.walk.specs.declared.Written.{Written}
use Rattle.walk.specs.Walks.{rest, standing, in_order, fresh_of, unmoved, moved, ended, Ending, batch_of}
use Rattle.walk.proofs.Walks.{rest_end, rest_standing, batch_moves, fresh_answers, fresh_in_refused}
use Rattle.listing.specs.declared.Listing.{Listing}
use Rattle.listing.specs.declared.Page.{Page}
use Rattle.listing.specs.Text.{line_of}
use Rattle.listing.specs.Pages.{fresh_listing_of, heading_of, Turn, turned, unturned, lines_within, page_written, page_of}
use Rattle.listing.proofs.Lines.{header_of_le}

-- ---- by what the fresh walk answers

-- the listing of a fresh walk, of which nothing was written
abbrev pub unheaded : Answer Walk → Answer Listing
unheaded (refused n) = refused n
unheaded (given w) = given record { headed = false; walk = w }

-- is the fresh listing
pub fresh_listing : (g : ℕ) → fresh_listing_of g ≡ unheaded (fresh_of g)
unfolding fresh_of fresh_listing_of
fresh_listing g = elim (dec_le g 32) [
  | yes h ↦ rw (le-leb g 32 h) (ap unheaded (sym (fresh_answers g h)))
  | no h ↦ let large : 32 < g = omega arith in rw (lt-leb g 32 large) (ap unheaded (sym (fresh_in_refused g 1 33 large)))
]

-- ---- by what the batch answers

module _ (l : Listing) (words lent : List ℕ) where
  -- where the batch is refused, the page is
  pub page_refused : (n : ℕ) → (batch_of l.walk words).answer ≡ refused n → page_of l lent ≡ unturned n l lent
  unfolding batch_of page_of
  page_refused n e = by_questions (leb l.walk.genus 32) (in_order l.walk) e
    where
      unturned_as : (m : ℕ) → ◌≡◌ {A = Answer Written} (refused m) (refused n) → unturned m l lent ≡ unturned n l lent
      unturned_as m e = let same : m ≡ n = cc in ap (λ (i : ℕ). unturned i l lent) same

      by_questions : (p q : Bool)
          → (ask p (unmoved 3 l.walk words) (ask q (unmoved 4 l.walk words) (moved l.walk (rest l.walk) words))).answer ≡ refused n
          → ask p (unturned 3 l lent) (ask q (unturned 4 l lent) (ask (leb 64 (length lent)) (unturned 6 l lent) (page_written l (rest l.walk) lent))) ≡ unturned n l lent
      by_questions false q e = unturned_as 3 e
      by_questions true false e = unturned_as 4 e
      by_questions true true e = absurd (let z : ◌≡◌ {A = ℕ} 0 1 = cc in omega arith)

-- where it is given, the walk is of genus 32 at most and in order
pub batch_given : (w : Walk) (words : List ℕ) (r : Written) → (batch_of w words).answer ≡ given r → (w.genus ≤ 32) × (in_order w ≡ true)
unfolding batch_of
batch_given w words r e = by_questions (leb w.genus 32) refl (in_order w) refl e
  where
    by_questions : (p : Bool) → leb w.genus 32 ≡ p → (q : Bool) → in_order w ≡ q
        → (ask p (unmoved 3 w words) (ask q (unmoved 4 w words) (moved w (rest w) words))).answer ≡ given r
        → (w.genus ≤ 32) × (in_order w ≡ true)
    by_questions true s true t e = (leb-true w.genus 32 s, t)
    by_questions true s false t e = absurd (let z : ◌≡◌ {A = ℕ} 0 1 = cc in omega arith)
    by_questions false s q t e = absurd (let z : ◌≡◌ {A = ℕ} 0 1 = cc in omega arith)

module _ (l : Listing) (lent : List ℕ) (small : l.walk.genus ≤ 32) (order : in_order l.walk ≡ true) where
  -- then a list with fewer than 64 places is refused
  pub page_short : length lent < 64 → page_of l lent ≡ unturned 6 l lent
  unfolding page_of
  page_short h = rw (le-leb l.walk.genus 32 small, order, lt-leb 64 (length lent) h)

  -- and in one with 64 the page is written
  pub page_written_is : 64 ≤ length lent → page_of l lent ≡ page_written l (rest l.walk) lent
  unfolding page_of
  page_written_is h = rw (le-leb l.walk.genus 32 small, order, le-leb 64 (length lent) h)

-- where a page is given, it is written
pub page_given : (l : Listing) (lent : List ℕ) (p : Page) → (page_of l lent).answer ≡ given p → page_of l lent ≡ page_written l (rest l.walk) lent
unfolding page_of
page_given l lent p e = by_questions (leb l.walk.genus 32) (in_order l.walk) (leb 64 (length lent)) e
  where
    made : Bool → Bool → Bool → Turn
    made a b c = ask a (unturned 3 l lent) (ask b (unturned 4 l lent) (ask c (unturned 6 l lent) (page_written l (rest l.walk) lent)))

    by_questions : (a b c : Bool) → (made a b c).answer ≡ given p → made a b c ≡ page_written l (rest l.walk) lent
    by_questions true true true e = refl
    by_questions true true false e = absurd (let z : ◌≡◌ {A = ℕ} 0 1 = cc in omega arith)
    by_questions true false c e = absurd (let z : ◌≡◌ {A = ℕ} 0 1 = cc in omega arith)
    by_questions false b c e = absurd (let z : ◌≡◌ {A = ℕ} 0 1 = cc in omega arith)

-- ---- the lines of a page

-- there are at most 4,096
pub lines_most : (headed : Bool) (places : ℕ) → cond (leb 64 places) (lines_within headed places) 0 ≤ 4096
unfolding lines_within
lines_most headed places = by_value (leb 64 places) (λ e. rw e (omega arith)) (λ e. rw e (omega arith))

-- there is a line on a page
pub lines_some : (headed : Bool) (places : ℕ) → 64 ≤ places → 0 < lines_within headed places
unfolding lines_within
lines_some true places room = omega arith
lines_some false places room = omega arith

-- the header and the lines have their places
pub page_fits : (headed : Bool) (places : ℕ) → 64 ≤ places → (g : ℕ) → g ≤ 32 → length (heading_of headed g) + lines_within headed places * 27 ≤ places
unfolding heading_of lines_within
page_fits true places room g small = omega arith
page_fits false places room g small = omega (arith, header_of_le g small)

-- what is written and what is left are the text that there was
pub text_turns : (heading r : List ℕ) (n : ℕ) → (heading ++ joined line_of (take n r)) ++ joined line_of (drop n r) ≡ heading ++ joined line_of r
text_turns heading r n =
    append_assoc heading (joined line_of (take n r)) (joined line_of (drop n r))
    ∙ ap (λ (t : List ℕ). heading ++ t) (sym (joined_append line_of (take n r) (drop n r)) ∙ ap (joined line_of) (take-append-drop n r))

-- ---- a page by a batch of the walk

-- of the words that the batch left in its list, those that it reports are the next whose lines fit on the page
pub record Batched (l : Listing) (lent words : List ℕ) (r : Written) (after : Walk) : Type 0 where
  pub small : l.walk.genus ≤ 32
  pub order : in_order l.walk ≡ true
  pub count : r.count ≡ min (lines_within l.headed (length lent)) (length (rest l.walk))
  pub finished : r.finished ≡ none (drop r.count (rest l.walk))
  pub walk : after ≡ standing l.walk.genus l.walk.window.lowest l.walk.window.highest (drop r.count (rest l.walk))
  pub within : r.count ≤ length words
  pub next : take r.count words ≡ take r.count (rest l.walk)

-- the batch was given the first k of the words, as many as lines fit
pub batched : (l : Listing) (lent words : List ℕ) (k : ℕ) → length words ≡ 4096 → 64 ≤ length lent
    → k ≡ cond (leb 64 (length lent)) (lines_within l.headed (length lent)) 0
    → (after : Walk) (list : List ℕ) (r : Written) → ended (Ok r) after list ≡ batch_of l.walk (take k words)
    → Batched l lent (list ++ drop k words) r after
unfolding lines_within
batched l lent words k full room most after list r e =
    let (small, order) = batch_given l.walk (take k words) r (ap (λ (d : Ending). d.answer) (sym e)) in
    let R : List ℕ = rest l.walk in
    let fit : k ≡ lines_within l.headed (length lent) = most ∙ rw (le-leb 64 (length lent) room) in
    let places : length (take k words) ≡ k = length-take-le k words (omega arith) in
    let ends : ended (Ok r) after list ≡ moved l.walk R (take k words) = e ∙ batch_moves l.walk (take k words) small order in
    let n : ℕ = min (length (take k words)) (length R) in
    let told : r ≡ record { count = n; finished = none (drop n R) } = let same = ap (λ (d : Ending). d.answer) ends in cc in
    let counted : n ≡ r.count = ap (λ (t : Written). t.count) (sym told) in
    let front : length (take n R) ≡ n = length-take-le n R (omega arith) in
    let listed : list ++ drop k words ≡ take n R ++ (drop n (take k words) ++ drop k words) =
    ap (λ (d : Ending). d.list ++ drop k words) ends ∙ append_assoc (take n R) (drop n (take k words)) (drop k words) in
    let all : n ≤ length (list ++ drop k words) =
    omega (arith, ap length listed, length-append (take n R) (drop n (take k words) ++ drop k words)) in
    let nexts : take n (list ++ drop k words) ≡ take n R = ap (take n) listed ∙ take_at (take n R) (drop n (take k words) ++ drop k words) n front in
    record {
      small = small;
      order = order;
      count = sym counted ∙ ap (λ (m : ℕ). min m (length R)) (places ∙ fit);
      finished = ap (λ (t : Written). t.finished) told ∙ ap (λ (m : ℕ). none (drop m R)) counted;
      walk = ap (λ (d : Ending). d.walk) ends ∙ ap (λ (m : ℕ). standing l.walk.genus l.walk.window.lowest l.walk.window.highest (drop m R)) counted;
      within = subst (λ (m : ℕ). m ≤ length (list ++ drop k words)) counted all;
      next = subst (λ (m : ℕ). take m (list ++ drop k words) ≡ take m R) counted nexts;
    }

module _ (l : Listing) (lent words : List ℕ) (room : 64 ≤ length lent) (r : Written) (after : Walk) (b : Batched l lent words r after) where
  -- the header and the lines of these words
  abbrev pub page_text : List ℕ
  page_text = heading_of l.headed l.walk.genus ++ joined line_of (take r.count words)

  -- they have their places
  pub batched_fits : length (heading_of l.headed l.walk.genus) + length (take r.count words) * 27 ≤ length lent
  batched_fits =
      omega (arith, b.count, length-take-le r.count words b.within, page_fits l.headed (length lent) room l.walk.genus b.small)

  -- and make the page
  pub page_by : {list : List ℕ} {end : ℕ} → (end ≡ length page_text) × (list ≡ fronted page_text lent)
      → turned (Ok record { bytes = end; finished = r.finished }) record { headed = true; walk = after } list ≡ page_of l lent
  page_by (ends, lists) =
      let g : ℕ = l.walk.genus in
      let R : List ℕ = rest l.walk in
      let made : ℕ → List ℕ → Turn = λ n text. record {
        answer = given record { bytes = length text; finished = none (drop n R) };
        listing = record { headed = true; walk = standing g l.walk.window.lowest l.walk.window.highest (drop n R) };
        list = fronted text lent;
      } in
      let texts : page_text ≡ heading_of l.headed g ++ joined line_of (take (min (lines_within l.headed (length lent)) (length R)) R) =
      ap (λ (t : List ℕ). heading_of l.headed g ++ joined line_of t) (b.next ∙ ap (λ (n : ℕ). take n R) b.count) in
      (λ i. record { answer = given record { bytes = ends i; finished = b.finished i }; listing = record { headed = true; walk = b.walk i }; list = lists i })
      ∙ ap₂ made b.count texts ∙ sym (page_written_is l lent b.small b.order room)

-- ---- what a caller learns of a page that is given

none_left : (l : List ℕ) → none l ≡ false → 0 < length l
unfolding none
none_left [] e = absurd (not_both refl e)
none_left (x ∷ l) e = omega arith

module _ (l : Listing) (lent : List ℕ) (p : Page) {t : Turn} (e : t ≡ page_of l lent) (g : t.answer ≡ given p) where
  abbrev R : List ℕ
  R = rest l.walk

  abbrev n : ℕ
  n = min (lines_within l.headed (length lent)) (length R)

  abbrev text : List ℕ
  text = heading_of l.headed l.walk.genus ++ joined line_of (take n R)

  ends : t ≡ page_written l R lent
  ends = e ∙ page_given l lent p (ap (λ (u : Turn). u.answer) (sym e) ∙ g)

  tells : p ≡ record { bytes = length text; finished = none (drop n R) }
  tells = let answers = ap (λ (u : Turn). u.answer) ends in cc

  -- in a list that keeps its length, it has its places
  pub page_bytes : length t.list ≡ length lent → p.bytes ≤ length lent
  unfolding fronted
  page_bytes kept =
      omega (
        arith,
        ap (λ (q : Page). q.bytes) tells,
        ap (λ (u : Turn). length u.list) ends,
        length-append text (drop (length text) lent),
        length-drop (length text) lent,
      )

  -- and where it is not the last, fewer semigroups are left
  pub page_falls : 64 ≤ length lent → p.finished ≡ false → length (rest t.listing.walk) < length R
  page_falls room more =
      let (k, split) = rest_end l.walk in
      let left : rest t.listing.walk ≡ drop n R =
      ap (λ (u : Turn). rest u.listing.walk) ends ∙ rest_standing l.walk.genus l.walk.window.lowest l.walk.window.highest (k ++ take n R) (drop n R) (end_drop n k R split) in
      let some : 0 < length (drop n R) = none_left (drop n R) (ap (λ (q : Page). q.finished) (sym tells) ∙ more) in
      omega (arith, ap length left, length-drop n R, lines_some l.headed (length lent) room)
