-- Which words are accepted, what a look at a word tells a caller, and what a call that lists numbers of a word does. Assumes nothing.
use Prim.Native.Nat.{ℕ, ◌^◌, ◌≤◌, ◌<◌}
use mathlib.Core.Path.{◌≡◌, sym, ◌∙◌, ap, subst}
use mathlib.Core.Logic.{◌↔◌}
use mathlib.Core.List.{List}
use lib.Dec.{leb}
use lib.ListN.{length}
use borrow.Author.Tests.{leb-true, le-leb, lt-leb}
use Rattle.semigroups.specs.Lists.{fronted}
use Rattle.semigroups.specs.Sets.{Set, ClosedUnderAddition}
use Rattle.semigroups.specs.Words.{set_of, genus, closed}
use Rattle.semigroups.proofs.Sets.{genus_unique, multiplicity_unique}
use Rattle.semigroups.proofs.Words.{word_genus}
use Rattle.semigroups.proofs.Elements.{set_multiplicity}
use Rattle.semigroups.proofs.Reported.{reported_unique, largest_unique, reported_conductor_of, signed_largest_gap_of}
use Rattle.semigroups.proofs.Closure.{closed_iff}
use Rattle.answers.specs.Answers.{Answer, refused, given, ask, ListAnswer, unchanged, filled, into_lent, giving}
use Rattle.answers.proofs.Answers.{two_refused, two_given, tests_given, tests_refused, lent_short, lent_enough}
use Rattle.words.specs.Looks.{Accepted, ask_word, report_of, Tells, look_of, listed_into}
use Rattle.words.specs.declared.Report.{Report}

-- ---- accepted words

-- an accepted word is not refused
pub asked : {A : Type 0} (refuse : ℕ → A) (w : ℕ) (answer : A) → Accepted w → ask_word refuse w answer ≡ answer
unfolding ask_word
asked refuse w answer h = simp (le-leb (genus w) 32 h.few, h.closed)

-- an accepted word and a genus: questions 1, 2 and 3
module _ {A : Type 0} (w g : ℕ) (answer : Answer A) (h : Accepted w) where
  -- up to genus 32 there is an answer
  pub genus_asked_answers : g ≤ 32 → ask_word refused w (ask (leb g 32) (refused 3) answer) ≡ answer
  genus_asked_answers l = asked refused w _ h ∙ rw (le-leb g 32 l)

  -- above it a refusal
  pub genus_refused : 32 < g → ask_word refused w (ask (leb g 32) (refused 3) answer) ≡ refused 3
  genus_refused l = asked refused w _ h ∙ rw (lt-leb g 32 l)

-- what the answer of one call on a word, which gives this value, tells another
module _ {B : Type 0} (w : ℕ) (value : B) where
  -- a word that is refused by one call is refused so by each call
  pub word_refused : {A : Type 0} (refuse : ℕ → A) (answer : A) (n : ℕ) → ask_word refused w (given value) ≡ refused n → ask_word refuse w answer ≡ refuse n
  unfolding ask_word
  word_refused refuse answer n e = two_refused 1 2 value refuse answer n (leb (genus w) 32) (closed w) e

  -- a value is given just of accepted words, and it is theirs
  pub word_given : (r : B) → ask_word refused w (given value) ≡ given r → Accepted w × (r ≡ value)
  unfolding ask_word
  word_given r e =
      let (few, sums, same) = two_given 1 2 value r (leb (genus w) 32) (closed w) e in
      (record { closed = sums; few = leb-true (genus w) 32 few }, sym same)

-- the same of a look
pub asked_refused : {A : Type 0} (refuse : ℕ → A) (w : ℕ) (answer : A) (n : ℕ) → look_of w ≡ refused n → ask_word refuse w answer ≡ refuse n
unfolding look_of
asked_refused refuse w answer n e = word_refused w (report_of w) refuse answer n e

pub look_given_report : (w : ℕ) (r : Report) → look_of w ≡ given r → Accepted w × (r ≡ report_of w)
unfolding look_of
look_given_report w r e = word_given w (report_of w) r e

-- what is told of a word of 64 bits are the numbers of its set
pub report_tells : (w : ℕ) → w < 2 ^ 64 → Tells (report_of w) (set_of w)
unfolding report_of
report_tells w fits = record {
  genus = word_genus w fits;
  multiplicity = set_multiplicity w fits;
  conductor = reported_conductor_of w fits;
  largest_gap_is = signed_largest_gap_of w fits;
}

-- so that a look tells them
pub look_tells : (w : ℕ) → w < 2 ^ 64 → (r : Report) → look_of w ≡ given r → Tells r (set_of w)
look_tells w fits r e = subst (λ (q : Report). Tells q (set_of w)) (sym (look_given_report w r e).1) (report_tells w fits)

-- and no other report does
pub tells_unique : (S : Set) (q r : Report) → Tells q S → Tells r S → q ≡ r
tells_unique S q r t u = λ i. record {
  genus = genus_unique S q.genus r.genus t.genus u.genus i;
  multiplicity = multiplicity_unique S q.multiplicity r.multiplicity t.multiplicity u.multiplicity i;
  conductor = reported_unique S q.conductor r.conductor t.conductor u.conductor i;
  largest_gap = largest_unique S q.largest_gap r.largest_gap t.largest_gap_is u.largest_gap_is i;
}

-- demand 2: a word of 64 bits is accepted just where its set is closed under addition and it has at most 32 gaps
pub accepted_iff : (w : ℕ) → w < 2 ^ 64 → (look_of w ≡ given (report_of w)) ↔ (ClosedUnderAddition (set_of w) × (genus w ≤ 32))
unfolding look_of
accepted_iff w fits = (
  λ e. let h = (look_given_report w (report_of w) e).0 in ((closed_iff w fits).0 h.closed, h.few),
  λ (s, few). asked refused w (given (report_of w)) record { closed = (closed_iff w fits).1 s; few = few },
)

-- ---- numbers of a word into a lent list

module _ (w : ℕ) (l lent : List ℕ) where
  -- a number and a list are told just of accepted words: how many numbers there are, and the lent list with all of them in front
  pub list_given : (after : List ℕ) (n : ℕ) → listed_into w l lent ≡ giving n after
      → Accepted w × (n ≡ length l) × (after ≡ fronted l lent)
  unfolding listed_into ask_word
  list_given after n e =
      let (few, sums, count, list) = tests_given 1 2 6 l lent n (leb (genus w) 32) (closed w) (leb (length l) (length lent)) (ap (λ (r : ListAnswer). r.answer) e) in
      (record { closed = sums; few = leb-true (genus w) 32 few }, count, sym (ap (λ (r : ListAnswer). r.list) e) ∙ list)

  -- a refusal writes nothing
  pub refusal_unchanged : (n : ℕ) → (listed_into w l lent).answer ≡ refused n → (listed_into w l lent).list ≡ lent
  unfolding listed_into ask_word
  refusal_unchanged n e = (tests_refused 1 2 6 l lent n (leb (genus w) 32) (closed w) (leb (length l) (length lent)) e).0

  module _ (h : Accepted w) where
    list_asked : listed_into w l lent ≡ into_lent l lent
    unfolding listed_into
    list_asked = asked (unchanged lent) w _ h

    -- a list that does not hold the numbers of an accepted word is refused
    pub no_room : length lent < length l → listed_into w l lent ≡ unchanged lent 6
    no_room short = list_asked ∙ lent_short l lent short

    -- in one that does they are listed
    pub room : length l ≤ length lent → listed_into w l lent ≡ filled l lent
    room long = list_asked ∙ lent_enough l lent long
