-- An atlas that meets demand 3 is none of the useless ones that break it, by either fresh call; one that meets demand 2 does not refuse
-- every word; and this one meets both. Assumes nothing.
use Prim.Native.Nat.{ℕ, ◌≤◌, ◌<◌}
use mathlib.Core.Path.{◌≡◌, refl, sym, ◌∙◌, ap, ap₂, subst}
use mathlib.Core.Logic.{◌≢◌}
use mathlib.Core.Bool.{true}
use mathlib.Core.List.{List, [], ◌∷◌, ◌++◌, Memᴰ}
use native.Mathlib.Omega.{arith}
use native.Mathlib.Nat.{le_of_eq}
use lib.ListN.{length, take, length-take}
use lib.Seq.{take_all}
use Rattle.semigroups.specs.Lists.{joined}
use Rattle.semigroups.specs.GenusList.{genus_list}
use Rattle.semigroups.proofs.Words.{genus_zero, closed_zero}
use Rattle.semigroups.proofs.Closure.{closed_iff}
use Rattle.semigroups.proofs.Cases.{known_list}
use Rattle.answers.specs.Answers.{Answer, given}
use Rattle.words.specs.Looks.{report_of, look_of}
use Rattle.words.specs.declared.Report.{Report}
use Rattle.words.proofs.Looks.{look_given_report, accepted_iff}
use Rattle.windows.specs.Windows.{window_list}
use Rattle.windows.proofs.Windows.{window_whole}
use Rattle.windows.proofs.Cases.{known_windows}
use Rattle.walk.specs.declared.Walk.{Walk}
use Rattle.walk.specs.declared.Written.{Written}
use Rattle.demands.specs.Demand3.{Atlas, atlas, Call, call, batches, wrote, lengths, N, AfterCall, Demanded, Demand3}
use Rattle.demands.specs.Useful.{GenusAsked, WindowAsked, SameWhere, FinishesEarly, WritesNothing, IdlesAfterFirst, UsefulCall, fresh_of_genus, fresh_in_window, Useful, AcceptsExactly, RefusesEveryWord}
use Rattle.demands.proofs.Demand3.{demand3}

-- a list of length 1 to lend
abbrev place : List ℕ
place = 0 ∷ []

-- ---- what holds after a call

module _ (l : List ℕ) (before : List Call) (c : Call) (h : AfterCall l (length l) before c) where
  -- so far N words are written
  length_words : length (joined wrote (before ++ c ∷ [])) ≡ N l (before ++ c ∷ [])
  unfolding N
  length_words = omega (arith, ap length h.words, length-take (N l (before ++ c ∷ [])) l)

  -- where it says finished, the whole list is written
  finished_words : (r : Written) → c.ending.answer ≡ given r → r.finished ≡ true → joined wrote (before ++ c ∷ []) ≡ l
  finished_words r a f =
      let same : r ≡ h.report = let answered = h.answered in cc in
      h.words ∙ take_all _ l (le_of_eq (sym (h.finished.0 (sym (ap (λ (v : Written). v.finished) same) ∙ f))))

-- ---- a fresh call that meets the demand

module _ {Q : Type 0} (A : Atlas) (fresh : Q → Answer Walk) (list : Q → List ℕ)
    (demand : (q : Q) (lents : List (List ℕ)) → Demanded A (fresh q) (list q) (length (list q)) lents) where
  after_call : (q : Q) (w : Walk) → fresh q ≡ given w → (lents : List (List ℕ)) (before after : List Call) (c : Call)
      → batches A w lents ≡ before ++ c ∷ after → AfterCall (list q) (length (list q)) before c
  after_call q w e lents before after c s =
      let d = demand q lents in
      let same : d.fresh ≡ w = let answers = d.fresh_answers in cc in
      d.each before after c (ap (λ (v : Walk). batches A v lents) same ∙ s)

  -- the fresh walk, and the first and the second batch with a list of length 1
  module _ (q : Q) where
    abbrev begun : Walk
    begun = (demand q []).fresh

    abbrev answers : fresh q ≡ given begun
    answers = (demand q []).fresh_answers

    abbrev first : Call
    first = call A begun place

    abbrev second : Call
    second = call A first.ending.walk place

    after_first : AfterCall (list q) (length (list q)) [] first
    unfolding batches
    after_first = after_call q begun answers (place ∷ []) [] [] first refl

    after_second : AfterCall (list q) (length (list q)) (first ∷ []) second
    unfolding batches
    after_second = after_call q begun answers (place ∷ place ∷ []) (first ∷ []) [] second refl

  -- the first batch writes the first word of the list
  writes_first : (q : Q) {x : ℕ} {k : List ℕ} → list q ≡ x ∷ k → joined wrote (first q ∷ []) ≡ x ∷ []
  unfolding N lengths
  writes_first q e =
      let one : N (list q) (first q ∷ []) ≡ 1 = omega (arith, ap length e) in
      (after_first q).words ∙ ap₂ take one e

  -- so two questions whose lists begin with different words are not given the same
  not_same : (R : Q → Q → Type 0) (p q : Q) {x y : ℕ} {k l : List ℕ} → R p q → list p ≡ x ∷ k → list q ≡ y ∷ l → x ≢ y → SameWhere A fresh R → ⊥
  unfolding batches
  not_same R p q {x} {y} joins e f differ s =
      let words : x ∷ [] ≡ y ∷ [] =
      sym (writes_first p e) ∙ s p q joins (begun p) (begun q) (answers p) (answers q) (place ∷ []) ∙ writes_first q f in
      differ cc

  not_finishing_early : FinishesEarly A fresh list → ⊥
  not_finishing_early u =
      let h = after_call u.asked u.walk u.fresh_answers u.lents u.before u.after u.c u.in_turn in
      let all = finished_words (list u.asked) u.before u.c h u.report u.answered u.says_finished in
      u.unwritten (subst (Memᴰ u.word) (sym all) u.listed)

  not_writing_nothing : (q : Q) → 0 < length (list q) → WritesNothing A fresh list → ⊥
  unfolding batches N lengths
  not_writing_nothing q some s =
      omega (arith, length_words (list q) [] (first q) (after_first q), ap length (s q (begun q) (answers q) (place ∷ [])))

  not_idling : (q : Q) → 1 < length (list q) → IdlesAfterFirst A fresh list → ⊥
  unfolding batches joined N lengths
  not_idling q more s =
      let idle : joined wrote (second q ∷ []) ≡ [] = s q (begun q) (answers q) (place ∷ place ∷ []) (first q) (second q ∷ []) refl in
      omega (
        arith,
        length_words (list q) [] (first q) (after_first q),
        length_words (list q) (first q ∷ []) (second q) (after_second q),
        ap (λ (l : List ℕ). length (wrote (first q) ++ l)) idle,
      )

  -- q has a list of two words or more
  useful_call : (q : Q) → 1 < length (list q) → UsefulCall A fresh list
  useful_call q more = record {
    not_finishing_early = not_finishing_early;
    not_writing_nothing = not_writing_nothing q (omega arith);
    not_idling = not_idling q more;
  }

-- ---- an atlas that meets demand 3

-- the genus g
abbrev asks_genus : (g : ℕ) → g ≤ 32 → GenusAsked
asks_genus g h = record { genus = g; small = h }

-- the window from lo to hi of the genus g
abbrev asks_window : (g lo hi : ℕ) → g ≤ 32 → lo ≤ 255 → hi ≤ 255 → WindowAsked
asks_window g lo hi h a b = record { of = asks_genus g h; lowest = lo; highest = hi; low_byte = a; high_byte = b }

module _ (A : Atlas) (demand : Demand3 A) where
  genus_demand : (q : GenusAsked) (lents : List (List ℕ)) → Demanded A (fresh_of_genus A q) (genus_list q.genus) (length (genus_list q.genus)) lents
  genus_demand q lents =
      let d = demand.of_genus q.genus q.small lents in
      subst (λ (n : ℕ). Demanded A (fresh_of_genus A q) (genus_list q.genus) n lents) d.demanded.how_many d.demanded

  abbrev list_in : WindowAsked → List ℕ
  list_in q = window_list q.of.genus q.lowest q.highest

  window_demand : (q : WindowAsked) (lents : List (List ℕ)) → Demanded A (fresh_in_window A q) (list_in q) (length (list_in q)) lents
  window_demand q lents = (demand.in_window q.of.genus q.lowest q.highest q.of.small q.low_byte q.high_byte lents).demanded

  -- the whole genus by its window from 1 to 33
  abbrev whole : (g : ℕ) → g ≤ 32 → WindowAsked
  whole g h = asks_window g 1 33 h (omega arith) (omega arith)

  pub useful : Useful A
  useful =
      let zero : 0 ≤ 32 = omega arith in
      let two : 2 ≤ 32 = omega arith in
      let four : 4 ≤ 32 = omega arith in
      let genus-0 = known_list 0 (omega arith) in
      let genus-2 = known_list 2 (omega arith) in
      let whole-2 = window_whole 2 two ∙ genus-2 in
      record {
        of_genus = useful_call A (fresh_of_genus A) (λ q. genus_list q.genus) genus_demand (asks_genus 2 two) (omega (arith, ap length genus-2));
        in_window = useful_call A (fresh_in_window A) list_in window_demand (whole 2 two) (omega (arith, ap length whole-2));
        not_same_for_all =
            not_same A (fresh_of_genus A) (λ q. genus_list q.genus) genus_demand _ (asks_genus 0 zero) (asks_genus 2 two) tt genus-0 genus-2 (λ e. omega arith);
        not_ignoring_genus =
            not_same A (fresh_in_window A) list_in window_demand _ (whole 0 zero) (whole 2 two) (refl, refl) (window_whole 0 zero ∙ genus-0) whole-2 (λ e. omega arith);
        -- the windows from 1 to 33 and from 3 to 4 of genus 4 begin with 15 and 23
        not_ignoring_window =
            not_same A (fresh_in_window A) list_in window_demand _ (whole 4 four) (asks_window 4 3 4 four (omega arith) (omega arith)) refl known_windows.2 known_windows.1 (λ e. omega arith);
        not_inventing = λ (g, small, other).
            let d = demand.of_genus g small [] in
            other (d.count_answers ∙ ap given d.demanded.how_many);
      }

pub atlas_useful : Useful atlas
atlas_useful = useful atlas demand3

-- ---- demand 2

-- the look call of this atlas meets it
pub look_accepts : AcceptsExactly look_of
look_accepts w fits = (
  λ (r, e). (accepted_iff w fits).0 (e ∙ ap given (look_given_report w r e).1),
  λ h. (report_of w, (accepted_iff w fits).1 h),
)

-- and an atlas whose look call does so does not refuse every word: it accepts the word 0
pub not_refusing : (look : ℕ → Answer Report) → AcceptsExactly look → RefusesEveryWord look → ⊥
not_refusing look accepts refuses =
    let (r, e) = (accepts 0 (omega arith)).1 ((closed_iff 0 (omega arith)).0 closed_zero, omega (arith, genus_zero)) in
    let (n, f) = refuses 0 (omega arith) in
    let z : ◌≡◌ {A = ℕ} 0 1 = cc in
    omega arith
