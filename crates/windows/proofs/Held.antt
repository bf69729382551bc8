-- When a window holds a word: by what a look at the word tells, and as a word of the window list. Assumes nothing.
use Prim.Native.Nat.{ℕ, ◌^◌, ◌<◌}
use mathlib.Core.Path.{◌≡◌, refl, sym, ◌∙◌, ap}
use mathlib.Core.Bool.{Bool, true, false, cond, ◌&&◌, and-eq-true_iff}
use mathlib.Core.List.{Memᴰ}
use lib.Dec.{leb, eqb}
use borrow.Author.Tests.{eqb-true}
use Rattle.semigroups.specs.Words.{genus, closed}
use Rattle.semigroups.specs.Elements.{multiplicity}
use Rattle.answers.specs.Answers.{refused, given}
use Rattle.words.specs.Looks.{ask_word, report_of, look_of}
use Rattle.words.specs.declared.Report.{Report}
use Rattle.words.proofs.Looks.{asked, asked_refused, look_given_report}
use Rattle.windows.specs.Windows.{within, holds, window_list}
use Rattle.windows.proofs.Windows.{within_iff, mem_window}

module _ (g lo hi w : ℕ) where
  -- questions 1 and 2 of the word, then its genus and its multiplicity
  held_asked : holds g lo hi w ≡ ask_word (λ n. false) w (eqb (genus w) g && within lo hi (multiplicity w))
  unfolding ask_word
  held_asked = all (leb (genus w) 32) (closed w) (eqb (genus w) g) (within lo hi (multiplicity w))
    where
      all : (a b c d : Bool) → (a && b && c && d) ≡ cond a (cond b (c && d) false) false
      all true true c d = refl
      all true false c d = refl
      all false b c d = refl

  -- by what a look at the word told
  pub held_refused : (n : ℕ) → look_of w ≡ refused n → holds g lo hi w ≡ false
  held_refused n e = held_asked ∙ asked_refused (λ n. false) w _ n e

  pub held_told : (r : Report) → look_of w ≡ given r → holds g lo hi w ≡ (eqb r.genus g && within lo hi r.multiplicity)
  unfolding report_of
  held_told r e =
      let (accepted, same) = look_given_report w r e in
      held_asked ∙ asked (λ n. false) w _ accepted
      ∙ ap (λ (r : Report). eqb r.genus g && within lo hi r.multiplicity) (sym same)

  -- a word of 64 bits that a window holds is in its list
  pub held_mem : w < 2 ^ 64 → holds g lo hi w ≡ true → Memᴰ w (window_list g lo hi)
  held_mem fits held =
      let (own, inside) = (and-eq-true_iff (leb (genus w) 32 && closed w && eqb (genus w) g) (within lo hi (multiplicity w))).0 held in
      let (accepted, same) = (and-eq-true_iff (leb (genus w) 32 && closed w) (eqb (genus w) g)).0 own in
      let sums = ((and-eq-true_iff (leb (genus w) 32) (closed w)).0 accepted).1 in
      let (low, high) = (within_iff lo hi (multiplicity w)).0 inside in
      mem_window g lo hi w record { fits = fits; closed = sums; gapped = eqb-true (genus w) g same } low high

  -- and its genus is at most 32
  pub held_small : holds g lo hi w ≡ true → leb g 32 ≡ true
  held_small held =
      let (own, inside) = (and-eq-true_iff (leb (genus w) 32 && closed w && eqb (genus w) g) (within lo hi (multiplicity w))).0 held in
      let (accepted, same) = (and-eq-true_iff (leb (genus w) 32 && closed w) (eqb (genus w) g)).0 own in
      ap (λ (n : ℕ). leb n 32) (sym (eqb-true (genus w) g same)) ∙ ((and-eq-true_iff (leb (genus w) 32) (closed w)).0 accepted).0
