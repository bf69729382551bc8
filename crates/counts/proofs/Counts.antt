-- What the count call answers, by the questions. Assumes nothing.
use Prim.Native.Nat.{ℕ, ◌+◌, ◌-◌, ◌^◌, ◌≤◌, ◌<◌}
use mathlib.Core.Path.{◌≡◌, sym, ◌∙◌, ap}
use mathlib.Core.List.{List}
use native.Mathlib.Omega.{arith}
use native.Mathlib.Nat.{le_of_eq, le_trans}
use lib.ListN.{length}
use Rattle.semigroups.specs.Words.{genus}
use Rattle.semigroups.specs.GenusList.{genus_list, descendant_count}
use Rattle.semigroups.specs.Tree.{leaves}
use Rattle.semigroups.proofs.Words.{genus_zero, closed_zero}
use Rattle.semigroups.proofs.Tree.{descendants_zero, count_below_genus, count_own}
use Rattle.semigroups.proofs.Leaves.{descendants_at}
use Rattle.seeds.specs.Seeds.{first_row_ones}
use Rattle.answers.specs.Answers.{refused, given}
use Rattle.words.specs.Looks.{Accepted}
use Rattle.words.proofs.Looks.{asked, genus_asked_answers, genus_refused}
use Rattle.nodes.proofs.FirstRow.{first_row_ones_count}
use Rattle.nodes.proofs.GrandchildCounts.{grandchildren_descendants}
use Rattle.tables.specs.Answers.{grandchildren_of}
use Rattle.counts.specs.Counts.{count_of}
use Rattle.counts.proofs.BranchCounts.{length_children}

pub count_answers : (w g : ℕ) → Accepted w → g ≤ 32 → count_of w g ≡ given (descendant_count g w)
unfolding count_of
count_answers w g h = genus_asked_answers w g _ h

-- for word 0 it is the number of all, below a word's genus 0, and at its own 1
pub count_all : (g : ℕ) → g ≤ 32 → count_of 0 g ≡ given (length (genus_list g))
unfolding descendant_count
count_all g small =
    count_answers 0 g record { closed = closed_zero; few = le_trans (le_of_eq genus_zero) (omega arith) } small
    ∙ ap (λ (l : List ℕ). given (length l)) (descendants_zero g)

pub count_is_0_below : (w g : ℕ) → Accepted w → g < genus w → count_of w g ≡ given 0
count_is_0_below w g h below = count_answers w g h (omega (arith, h.few)) ∙ ap given (count_below_genus g w below)

pub count_is_1_at_own : (w : ℕ) → w < 2 ^ 64 → Accepted w → count_of w (genus w) ≡ given 1
count_is_1_at_own w fits h = count_answers w (genus w) h h.few ∙ ap given (count_own w fits h.closed)

-- ---- by the words below

module _ (w g : ℕ) (h : Accepted w) where
  pub count_refused : 32 < g → count_of w g ≡ refused 3
  unfolding count_of
  count_refused = genus_refused w g _ h

  -- from it on, the words below it
  pub count_leaves : g ≤ 32 → genus w ≤ g → w < 2 ^ 64 → count_of w g ≡ given (length (leaves (g - genus w) w))
  unfolding descendant_count
  count_leaves l k fits = count_answers w g h l ∙ ap (λ (k : List ℕ). given (length k)) (descendants_at g w fits h.closed k l)

-- up to genus 31, the words one genus on are as many as row 0 of the table has 1s
pub count_children : (w : ℕ) → w < 2 ^ 64 → Accepted w → genus w ≤ 31 → count_of w (genus w + 1) ≡ given (first_row_ones w)
count_children w fits h few =
    let one : genus w + 1 - genus w ≡ 1 = omega arith in
    count_leaves w (genus w + 1) h (omega arith) (omega arith) fits
    ∙ ap given (ap (λ (r : ℕ). length (leaves r w)) one ∙ length_children w ∙ sym (first_row_ones_count w fits))

-- up to genus 30, the words two genera on are the grandchildren
pub count_grandchildren : (w : ℕ) → Accepted w → genus w ≤ 30 → count_of w (genus w + 2) ≡ grandchildren_of w
unfolding grandchildren_of
count_grandchildren w h few = count_answers w (genus w + 2) h (omega arith) ∙ sym (asked refused w _ h ∙ ap given (grandchildren_descendants w few))
