-- `descendants::put_by_rows` meets its contract: a loop that puts words, those one level below the child without each generator. Assumes nothing.
use Prim.Native.Nat.{ℕ, suc, ◌+◌, ◌*◌, ◌%◌, ◌^◌}
use mathlib.Core.Path.{◌≡◌, sym, ap, ap₂, ◌∙◌}
use mathlib.Core.List.{List, Memᴰ}
use lib.Bits.{bit_and, bit_or}
use Rattle.std.specs.Prelude.{Ok}
use Rattle.semigroups.specs.Words.{child_word}
use Rattle.semigroups.specs.Positions.{positions}
use Rattle.semigroups.specs.Tree.{leaves}
use Rattle.semigroups.proofs.Bits.{one_shl}
use Rattle.nodes.specs.NewGaps.{gap_branches, moved_row_of_child}
use Rattle.nodes.proofs.NewGaps.{upper_taken, upper_left, gap_branches_none, gap_branches_first, bit_word}
use Rattle.nodes.proofs.MovedRows.{child_row_made, two_rows_low, two_levels_below, two_rows_fit, one_level_below, child_bits_fit}
use Rattle.lending.specs.Lending.{Lent, put_all, with_each}
use Rattle.lending.proofs.Lending.{putting_none, putting_stops, putting_on}
use Rattle.descendants.proofs.NewWords.{gap_words}
use Rattle.descendants.proofs.put_by_rows.Goals as goal
use Rattle.descendants.proofs.put_by_rows.Goals.{In-Some}

module _ (c : In-Some) where
  -- the lowest generator that is left
  abbrev at : ℕ
  at = c.in-Some.low.at.0

  -- it is one of the generators
  among : Memᴰ at (positions c.args.generators)
  among = upper_taken c.loop-low.invariant.0 c.in-Some.ensures.steps.0

  -- the word of the child without it
  child : c.args.word + 1 * 2 ^ at % 2 ^ 64 ≡ child_word c.args.word (suc at)
  child = rw (one_shl at c.in-Some.ensures.steps.0.below) (bit_word c.args.word at)

  -- the bits that are made of it, of the others and of the seeds
  abbrev made : ℕ
  made = bit_or c.in-Some.low.rest (bit_and c.args.seeds (1 * 2 ^ at % 2 ^ 64) * 2 ^ c.args.m % 2 ^ 64)

  -- they are the generators of the child
  row : made ≡ moved_row_of_child c.args.generators c.args.seeds c.args.m at
  row =
      let low = c.in-Some.ensures.steps.0 in
      rw (one_shl at low.below) (child_row_made c.args.seeds c.args.m c.loop-low.invariant.0 low)

  -- so that the words below the child are put
  put : {t : Lent} → t ≡ put_all (with_each (c.args.word + 1 * 2 ^ at % 2 ^ 64) made) (c.loop-low.out, Ok c.loop-low.at)
      → t ≡ put_all (leaves 1 (child_word c.args.word (suc at))) (c.loop-low.out, Ok c.loop-low.at)
  put e =
      let rows = c.requires.two_rows in
      let lent : Lent = (c.loop-low.out, Ok c.loop-low.at) in
      e ∙ ap₂ (λ (v b : ℕ). put_all (with_each v b) lent) child row
      ∙ ap (λ (l : List ℕ). put_all l lent) (gap_words _ _ (child_bits_fit rows among) ∙ sym (one_level_below rows among))

pub overflow_add-word : goal.overflow_add-word
overflow_add-word c =
    let at = (goal.at.overflow_add-word c).In-Some in
    rw (child at) record { fits = two_rows_fit c.requires.two_rows _ (among at) }

pub overflow_shl-seeds : goal.overflow_shl-seeds
overflow_shl-seeds c = two_rows_low c.requires.two_rows

pub returns-in_err-at : goal.returns-in_err-at
returns-in_err-at c =
    rw (two_levels_below c.requires.two_rows)
    (putting_stops c.loop-low.invariant.1 _ _ (gap_branches_first _ c.in-Some.ensures.steps.0 1) c.from_residual.ensures.1 (put (goal.at.returns-in_err-at c).In-Some c.in_err-at.ensures))

pub loop-low-preserved : goal.loop-low-preserved
loop-low-preserved c =
    let (low, left) = c.in-Some.ensures.steps in
    let (now, putting) = c.loop-low.invariant in
    rw left (
      upper_left now low,
      putting_on putting _ _ (gap_branches_first _ low 1) (put (goal.at.loop-low-preserved c).In-Some c.in_ok-at.ensures),
    )

pub returns : goal.returns
returns c =
    rw (two_levels_below c.requires.two_rows) (putting_none c.loop-low.invariant.1 (ap (gap_branches 1 _) c.in-None.ensures.steps.0 ∙ gap_branches_none 1 _))
