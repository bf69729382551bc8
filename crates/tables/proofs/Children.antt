-- The elements at which the child call gives a word: up to genus 31 the generators not below the conductor, as many as row 0 of the table has
-- 1s; at genus 32 none, although that number is given. Assumes nothing.
use Prim.Native.Nat.{ℕ, ◌+◌, ◌^◌, ◌≤◌, ◌<◌}
use mathlib.Core.Path.{◌≡◌, sym, ap, ◌∙◌}
use mathlib.Core.Bool.{◌&&◌, and-eq-true_iff}
use mathlib.Core.List.{[]}
use native.Mathlib.Omega.{arith}
use lib.Dec.{leb}
use lib.ListN.{length}
use borrow.Author.Tests.{leb-true, le-leb}
use Rattle.semigroups.specs.Lists.{run}
use Rattle.semigroups.specs.Words.{genus, conductor, child_word}
use Rattle.semigroups.specs.Elements.{multiplicity, generator, right_generators}
use Rattle.semigroups.proofs.Lists.{mem_run, keep_mem, mem_keep, ordered_run, ordered_keep, ordered_unique}
use Rattle.semigroups.proofs.Kept.{keep_none}
use Rattle.semigroups.proofs.Elements.{generator_below, right_generators_mem, mem_right_generators, right_generators_ordered}
use Rattle.seeds.specs.Seeds.{first_row_ones, seed_table}
use Rattle.answers.specs.Answers.{refused, given, is_given}
use Rattle.answers.proofs.Answers.{last_yes}
use Rattle.words.specs.Looks.{Accepted}
use Rattle.words.proofs.Looks.{asked}
use Rattle.nodes.proofs.FirstRow.{first_row_ones_count}
use Rattle.tables.specs.Answers.{table_of, child_of, child_elements}
use Rattle.tables.proofs.Answers.{no_child, child_asked}

module _ (w : ℕ) (h : Accepted w) where
  module _ (few : genus w ≤ 31) where
    -- up to genus 31 a word is given just at the generators not below the conductor
    given_at : (e : ℕ) → is_given (child_of w e) ≡ (leb (conductor w) e && generator w e)
    given_at e = ap is_given (child_asked w e h few) ∙ last_yes 5 (child_word w e) (leb (conductor w) e && generator w e)

    module _ (fits : w < 2 ^ 64) (n : ℕ) (high : conductor w + multiplicity w ≤ n) where
      -- among the elements below n, where n is at least the conductor plus the multiplicity: 2 ^ 64 is, below which every argument of the call
      -- lies
      pub child_elements_generators : child_elements w n ≡ right_generators w
      unfolding child_elements
      child_elements_generators =
          ordered_unique ◌<◌ (λ x y p q. omega arith) (child_elements w n) (right_generators w)
          (ordered_keep ◌<◌ (λ e. is_given (child_of w e)) (run 0 n) (ordered_run 0 n)) (right_generators_ordered w fits)
          (λ x m.
          let (i, t) = keep_mem (λ e. is_given (child_of w e)) (run 0 n) m in
          let (l, g) = (and-eq-true_iff (leb (conductor w) x) (generator w x)).0 (sym (given_at x) ∙ t) in
          mem_right_generators w fits x (leb-true (conductor w) x l) g)
          (λ x m.
          let (l, g) = right_generators_mem w fits m in
          mem_keep (λ e. is_given (child_of w e)) (run 0 n) (mem_run 0 n (omega arith) (omega (arith, generator_below w fits x g)))
          (given_at x ∙ (and-eq-true_iff (leb (conductor w) x) (generator w x)).1 (le-leb (conductor w) x l, g)))

      -- so that the number of 1s in row 0 is the number of children
      pub children_counted : length (child_elements w n) ≡ first_row_ones w
      children_counted = ap length child_elements_generators ∙ sym (first_row_ones_count w fits)

  -- at genus 32 every child is refused
  pub no_children : genus w ≡ 32 → (n : ℕ) → child_elements w n ≡ []
  unfolding child_elements
  no_children full n = keep_none _ (run 0 n) (λ e m. ap is_given (no_child w e h (omega arith)))

  -- the seed table call gives the table and that number, of genus 32 too
  pub table_given_is : table_of w ≡ given record { table = seed_table w; generators = first_row_ones w }
  unfolding table_of
  table_given_is = asked refused w _ h
