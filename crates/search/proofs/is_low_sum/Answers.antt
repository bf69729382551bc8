-- `search::is_low_sum` meets its contract, by the table's law of sums. Assumes nothing.
use Prim.Native.Nat.{◌-◌, ◌^◌, ◌≤◌, ◌<◌}
use mathlib.Core.Path.{◌≡◌, sym, ap, ap₂, ◌∙◌}
use mathlib.Core.Bool.{not}
use native.Mathlib.Omega.{arith}
use Rattle.semigroups.specs.Words.{bit, conductor}
use Rattle.semigroups.proofs.Bits.{bit_test}
use Rattle.seeds.specs.Seeds.{seed_table}
use Rattle.seeds.proofs.Seeds.{sum_by_table, no_sum}
use Rattle.nodes.specs.Nodes.{node_of}
use Rattle.nodes.specs.declared.Node.{Node}
use Rattle.search.proofs.is_low_sum.Goals as goal
use Rattle.search.proofs.is_low_sum.Goals.{After-of_element-offset}

-- the conductor, the table and the offset are those of the word
module _ (c : After-of_element-offset) where
  abbrev n : Node
  n = c.args.n

  fits : n.word < 2 ^ 64
  fits = omega arith

  same : n.conductor ≡ conductor n.word
  unfolding node_of
  same = ap (λ (k : Node). k.conductor) c.requires.n_value

  table : n.table ≡ seed_table n.word
  unfolding node_of
  table = ap (λ (k : Node). k.table) c.requires.n_value

  offset : c.of_element-offset.result.0 ≡ c.args.gap - conductor n.word
  offset = omega (arith, same, c.of_element-offset.ensures)

  high : conductor n.word ≤ c.args.gap
  high = omega (arith, same)

pub returns-then-c-offset : goal.returns-then-c-offset
returns-then-c-offset c =
    let found = (goal.at.returns-then-c-offset c).After-of_element-offset in
    sym (no_sum _ (fits found) _ (high found) (omega (arith, offset found, same found)))

pub returns : goal.returns
returns c =
    let found = (goal.at.returns c).After-of_element-offset in
    ap not (bit_test _ _ ∙ ap₂ bit (table found) (offset found))
    ∙ sum_by_table _ (fits found) _ (high found) (omega (arith, offset found, same found))
