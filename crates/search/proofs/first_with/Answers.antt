-- `search::first_with` meets its contract: numbers that are not possible are those of none, and the others are looked for below the first
-- node of the multiplicity. Assumes nothing.
use Prim.Native.Nat.{ℕ, ◌+◌, ◌-◌, ◌^◌, ◌≤◌}
use mathlib.Core.Path.{◌≡◌, sym, ap, ◌∙◌, subst}
use mathlib.Core.List.{head?}
use mathlib.Core.Option.{none, some}
use native.Mathlib.Omega.{arith}
use lib.IntN.{pos}
use lib.Pow.{pow_mono}
use Rattle.nodes.specs.Nodes.{node_of, first_row}
use Rattle.nodes.specs.Levels.{NodeWithLevels}
use Rattle.nodes.specs.declared.Node.{Node}
use Rattle.nodes.proofs.FirstNode.{first_node, first_node_row, first_node_levels, later_offsets}
use Rattle.search.specs.Wanted.{wanted_list}
use Rattle.search.proofs.Possible.{Possible, none_wanted}
use Rattle.search.proofs.FirstWith.{one_found, one_none, wanted_below}
use Rattle.search.proofs.first_with.Goals as goal

-- where the numbers are not possible there is none
impossible : (genus gap m : ℕ) → 1 ≤ genus → (Possible genus gap m → ⊥) → none ≡ head? (wanted_list genus (pos gap) m)
impossible genus gap m positive never = sym (none_wanted genus positive gap m never)

-- the first node
module _ (m : ℕ) (positive : 1 ≤ m) (most : m ≤ 33) {n : Node} (e : n ≡ node_of (2 ^ (m - 1) - 1)) where
  word : n.word ≡ 2 ^ (m - 1) - 1
  unfolding node_of
  word = ap (λ (n : Node). n.word) e

  -- its conductor
  conductor : n.conductor ≡ m
  conductor = ap (λ (n : Node). n.conductor) (e ∙ first_node m positive most)

  -- its first row
  row : {r : ℕ} → r ≡ first_row n → r ≡ 2 ^ m - 1
  row f = f ∙ ap first_row e ∙ first_node_row m positive most

  -- all its offsets but the first
  rest : {r : ℕ} → r ≡ first_row n → r - 1 ≡ 2 ^ m - 2
  rest f = omega (arith, row f)

pub returns-then-m-lt2 : goal.returns-then-m-lt2
returns-then-m-lt2 c = impossible _ _ _ c.requires.0 (λ p. omega (arith, p.lowest, c.if-m-lt2.true))

pub returns-then-genus-m : goal.returns-then-genus-m
returns-then-genus-m c = impossible _ _ _ c.requires.0 (λ p. omega (arith, p.highest, c.if-genus-m.true))

pub returns-then-gap-genus : goal.returns-then-gap-genus
returns-then-gap-genus c = impossible _ _ _ c.requires.0 (λ p. omega (arith, p.from_genus, c.if-gap-genus.true))

pub returns-then-genus-gap : goal.returns-then-genus-gap
returns-then-genus-gap c = impossible _ _ _ c.requires.0 (λ p. omega (arith, p.below_twice, c.if-genus-gap.true))

pub returns-then-gap-m-eq0 : goal.returns-then-gap-m-eq0
returns-then-gap-m-eq0 c = impossible _ _ _ c.requires.0 (λ p. p.no_multiple c.if-gap-m-eq0.true)

pub returns-then-gap-genus-2 : goal.returns-then-gap-genus-2
returns-then-gap-genus-2 c =
    ap some (word c.args.m (omega arith) (omega arith) c.first_node-n.ensures)
    ∙ sym (one_found _ _ _ (omega arith) (omega arith) (omega arith) c.if-gap-genus-2.true)

pub returns-then-genus-m-2 : goal.returns-then-genus-m-2
returns-then-genus-m-2 c = sym (one_none _ _ _ (omega arith) (omega arith) (omega arith) c.if-gap-genus-2.false)

pub overflow_sub-first_row : goal.overflow_sub-first_row
overflow_sub-first_row c =
    let positive : 1 ≤ c.args.m = omega arith in
    let two : 2 ^ 1 ≤ 2 ^ c.args.m = pow_mono positive in
    omega (arith, row c.args.m positive (omega arith) c.first_node-n.ensures c.first_row.ensures)

pub invariant_of-tree : goal.invariant_of-tree
invariant_of-tree c =
    record { levels = subst (NodeWithLevels _) (sym c.first_node-n.ensures) (first_node_levels c.args.m (omega arith) (omega arith) _ (omega arith)) }

pub first_among-requires-clause-offsets : goal.first_among-requires-clause-offsets
first_among-requires-clause-offsets c =
    let m : ℕ = c.args.m in
    let positive : 1 ≤ m = omega arith in
    let most : m ≤ 33 = omega arith in
    let first = c.first_node-n.ensures in
    rw (word m positive most first, rest m positive most first c.first_row.ensures) (later_offsets _ positive most)

pub first_among-requires-clause-conductor_le_gap : goal.first_among-requires-clause-conductor_le_gap
first_among-requires-clause-conductor_le_gap c = omega (arith, conductor c.args.m (omega arith) (omega arith) c.first_node-n.ensures)

pub returns : goal.returns
returns c =
    let m : ℕ = c.args.m in
    let positive : 1 ≤ m = omega arith in
    let most : m ≤ 33 = omega arith in
    let first = c.first_node-n.ensures in
    let levels : c.args.genus - m + 1 - 1 ≡ c.args.genus - m = omega arith in
    rw (word m positive most first, rest m positive most first c.first_row.ensures, levels) at c.first_among.ensures
    ∙ sym (ap head? (wanted_below _ _ _ (omega arith) (omega arith) (omega arith)))
