-- `nodes::Node::great_grandchildren_by_rows` meets its contract: row 0 has from 1 to 64 offsets, so that no sum wraps. Assumes nothing.
use Rattle.std.proofs.Common.{◌≡◌, ◌≢◌, ◌<◌, ℕ, ◌+◌, ◌-◌, ◌*◌, ◌/◌, ◌^◌, ◌≤◌, length, sym, ap, ◌∙◌, ap₂, le_trans, lt_of_le_of_lt, mul-le-mul, arith}
use lib.Bits.{bit_and, and_le_l}
use lib.Count.{ones, ones-le}
use Rattle.semigroups.proofs.StandingBits.{positions_ones, positions_step}
use Rattle.semigroups.proofs.Elements.{multiplicity_element}
use Rattle.seeds.specs.GreatGrandchildren.{triples}
use Rattle.seeds.proofs.Triples.{triples_bound}
use Rattle.nodes.specs.Nodes.{first_row, second_row}
use Rattle.nodes.specs.RowCounts.{great_count_by_rows}
use Rattle.nodes.proofs.Rows.{second_above, no_row}
use Rattle.nodes.proofs.GreatGrandchildCounts.{no_great_generators, no_third_row}
use Rattle.nodes.proofs.Node.great_grandchildren_by_rows.Goals as goal
use Rattle.nodes.proofs.Node.great_grandchildren_by_rows.Goals.{After-generators-n, After-triples_among, After-row_from}

-- else row 0 has from 1 to 64 offsets
few : {row n : ℕ} → row < 2 ^ 64 → row ≢ 0 → n ≡ ones row → (1 ≤ n) × (n ≤ 64)
few {row} fits some same =
    let least = ap length (positions_step row (omega (arith, some)) fits) in
    (omega (arith, positions_ones row fits), omega (arith, ones-le 64 row fits))

generators_few : (c : After-generators-n) → (1 ≤ c.generators-n.result) × (c.generators-n.result ≤ 64)
generators_few c = few (omega arith) c.if-first-eq0.false (c.generators-n.ensures ∙ ap ones (sym c.first_row-first.ensures))

module _ (c : After-triples_among) where
  here_few : (1 ≤ c.generators-n.result) × (c.generators-n.result ≤ 64)
  here_few = few (omega arith) c.if-first-eq0.false (c.generators-n.ensures ∙ ap ones (sym c.first_row-first.ensures))

  -- rows 0 and 1 together have at most 64
  both_few : ones (bit_and c.first_row-first.result c.second_row.result) ≤ 64
  both_few = ones-le 64 _ (lt_of_le_of_lt (and_le_l c.first_row-first.result _) (omega arith))

  -- and what they make is small
  product_few : ones (bit_and c.first_row-first.result c.second_row.result) * (c.generators-n.result - 1) ≤ 4096
  product_few = mul-le-mul {n₂ = 64} {m₂ = 64} both_few (omega (arith, here_few))

  triples_few : c.triples_among.result ≤ 45066
  triples_few = omega (arith, c.triples_among.ensures, (triples_bound c.generators-n.result (omega (arith, here_few))).1)

  -- it is what the first two terms of the definition are
  others_are : let n = c.args.self in
      c.triples_among.result + ones (bit_and c.first_row-first.result c.second_row.result) * (c.generators-n.result - 1)
      ≡ triples (ones (first_row n)) + ones (bit_and (first_row n) (second_row n)) * (ones (first_row n) - 1)
  others_are =
      let count = c.generators-n.ensures in
      ap₂ ◌+◌ (c.triples_among.ensures ∙ ap triples count) (ap₂ ◌*◌ (ap ones (ap₂ bit_and c.first_row-first.ensures c.second_row.ensures)) (ap (λ (k : ℕ). k - 1) count))

-- the last ones are at most 64, too
last_few : (c : After-row_from)
    → ones (bit_and (bit_and c.first_row-first.result c.row_from.result) (c.args.self.table / 2 ^ (c.second_element-a.result - c.multiplicity_of.result))) ≤ 64
last_few c = ones-le 64 _ (lt_of_le_of_lt (le_trans (and_le_l _ _) (and_le_l c.first_row-first.result c.row_from.result)) (omega arith))

-- without generators there is none
pub returns-then-first-eq0 : goal.returns-then-first-eq0
returns-then-first-eq0 c = sym (no_great_generators _ (sym c.first_row-first.ensures ∙ c.if-first-eq0.true))

pub triples_among-requires : goal.triples_among-requires
triples_among-requires c = omega (arith, generators_few (goal.at.triples_among-requires c).After-generators-n)

pub overflow_sub-others : goal.overflow_sub-others
overflow_sub-others c = omega (arith, generators_few (goal.at.overflow_sub-others c).After-generators-n)

pub overflow_mul-others : goal.overflow_mul-others
overflow_mul-others c = omega (arith, product_few (goal.at.overflow_mul-others c).After-triples_among)

pub overflow_add-others : goal.overflow_add-others
overflow_add-others c = omega (arith, product_few (goal.at.overflow_add-others c).After-triples_among, triples_few (goal.at.overflow_add-others c).After-triples_among)

-- behind 64 bits there is no row 2
pub returns-then-a-gt63 : goal.returns-then-a-gt63
returns-then-a-gt63 c =
    let n = c.args.self in
    others_are (goal.at.returns-then-a-gt63 c).After-triples_among ∙ no_third_row n (no_row n (omega arith) 2 (omega (arith, c.second_element-a.ensures, c.if-a-gt63.true)))

pub overflow_sub-u : goal.overflow_sub-u
overflow_sub-u c =
    omega (arith, c.multiplicity_of.ensures, c.second_element-a.ensures, second_above c.args.self.word (omega arith))

pub overflow_add-result : goal.overflow_add-result
overflow_add-result c =
    let others = (goal.at.overflow_add-result c).After-triples_among in
    omega (arith, last_few (goal.at.overflow_add-result c).After-row_from, product_few others, triples_few others)

pub returns : goal.returns
unfolding great_count_by_rows
returns c =
    let second = c.second_element-a in
    let n = c.args.self in
    let size = ap₂ ◌-◌ second.ensures (c.multiplicity_of.ensures ∙ multiplicity_element n.word (omega arith)) in
    ap₂ ◌+◌ (others_are (goal.at.returns c).After-triples_among)
    (ap ones (ap₂ bit_and (ap₂ bit_and c.first_row-first.ensures (c.row_from.ensures 2 second.ensures)) (ap (λ (k : ℕ). n.table / 2 ^ k) size)))
