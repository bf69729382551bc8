-- `nodes::Node::grandchildren_by_rows` meets its contract. Assumes nothing.
use Rattle.std.proofs.Common.{ℕ, ◌+◌, ◌*◌, ◌^◌, ◌<◌, ◌≤◌, sym, ap, ◌∙◌, ap₂, lt_of_le_of_lt, arith}
use lib.Bits.{bit_and, and_le_r}
use lib.Count.{ones, ones-le}
use Rattle.seeds.specs.Grandchildren.{pairs}
use Rattle.seeds.proofs.Pairs.{pairs_bound}
use Rattle.nodes.specs.RowCounts.{count_by_rows}
use Rattle.nodes.proofs.GrandchildCounts.{no_generators}
use Rattle.nodes.proofs.Node.grandchildren_by_rows.Goals as goal
use Rattle.nodes.proofs.Node.grandchildren_by_rows.Goals.{After-generators}

-- row 0 has at most 64 offsets
few_first : (c : After-generators) → c.generators.result ≤ 64
few_first c =
    omega (arith, c.generators.ensures, ap ones c.first_row-first.ensures, ones-le 64 c.first_row-first.result (omega arith))

-- and so have both rows together, so that the sum is small
sum_small : (made first second : ℕ) → made ≤ 65 * 65 → second < 2 ^ 64 → made + ones (bit_and first second) < 2 ^ 64
sum_small made first second few fits = omega (arith, ones-le 64 _ (lt_of_le_of_lt (and_le_r first second) fits))

-- without generators there is none
pub returns-then-first-eq0 : goal.returns-then-first-eq0
returns-then-first-eq0 c = sym (no_generators _ (sym c.first_row-first.ensures ∙ c.if-first-eq0.true))

pub pairs_among-requires : goal.pairs_among-requires
pairs_among-requires c = omega (arith, few_first (goal.at.pairs_among-requires c).After-generators)

pub overflow_add-result : goal.overflow_add-result
overflow_add-result c =
    let few : c.generators.result ≤ 65 = omega (arith, few_first (goal.at.overflow_add-result c).After-generators) in
    record { fits = sum_small _ _ _ (omega (arith, c.pairs_among.ensures, (pairs_bound _ few).1)) (omega arith) }

-- else rows 0 and 1 tell it
pub returns : goal.returns
unfolding count_by_rows
returns c =
    ap₂ ◌+◌ (c.pairs_among.ensures ∙ ap pairs c.generators.ensures)
    (ap₂ (λ (r s : ℕ). ones (bit_and r s)) c.first_row-first.ensures c.second_row.ensures)
