-- `nodes::Node::grandchildren` meets its contract. Assumes nothing.
use Rattle.std.proofs.Common.{◌≤◌, sym, ap, ◌∙◌, arith}
use Rattle.semigroups.proofs.Operations.{multiplicity_le}
use Rattle.seeds.specs.Grandchildren.{pairs}
use Rattle.seeds.proofs.Pairs.{pairs_bound}
use Rattle.nodes.proofs.GrandchildCounts.{at_zero, at_first, at_rows}
use Rattle.nodes.proofs.Node.grandchildren.Goals as goal
use Rattle.nodes.proofs.Node.grandchildren.Goals.{After-multiplicity_of}

-- a multiplicity is at most 65
few : (c : After-multiplicity_of) → c.multiplicity_of.result ≤ 65
few c = omega (arith, c.multiplicity_of.ensures, multiplicity_le c.args.self.word (omega arith))

-- the word 0
pub returns-then-self-eq0 : goal.returns-then-self-eq0
returns-then-self-eq0 c = sym (at_zero c.args.self c.if-self-eq0.true)

pub pairs_among-requires : goal.pairs_among-requires
pairs_among-requires c = few (goal.at.pairs_among-requires c).After-multiplicity_of

pub overflow_add-result : goal.overflow_add-result
overflow_add-result c = omega (arith, c.pairs_among.ensures, (pairs_bound _ (few (goal.at.overflow_add-result c).After-multiplicity_of)).1)

-- where k is below 2
pub returns-then-k-lt2 : goal.returns-then-k-lt2
returns-then-k-lt2 c =
    let n = c.args.self in
    omega (
      arith,
      c.pairs_among.ensures,
      at_first n c.if-self-eq0.false (omega (arith, c.if-k-lt2.true, c.of_conductor-k.ensures, c.genus_of.ensures)),
      ap pairs c.multiplicity_of.ensures,
    )

-- by rows 0 and 1
pub returns : goal.returns
returns c =
    c.grandchildren_by_rows.ensures
    ∙ sym (at_rows c.args.self c.if-self-eq0.false (omega (arith, c.if-k-lt2.false, c.of_conductor-k.ensures, c.genus_of.ensures)))
