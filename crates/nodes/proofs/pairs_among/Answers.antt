-- `nodes::pairs_among` meets its contract. Assumes nothing.
use Rattle.std.proofs.Common.{arith}
use Rattle.seeds.proofs.Pairs.{square_le, pairs_computed, pairs_bound}
use Rattle.nodes.proofs.pairs_among.Goals as goal

pub overflow_mul-result : goal.overflow_mul-result
overflow_mul-result c = omega (arith, (pairs_bound c.args.n c.requires).0)

pub overflow_sub-result : goal.overflow_sub-result
overflow_sub-result c = omega (arith, square_le c.args.n)

pub returns : goal.returns
returns c = pairs_computed c.args.n
