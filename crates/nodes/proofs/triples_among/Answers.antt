-- `nodes::triples_among` meets its contract. Assumes nothing.
use Rattle.std.proofs.Common.{arith}
use Rattle.seeds.proofs.Triples.{triples_computed, triples_bound, pairs_times}
use Rattle.nodes.proofs.triples_among.Goals as goal

pub overflow_mul-result : goal.overflow_mul-result
overflow_mul-result c = let n = c.args.n in rw c.pairs_among-p.ensures (omega (arith, (triples_bound n c.requires).0))

pub overflow_sub-result : goal.overflow_sub-result
overflow_sub-result c = let n = c.args.n in rw c.pairs_among-p.ensures (omega (arith, pairs_times n))

pub overflow_sub-result-2 : goal.overflow_sub-result-2
overflow_sub-result-2 c = let n = c.args.n in rw c.pairs_among-p.ensures (omega (arith, pairs_times n))

pub returns : goal.returns
returns c = rw c.pairs_among-p.ensures (triples_computed c.args.n)
