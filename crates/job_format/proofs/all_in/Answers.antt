-- `job_format::all_in` meets its contract, field by field. Assumes nothing.
use native.Mathlib.Omega.{arith}
use Rattle.job_format.specs.Format.{map_in}
use Rattle.job_format.specs.Fields.{all_in}
use Rattle.job_format.proofs.Format.{place_pos}
use Rattle.job_format.proofs.all_in.Goals as goal

pub bounds-job-0 : goal.bounds-job-0
bounds-job-0 c = omega (arith, c.requires, place_pos (map_in c.args.job.now) 7)

pub returns : goal.returns
unfolding all_in
returns c = λ i. record {
  map = map_in c.args.job.now;
  genus = c.byte_in.ensures i;
  lowest = c.byte_in-2.ensures i;
  highest = c.byte_in-3.ensures i;
  word = c.word_in.ensures i;
  written = c.word_in-2.ensures i;
  finished = c.stands.ensures i;
}
