-- `jobs::put_job` meets its contract. Assumes nothing.
use Prim.Native.Nat.{ℕ}
use mathlib.Core.Path.{ap, ◌∙◌}
use Rattle.answers.specs.Answers.{into_lent}
use Rattle.job_format.specs.Format.{laid}
use Rattle.jobs.specs.Jobs.{field_for, job_of}
use Rattle.jobs.proofs.put_job.Goals as goal

pub returns : goal.returns
unfolding job_of field_for
returns c =
    let args = c.args in
    c.lay_out.ensures
    ∙ ap (λ (m : ℕ). into_lent (laid m (field_for args.walk args.written)) args.out.now) c.map_for.ensures
