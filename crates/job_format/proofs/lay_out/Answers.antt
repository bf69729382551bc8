-- `job_format::lay_out` meets its contract: refused where the list is shorter than the job. Assumes nothing.
use Prim.Native.Nat.{ℕ}
use mathlib.Core.Path.{◌≡◌, sym, ap₂, ◌∙◌}
use mathlib.Core.List.{List}
use native.Mathlib.Omega.{arith}
use lib.ListN.{length, get_or}
use Rattle.answers.specs.Answers.{giving}
use Rattle.answers.proofs.Answers.{lent_short, lent_enough}
use Rattle.job_format.specs.Format.{job_length, laid}
use Rattle.job_format.proofs.Format.{laid_length}
use Rattle.job_format.proofs.lay_out.Goals as goal

-- the job that is to be written
abbrev laid_job : ℕ → List ℕ → List ℕ
laid_job map values = laid map (λ i. get_or values i 0)

-- its length
long : (map : ℕ) (values : List ℕ) → length (laid_job map values) ≡ job_length map
long map values = laid_length map (λ i. get_or values i 0) 7

pub returns-then-out-field_place : goal.returns-then-out-field_place
returns-then-out-field_place c =
    let args = c.args in
    sym (lent_short (laid_job args.map args.values) args.out.now (omega (arith, long args.map args.values, c.field_place.ensures)))

pub returns : goal.returns
returns c =
    let args = c.args in
    let (list, count) = c.put_fields.ensures in
    ap₂ giving (count ∙ sym (long args.map args.values)) list
    ∙ sym (lent_enough (laid_job args.map args.values) args.out.now (omega (arith, long args.map args.values, c.field_place.ensures)))
