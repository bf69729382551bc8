-- `job_format::field_in` meets its contract: the field's bytes lie within the job. Assumes nothing.
use Prim.Native.Nat.{ℕ}
use mathlib.Core.Path.{ap₂, ◌∙◌}
use mathlib.Core.List.{List}
use native.Mathlib.Omega.{arith}
use lib.ListN.{take, drop}
use Rattle.job_format.specs.Bytes.{value_of}
use Rattle.job_format.specs.Format.{map_in, field_in}
use Rattle.job_format.proofs.Format.{size_le, place_pos, field_within}
use Rattle.job_format.proofs.field_in.Goals as goal

pub bounds-job-0 : goal.bounds-job-0
bounds-job-0 c = omega (arith, c.requires.job_len, place_pos (map_in c.args.job.now) 7)

pub value_at-requires : goal.value_at-requires
value_at-requires c =
    let map : ℕ = map_in c.args.job.now in
    let place = c.field_place.ensures in
    let size = c.field_size.ensures in
    record {
      size_bound = omega (arith, size, size_le map c.args.at);
      size_in_bounds = omega (arith, place, size, c.requires.job_len, field_within map c.args.at c.requires.at_bound);
    }

pub returns : goal.returns
unfolding field_in
returns c =
    let job : List ℕ = c.args.job.now in
    c.value_at.ensures ∙ ap₂ (λ (n k : ℕ). value_of (take n (drop k job))) c.field_size.ensures c.field_place.ensures
