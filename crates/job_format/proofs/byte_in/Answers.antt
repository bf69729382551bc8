-- `job_format::byte_in` meets its contract: the fields of bits 0 to 2 are bytes. Assumes nothing.
use Rattle.std.proofs.Common.{◌≡◌, ℕ, arith}
use mathlib.Core.Bool.{Bool, true, false}
use Rattle.std.specs.Prelude.{if◌then◌else◌, Some, None}
use Rattle.job_format.specs.Format.{field_in}
use Rattle.job_format.specs.Fields.{field_or_none}
use Rattle.job_format.proofs.Bytes.{entries_bytes}
use Rattle.job_format.proofs.Format.{byte_field}
use Rattle.job_format.proofs.byte_in.Goals as goal

-- a value that is there is the field's
there : (b : Bool) (v w : ℕ) → Some v ≡ (if b then Some w else None) → v ≡ w
there true v w e = cc
there false v w e = cc

pub overflow_cast-result : goal.overflow_cast-result
unfolding field_or_none
overflow_cast-result c =
    let job = c.args.job.now in
    let small = byte_field job (entries_bytes job (λ j. omega (arith, c.type_inv.job j))) c.args.at (omega (arith, c.requires.at_bound)) in
    omega (arith, there _ c.in-Some.value (field_in job c.args.at) c.in-Some.ensures, small)
