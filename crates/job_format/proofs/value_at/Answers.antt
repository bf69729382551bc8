-- `job_format::value_at` meets its contract: bytes of 0 above those that are read add nothing. Assumes nothing.
use Rattle.std.proofs.Common.{ℕ, ◌+◌, ◌-◌, ◌≡◌, List, ◌++◌, take, drop, replicate, ap, ◌∙◌, arith}
use Rattle.std.specs.Int.{w64, from_le_bytes}
use Rattle.job_format.proofs.Bytes.{padded_value, part_length}
use Rattle.job_format.proofs.value_at.Goals as goal

pub returns : goal.returns
returns c =
    let job : List ℕ = c.args.job.now in
    let size : ℕ = c.args.size in
    let place : ℕ = c.args.place in
    let part : List ℕ = take size (drop place job) in
    let n : place + size - place ≡ size = omega arith in
    c.from_le_bytes.ensures
    ∙ ap (λ (l : List ℕ). from_le_bytes w64 (l ++ drop size (replicate 8 0))) (c.copy_from_slice.ensures.after ∙ ap (λ (k : ℕ). take k (drop place job)) n)
    ∙ padded_value size part c.requires.size_bound (part_length place size job c.requires.size_in_bounds)
