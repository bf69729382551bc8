-- `job_format::word_in` meets its contract. Assumes nothing.
use Prim.Native.Nat.{ℕ}
use mathlib.Core.Path.{ap, sym, ◌∙◌}
use native.Mathlib.Omega.{arith}
use Rattle.std.specs.Prelude.{Some}
use Rattle.job_format.specs.Format.{map_in}
use Rattle.job_format.specs.Fields.{field_or_none}
use Rattle.job_format.proofs.Format.{place_pos}
use Rattle.job_format.proofs.word_in.Goals as goal

pub bounds-job-0 : goal.bounds-job-0
bounds-job-0 c = omega (arith, c.requires.job_len, place_pos (map_in c.args.job.now) 7)

pub returns-then-not-stands : goal.returns-then-not-stands
unfolding field_or_none
returns-then-not-stands c = rw (sym c.stands.ensures ∙ c.if-not-stands.true)

pub returns : goal.returns
unfolding field_or_none
returns c = rw (sym c.stands.ensures ∙ c.if-not-stands.false) (ap (λ (v : ℕ). Some v) c.field_in.ensures)
