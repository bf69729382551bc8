-- `job_format::fields_from` meets its contract: the questions one after the other. Assumes nothing.
use Rattle.std.proofs.Common.{ℕ, List, length, sym, ap, ◌∙◌, arith}
use borrow.Author.Tests.{eq-eqb}
use Rattle.answers.specs.Answers.{given}
use Rattle.job_format.specs.Format.{job_length, map_in}
use Rattle.job_format.specs.Fields.{fields_of}
use Rattle.job_format.proofs.fields_from.Goals as goal

pub returns : goal.returns
unfolding fields_of
returns c =
    let job : List ℕ = c.args.job.now in
    rw (
      sym c.has_version.ensures ∙ c.if-not-has_version.false,
      ← c.version_of.ensures,
      sym c.knows.ensures ∙ c.if-not-knows.false,
      eq-eqb (length job) (job_length (map_in job)) (omega (arith, c.field_place.ensures)),
    )
    (ap given c.all_in.ensures)
