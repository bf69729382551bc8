-- `listing::put_line` meets its contract: the three fields are written one behind the other. Assumes nothing.
use Rattle.std.proofs.Common.{◌≡◌, ℕ, ◌≤◌, sym, ap, length, arith}
use Rattle.semigroups.specs.Words.{reported_conductor}
use Rattle.semigroups.specs.Elements.{multiplicity}
use Rattle.semigroups.proofs.Reported.{reported_le}
use Rattle.semigroups.proofs.Operations.{conductor_le, multiplicity_le}
use Rattle.words.specs.Looks.{report_of}
use Rattle.words.specs.declared.Report.{Report}
use Rattle.requests.specs.Digits.{line_feed}
use Rattle.listing.specs.Text.{blank, field}
use Rattle.listing.proofs.Lines.{field_le, field_le_3, line_from}
use Rattle.listing.proofs.Writing.{puts_as, puts_on}
use Rattle.listing.proofs.put_line.Goals as goal
use Rattle.listing.proofs.put_line.Goals.{After-tell-told}

-- the conductor and the multiplicity that are told
told : (c : After-tell-told) →
    let word = c.args.word in
    (c.tell-told.result.conductor ≡ reported_conductor word) × (c.tell-told.result.multiplicity ≡ multiplicity word)
unfolding report_of
told c = (ap (λ (r : Report). r.conductor) c.tell-told.ensures, ap (λ (r : Report). r.multiplicity) c.tell-told.ensures)

-- the fields have their places: the word one of 20 digits, the conductor and the multiplicity one of two
short : (c : After-tell-told) (end : ℕ) →
    let report = c.tell-told.result in
    (length (field c.args.word end) ≤ 21) × (length (field report.conductor end) ≤ 3) × (length (field report.multiplicity end) ≤ 3)
short c end =
    let word = c.args.word in
    let fits = c.ranges.word.fits in
    let known = told c in (
      field_le word end 19 fits (omega arith),
      field_le_3 _ end (omega (arith, known.0, reported_le word, conductor_le word fits)),
      field_le_3 _ end (omega (arith, known.1, multiplicity_le word fits)),
    )

pub put_field-first-requires : goal.put_field-first-requires
put_field-first-requires c = omega (arith, short (goal.at.put_field-first-requires c).After-tell-told blank)

pub put_field-second-requires : goal.put_field-second-requires
put_field-second-requires c = omega (arith, short (goal.at.put_field-second-requires c).After-tell-told blank)

pub put_field-requires : goal.put_field-requires
put_field-requires c =
    let told_at = (goal.at.put_field-requires c).After-tell-told in
    omega (arith, short told_at blank, short told_at line_feed)

pub returns : goal.returns
returns c =
    let known = told (goal.at.returns c).After-tell-told in
    puts_as (sym (line_from _ known.0 known.1))
    (puts_on (puts_on c.put_field-first.ensures c.put_field-second.ensures) c.put_field.ensures)
