-- The known elementary counts, those at the ends of the arguments, and that of genus 0: the word 0 is never among them. Assumes nothing.
use mathlib.Core.Path.{◌≡◌, refl}
use native.Mathlib.Omega.{arith}
use Rattle.answers.specs.Answers.{refused, given}
use Rattle.elementary.specs.Elementary.{binomial, in_range, formula}
use Rattle.elementary.specs.Answers.{elementary_of}
use Rattle.elementary.proofs.Counts.{elementary_formula}

pub known_counts : (elementary_of 7 5 ≡ given 3) × (elementary_of 10 5 ≡ given 0) × (elementary_of 0 0 ≡ given 0)
    × (elementary_of 18446744073709551615 32 ≡ given 0) × (elementary_of 7 33 ≡ refused 3)
unfolding in_range formula binomial elementary_of
known_counts = (
  elementary_formula 7 5 (omega arith),
  elementary_formula 10 5 (omega arith),
  elementary_formula 0 0 (omega arith),
  elementary_formula 18446744073709551615 32 (omega arith),
  refl,
)
