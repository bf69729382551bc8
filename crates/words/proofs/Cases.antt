-- Looks at known words, computed from the definitions. Assumes nothing.
use mathlib.Core.Path.{◌≡◌, refl}
use mathlib.Core.List.{[], ◌∷◌, map}
use lib.IntN.{pos, negsuc}
use Rattle.semigroups.specs.Lists.{none, run, keep, keep_if, every, last_or}
use Rattle.semigroups.specs.Sets.{sum_of_two}
use Rattle.semigroups.specs.Words.{bit, set_of, gaps, genus, largest_gap, conductor, reported_conductor, signed_largest_gap, closed}
use Rattle.semigroups.specs.Elements.{multiplicity}
use Rattle.answers.specs.Answers.{refused, given}
use Rattle.words.specs.Looks.{ask_word, report_of, look_of}

-- the looks at the words 0, 1, 5, 111, 91, 13, that of the gaps 1 to 32, and that of the gaps 1 to 33
pub known_looks : map look_of (0 ∷ 1 ∷ 5 ∷ 111 ∷ 91 ∷ 13 ∷ 4294967295 ∷ 8589934591 ∷ [])
    ≡ given (record { genus = 0; multiplicity = 1; conductor = 0; largest_gap = negsuc 0 })
    ∷ given (record { genus = 1; multiplicity = 2; conductor = 2; largest_gap = pos 1 })
    ∷ given (record { genus = 2; multiplicity = 2; conductor = 4; largest_gap = pos 3 })
    ∷ given (record { genus = 6; multiplicity = 5; conductor = 8; largest_gap = pos 7 })
    ∷ given (record { genus = 5; multiplicity = 3; conductor = 8; largest_gap = pos 7 })
    ∷ refused 2
    ∷ given (record { genus = 32; multiplicity = 33; conductor = 33; largest_gap = pos 32 })
    ∷ refused 1
    ∷ []
unfolding none run keep keep_if every last_or sum_of_two bit set_of gaps genus largest_gap conductor reported_conductor signed_largest_gap closed multiplicity ask_word report_of look_of
known_looks = refl
