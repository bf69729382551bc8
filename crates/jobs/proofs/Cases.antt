-- Jobs of which the bytes and the answers are known, computed. Assumes nothing.
use mathlib.Core.Path.{◌≡◌, refl}
use mathlib.Core.Bool.{true, false}
use mathlib.Core.List.{[], ◌∷◌}
use Rattle.semigroups.specs.Lists.{run, every, member_of, joined, sum_over, none}
use Rattle.semigroups.specs.Words.{bit, digit, of_bits}
use Rattle.answers.specs.Answers.{refused, given}
use Rattle.walk.specs.Walks.{standing, in_order}
use Rattle.job_format.specs.Bytes.{bytes_of, value_of}
use Rattle.job_format.specs.Format.{field_width, version_has, field_size, field_place, value_or, laid_before, field_in, has_version, version_in, has_bits}
use Rattle.job_format.specs.Fields.{knows}
use Rattle.jobs.specs.Jobs.{complete, placed_by, walk_said, saved_of, saved_by, said_by, read_of, map_for, field_for, job_of}

-- the job of the walk of genus 15 on the word 0x7fff in the window from 3 to 40 with 0x0102030405060708 words written, and of a finished one
pub known_jobs :
    (job_of record { genus = 15; word = 0x7fff; window = record { lowest = 3; highest = 40 }; finished = false } 0x0102030405060708
    ≡ 0x9f ∷ 2 ∷ 15 ∷ 3 ∷ 40 ∷ 0xff ∷ 0x7f ∷ 0 ∷ 0 ∷ 0 ∷ 0 ∷ 0 ∷ 0 ∷ 8 ∷ 7 ∷ 6 ∷ 5 ∷ 4 ∷ 3 ∷ 2 ∷ 1 ∷ [])
    × (job_of record { genus = 15; word = 0; window = record { lowest = 3; highest = 40 }; finished = true } 256 ≡ 0xb7 ∷ 2 ∷ 15 ∷ 3 ∷ 40 ∷ 0 ∷ 1 ∷ 0 ∷ 0 ∷ 0 ∷ 0 ∷ 0 ∷ 0 ∷ [])
unfolding job_of laid_before joined run field_size field_width bit bytes_of map_for of_bits digit field_for
known_jobs = (refl, refl)

-- refused jobs: an empty one; a bit map with bit 7 alone; version 3; bit 4 in version 1 and bit 6 in version 2; a byte too few and one too many;
-- a byte too few and no genus; no genus; a next word of a finished walk; genus 33
pub known_refusals :
    (read_of 2 [] ≡ refused 18) × (read_of 2 (0x80 ∷ []) ≡ refused 18) × (read_of 2 (0x80 ∷ 3 ∷ []) ≡ refused 17) × (read_of 2 (0x10 ∷ []) ≡ refused 17)
    × (read_of 2 (0xc1 ∷ 2 ∷ 4 ∷ []) ≡ refused 17) × (read_of 2 (0x01 ∷ []) ≡ refused 18) × (read_of 2 (0x01 ∷ 4 ∷ 0 ∷ []) ≡ refused 18) × (read_of 2 (0x02 ∷ []) ≡ refused 18)
    × (read_of 2 (0x02 ∷ 1 ∷ []) ≡ refused 19) × (read_of 2 (0x29 ∷ 1 ∷ 1 ∷ 0 ∷ 0 ∷ 0 ∷ 0 ∷ 0 ∷ 0 ∷ 0 ∷ []) ≡ refused 19)
    × (read_of 2 (0x21 ∷ 33 ∷ []) ≡ refused 3)
unfolding read_of has_version version_in knows has_bits version_has member_of every run field_place sum_over field_size field_width bit said_by saved_by complete saved_of walk_said placed_by standing none field_in value_of value_or
known_refusals = (refl, refl, refl, refl, refl, refl, refl, refl, refl, refl, refl)

-- a finished job of version 1 without its version byte and with it: the window is from 1 to 33, and no words are written
pub known_version_1 :
    (read_of 1 (0x21 ∷ 4 ∷ []) ≡ given record { walk = record { genus = 4; word = 0; window = record { lowest = 1; highest = 33 }; finished = true }; written = 0 })
    × (read_of 2 (0xa1 ∷ 1 ∷ 4 ∷ []) ≡ given record { walk = record { genus = 4; word = 0; window = record { lowest = 1; highest = 33 }; finished = true }; written = 0 })
unfolding read_of has_version version_in knows has_bits version_has member_of every run field_place sum_over field_size field_width bit said_by saved_by complete saved_of walk_said placed_by standing none in_order field_in value_of value_or
known_version_1 = (refl, refl)
