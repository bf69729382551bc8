-- Jobs of which the bytes and the fields are known, computed. Assumes nothing.
use Prim.Native.Nat.{ℕ}
use mathlib.Core.Path.{◌≡◌, refl}
use mathlib.Core.List.{List, [], ◌∷◌}
use Rattle.std.specs.Prelude.{false, Some, None}
use lib.ListN.{get_or}
use Rattle.semigroups.specs.Lists.{run, every, member_of, joined, sum_over}
use Rattle.semigroups.specs.Words.{bit}
use Rattle.answers.specs.Answers.{refused, given}
use Rattle.job_format.specs.Bytes.{bytes_of, value_of}
use Rattle.job_format.specs.Format.{field_width, version_has, field_size, field_place, laid_before, laid, field_in, has_version, version_in, has_bits}
use Rattle.job_format.specs.Fields.{field_or_none, all_in, knows, fields_of}

-- the job of version 2 with genus 15, highest multiplicity 40, next word 0x7fff and 0x0102030405060708 words written
abbrev sample : List ℕ
sample = 0x9d ∷ 2 ∷ 15 ∷ 40 ∷ 0xff ∷ 0x7f ∷ 0 ∷ 0 ∷ 0 ∷ 0 ∷ 0 ∷ 0 ∷ 8 ∷ 7 ∷ 6 ∷ 5 ∷ 4 ∷ 3 ∷ 2 ∷ 1 ∷ []

-- it is laid out of its fields, where a lowest multiplicity of 3 has no bytes, and they are read from it
pub known_layout :
    (laid 0x9d (λ i. get_or (15 ∷ 3 ∷ 40 ∷ 0x7fff ∷ 0x0102030405060708 ∷ 0 ∷ 0 ∷ 2 ∷ []) i 0) ≡ sample)
    × (fields_of 2 sample ≡ given record { map = 0x9d; genus = Some 15; lowest = None; highest = Some 40; word = Some 0x7fff; written = Some 0x0102030405060708; finished = false })
unfolding laid_before joined bytes_of fields_of has_version version_in knows has_bits version_has member_of every run field_place sum_over field_size field_width bit all_in field_or_none field_in value_of
known_layout = (refl, refl)

-- refused jobs: an empty one; a bit map with bit 7 alone; version 3; bit 4 in version 1 and bit 6 in version 2; a byte too few and one too many
pub known_format_refusals :
    (fields_of 2 [] ≡ refused 18) × (fields_of 2 (0x80 ∷ []) ≡ refused 18) × (fields_of 2 (0x80 ∷ 3 ∷ []) ≡ refused 17) × (fields_of 2 (0x10 ∷ []) ≡ refused 17)
    × (fields_of 2 (0xc1 ∷ 2 ∷ 4 ∷ []) ≡ refused 17) × (fields_of 2 (0x01 ∷ []) ≡ refused 18) × (fields_of 2 (0x01 ∷ 4 ∷ 0 ∷ []) ≡ refused 18)
unfolding fields_of has_version version_in knows has_bits version_has member_of every run field_place sum_over field_size field_width bit
known_format_refusals = (refl, refl, refl, refl, refl, refl, refl)
