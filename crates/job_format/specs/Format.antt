-- The format of a saved job, for every list of bytes: one byte as bit map, then only the fields whose bit stands, that of bit 7 first, the
-- others by rising bit. Each field is told by the number of its bit: 0 genus, 1 lowest and 2 highest multiplicity, 3 next word, 4 number
-- written so far, 5 finished mark, 7 version. Assumes nothing: these are definitions.
use Rattle.std.specs.Prelude.{ℕ, ◌+◌, Bool, cond, not, ◌&&◌, ◌||◌, List, [], ◌∷◌, eqb, leb, length, get_or, take, drop}
use Rattle.semigroups.specs.Lists.{run, every, member_of, joined, sum_over}
use Rattle.semigroups.specs.Words.{bit}
use Rattle.job_format.specs.Bytes.{bytes_of, value_of}

-- ---- bits, fields and versions

-- the number of bytes of the field of each bit, from 0 to 7: the genus and the two multiplicities have one, the next word and the number written
-- 8, the finished mark none, and the version one
abbrev pub field_widths : List ℕ
field_widths = 1 ∷ 1 ∷ 1 ∷ 8 ∷ 8 ∷ 0 ∷ 0 ∷ 1 ∷ []

-- of bit i
unfoldable pub field_width : ℕ → ℕ
field_width i = get_or field_widths i 0

-- version v has bit i: bit 4 exists from version 2 on, and bit 6 never
unfoldable pub version_has : ℕ → ℕ → Bool
version_has v i = member_of (0 ∷ 1 ∷ 2 ∷ 3 ∷ 5 ∷ 7 ∷ []) i || (eqb i 4 && leb 2 v)

-- the bits whose fields come before that of bit i: bit 7, of which the field is the first, and those below i. Up to i = 7 these are all bits
abbrev pub bits_before : ℕ → List ℕ
bits_before i = 7 ∷ run 0 i

-- the number of bytes that the field of bit i has in a job with bit map m: none where the bit does not stand
unfoldable pub field_size : ℕ → ℕ → ℕ
field_size m i = cond (bit m i) (field_width i) 0

-- where it begins: after the bit map and the fields before it
unfoldable pub field_place : ℕ → ℕ → ℕ
field_place m i = 1 + sum_over (field_size m) (bits_before i)

-- the number of bytes of a job with bit map m
abbrev pub job_length : ℕ → ℕ
job_length m = field_place m 7

-- ---- a bit map m and values of the fields, by the numbers of their bits

-- the value of the field of bit i, or what an absent field means
unfoldable pub value_or : ℕ → ℕ → (ℕ → ℕ) → ℕ → ℕ
value_or absent m value i = cond (bit m i) (value i) absent

-- its bytes in a job
abbrev pub field_bytes : ℕ → (ℕ → ℕ) → ℕ → List ℕ
field_bytes m value i = bytes_of (field_size m i) (value i)

-- the bit map and the fields before that of bit i
unfoldable pub laid_before : ℕ → (ℕ → ℕ) → ℕ → List ℕ
laid_before m value i = m ∷ joined (field_bytes m value) (bits_before i)

-- the job with this bit map and these fields
abbrev pub laid : ℕ → (ℕ → ℕ) → List ℕ
laid m value = laid_before m value 7

-- ---- the fields of a given job

-- the bit map
abbrev pub map_in : List ℕ → ℕ
map_in job = get_or job 0 0

-- the value of the field of bit i, below 7
unfoldable pub field_in : List ℕ → ℕ → ℕ
field_in job i = value_of (take (field_size (map_in job) i) (drop (field_place (map_in job) i) job))

-- is there a bit map, and where its bit 7 stands a version byte
unfoldable pub has_version : List ℕ → Bool
has_version job = leb 1 (length job) && (not (bit (map_in job) 7) || leb 2 (length job))

-- the version: the byte after the bit map, and 1 without it
unfoldable pub version_in : List ℕ → ℕ
version_in job = cond (bit (map_in job) 7) (get_or job 1 0) 1

-- the fields by the numbers of their bits, the version among them
abbrev pub fields_in : List ℕ → ℕ → ℕ
fields_in job i = cond (eqb i 7) (version_in job) (field_in job i)

-- has version v all bits that stand in m
unfoldable pub has_bits : ℕ → ℕ → Bool
has_bits v m = every (λ i. not (bit m i) || version_has v i) (run 0 8)
