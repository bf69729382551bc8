-- What the call that reads the fields of a job answers, for every list of bytes. Assumes nothing: these are definitions.
use Rattle.std.specs.Prelude.{ℕ, Bool, ◌&&◌, if◌then◌else◌, List, eqb, leb, length, Option, Some, None}
use Rattle.semigroups.specs.Words.{bit}
use Rattle.answers.specs.Answers.{Answer, refused, given, ask}
use Rattle.job_format.specs.Format.{job_length, map_in, field_in, has_version, version_in, has_bits}
use Rattle.job_format.specs.declared.Fields.{Fields}

-- the value of the field of bit i, where the bit stands
unfoldable pub field_or_none : List ℕ → ℕ → Option ℕ
field_or_none job i = if bit (map_in job) i then Some (field_in job i) else None

-- the bit map and the fields of a job, and whether the finished mark stands
unfoldable pub all_in : List ℕ → Fields
all_in job = record {
  map = map_in job;
  genus = field_or_none job 0;
  lowest = field_or_none job 1;
  highest = field_or_none job 2;
  word = field_or_none job 3;
  written = field_or_none job 4;
  finished = bit (map_in job) 5;
}

-- the reader of version r knows version v, which has all bits of m
unfoldable pub knows : ℕ → ℕ → ℕ → Bool
knows r v m = leb 1 v && leb v r && has_bits v m

-- what the reader of version r makes of the bytes of a job, for every list of bytes. The questions in their order: 18, is there a bit map, and
-- where it says so a version; 17, is the version from 1 to r, and has it all bits; 18, are there just the bytes of the fields
unfoldable pub fields_of : ℕ → List ℕ → Answer Fields
fields_of r job =
    ask (has_version job) (refused 18)
    (ask (knows r (version_in job) (map_in job)) (refused 17)
    (ask (eqb (length job) (job_length (map_in job))) (refused 18)
    (given (all_in job))))
