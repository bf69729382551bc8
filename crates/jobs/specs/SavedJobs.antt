-- The sentences of request 2026-13 on jobs that are written and read again, for every walk and every list of bytes. Assumes nothing: these are
-- definitions.
use Rattle.std.specs.Prelude.{ℕ, ◌^◌, ◌≤◌, ◌<◌, ◌≡◌, ◌⊎◌, true, false, cond, not, List, [], ◌∷◌, length, get_or, take, drop}
use Rattle.semigroups.specs.Lists.{Bytes}
use Rattle.semigroups.specs.Words.{bit}
use Rattle.answers.specs.Answers.{refused, given, ask}
use Rattle.walk.specs.declared.Walk.{Walk}
use Rattle.walk.specs.Walks.{in_order, fresh_of}
use Rattle.job_format.specs.Format.{field_size, value_or, laid, job_length, map_in, has_version, version_in, fields_in}
use Rattle.job_format.specs.Fields.{knows}
use Rattle.jobs.specs.Jobs.{said_by, read_of, job_of, write_of}
use Rattle.jobs.specs.declared.Saved.{Saved}

-- a walk and a number written fit their types: numbers of 64 bits and bytes
pub record FitsTypes (w : Walk) (n : ℕ) : Type 0 where
  pub word : w.word < 2 ^ 64
  pub lowest : w.window.lowest < 2 ^ 8
  pub highest : w.window.highest < 2 ^ 8
  pub written : n < 2 ^ 64

-- and the walk is not refused in a batch
pub record Savable (w : Walk) (n : ℕ) : Type 0 where
  pub small : w.genus ≤ 32
  pub ordered : in_order w ≡ true
  pub fits : FitsTypes w n

pub record SavedJobs : Type 0 where
  -- a bit map with fields that fit their bytes, where they have any, is read as they say, by the reader of any version
  pub fields_read : (r m : ℕ) (value : ℕ → ℕ) → ((i : ℕ) → 0 < field_size m i → value i < 256 ^ field_size m i)
      → read_of r (laid m value) ≡ ask (knows r (value_or 1 m value 7) m) (refused 17) (said_by m value)
  -- and every list of bytes with the length that its bit map says is laid out of the fields that are read from it: no byte is left over
  pub all_read : (job : List ℕ) → Bytes job → has_version job ≡ true → length job ≡ job_length (map_in job) → laid (map_in job) (fields_in job) ≡ job
  -- an empty job, and one that ends before its version byte, is refused 18 before all
  pub no_bytes_refused : (r : ℕ) → read_of r [] ≡ refused 18
  pub ended_refused : (r m : ℕ) → bit m 7 ≡ true → read_of r (m ∷ []) ≡ refused 18
  -- a job with a genus and no other field is the fresh walk of the whole genus, with no words written
  pub genus_alone : (r g : ℕ) (w : Walk) → 1 ≤ r → g < 2 ^ 8 → fresh_of g ≡ given w → read_of r (1 ∷ g ∷ []) ≡ given record { walk = w; written = 0 }
  -- a later reader takes every version 1 job as version 1's own does, and refuses it so
  pub version_1_same : (r : ℕ) → 1 ≤ r → (job : List ℕ) → version_in job ≡ 1 → read_of r job ≡ read_of 1 job
  -- what version 1's own takes is taken so by that of version 2, and no words are written
  pub version_1_taken : (job : List ℕ) (s : Saved) → read_of 1 job ≡ given s → (read_of 2 job ≡ given s) × (s.written ≡ 0)
  -- what is written has version 2, and just the bits 0, 1, 2, 4, 7 and either 5, for a finished walk, or 3
  pub written_version : (w : Walk) (n : ℕ) → version_in (job_of w n) ≡ 2
  pub written_bits : (w : Walk) (n i : ℕ) → bit (map_in (job_of w n)) i ≡ get_or (true ∷ true ∷ true ∷ not w.finished ∷ true ∷ w.finished ∷ false ∷ true ∷ []) i false
  -- it is 13 or 21 bytes long
  pub written_length : (w : Walk) (n : ℕ) → length (job_of w n) ≡ cond w.finished 13 21
  -- it is what the call leaves in front of the lent list, of which it gives the length, and the places after it are untouched
  pub written_front : (w : Walk) (n k : ℕ) (lent : List ℕ) → (write_of w n lent).answer ≡ given k
      → (take k (write_of w n lent).list ≡ job_of w n) × (length (job_of w n) ≡ k) × (drop k (write_of w n lent).list ≡ drop k lent)
  -- a refusal, which is 3, 4 or 6, writes nothing
  pub refused_untouched : (w : Walk) (n k : ℕ) (lent : List ℕ) → (write_of w n lent).answer ≡ refused k
      → ((write_of w n lent).list ≡ lent) × ((k ≡ 3) ⊎ ((k ≡ 4) ⊎ (k ≡ 6)))
  -- it reads back as the same walk and number, for every walk that is written
  pub written_read : (w : Walk) (n k : ℕ) (lent : List ℕ) → FitsTypes w n → (write_of w n lent).answer ≡ given k
      → read_of 2 (take k (write_of w n lent).list) ≡ given record { walk = w; written = n }
  -- so that different walks or numbers have different jobs
  pub jobs_differ : (w v : Walk) (n k : ℕ) → Savable w n → Savable v k → job_of w n ≡ job_of v k → (w ≡ v) × (n ≡ k)
  -- a job of any version that is read can be written again: it is then 13 or 21 bytes long, and is read as it was
  pub read_written : (r : ℕ) (job : List ℕ) (s : Saved) (lent : List ℕ) → Bytes job → read_of r job ≡ given s → 21 ≤ length lent
      → ((write_of s.walk s.written lent).answer ≡ given (cond s.walk.finished 13 21)) × (read_of 2 (job_of s.walk s.written) ≡ given s)
