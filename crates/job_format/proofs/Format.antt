-- The format: where fields begin and end, what a version has, and that the fields a job is laid out with are those that are read from it.
-- Assumes nothing.
use Prim.Native.Nat.{ℕ, zero, suc, ◌+◌, ◌*◌, ◌^◌, ◌≤◌, ◌<◌}
use mathlib.Core.Path.{◌≡◌, refl, sym, ◌∙◌, ap, ap₂, subst}
use mathlib.Core.Logic.{◌≢◌}
use mathlib.Core.Bool.{true, false, not, ◌||◌, and-eq-true_iff}
use Rattle.std.specs.Prelude.{if◌then◌else◌, Some, None, unwrap_or, sum_by}
use Rattle.std.specs.List.{range_with_len}
use mathlib.Core.List.Memᴰ
use mathlib.Core.List.{List, [], ◌∷◌, ◌++◌, append_assoc}
use native.Mathlib.Omega.{arith}
use native.Mathlib.Decide.{ℕ_discrete, dec_lt}
use native.Mathlib.Nat.{le_of_eq, le_trans, le_dest, mod-eq_of_lt}
use lib.Dec.{ltb, leb}
use lib.ListN.{length, get_or, take, drop, length-take, get_or-eq_default}
use lib.Seq.{get_or-take, take_all, take-add, take_at, drop_at}
use borrow.Author.Tests.{ltb-true, leb-true, le-leb, ne_eqb}
use Rattle.semigroups.specs.Lists.{Bytes, run, every, member_of, joined, sum_over}
use Rattle.semigroups.specs.Words.{bit}
use Rattle.semigroups.proofs.Booleans.{by_value}
use Rattle.semigroups.proofs.Library.{run_range, sum_over_by}
use Rattle.semigroups.proofs.Lists.{every_entry, run_below, run_last, rises, joined_append, joined_last, sum_append, length_joined, sum_same}
use Rattle.job_format.specs.Bytes.{bytes_of, value_of}
use Rattle.job_format.specs.Format.{field_widths, field_width, version_has, bits_before, field_size, field_place, job_length, value_or, field_bytes, laid_before, laid, map_in, field_in, has_version, version_in, fields_in}
use Rattle.job_format.proofs.Bytes.{bytes_length, bytes_value, value_bytes, bytes_part, part_length, value_lt, fewer_bytes}

-- ---- bits and their fields

-- the genus and the two multiplicities
pub byte_bits : (v i : ℕ) → i ≤ 2 → (1 ≡ field_width i) × (true ≡ version_has v i)
unfolding field_width version_has member_of every
byte_bits v zero h = (refl, refl)
byte_bits v (suc zero) h = (refl, refl)
byte_bits v (suc (suc zero)) h = (refl, refl)
byte_bits v (suc (suc (suc i))) h = absurd (omega arith)

-- bit 6, and numbers that are no bit of a byte
pub no_bits : (v i : ℕ) → 2 < i → i ≢ 3 → i ≢ 4 → i ≢ 5 → i ≢ 7 → (0 ≡ field_width i) × (false ≡ version_has v i)
unfolding field_width version_has member_of every
no_bits v i low a b c d = (
  elim (ℕ_discrete i 6) [
    | yes e ↦ rw e refl
    | no e ↦ sym (get_or-eq_default field_widths 0 {n = i} (omega arith))
  ],
  rw (ne_eqb 0 i (λ e. omega arith), ne_eqb 1 i (λ e. omega arith), ne_eqb 2 i (λ e. omega arith), ne_eqb 3 i (λ e. a (sym e)), ne_eqb 5 i (λ e. c (sym e)), ne_eqb 7 i (λ e. d (sym e)), ne_eqb i 4 b)
      refl,
)

-- a bit that version 2 has not has no bytes
pub width_had : (i : ℕ) → unwrap_or (if version_has 2 i then Some (field_width i) else None) 0 ≡ field_width i
unfolding field_width version_has member_of every
width_had zero = refl
width_had (suc zero) = refl
width_had (suc (suc zero)) = refl
width_had (suc (suc (suc zero))) = refl
width_had (suc (suc (suc (suc zero)))) = refl
width_had (suc (suc (suc (suc (suc zero))))) = refl
width_had (suc (suc (suc (suc (suc (suc zero)))))) = refl
width_had (suc (suc (suc (suc (suc (suc (suc zero))))))) = refl
width_had (suc (suc (suc (suc (suc (suc (suc (suc i)))))))) =
    let (none, lacking) = no_bits 2 (suc (suc (suc (suc (suc (suc (suc (suc i)))))))) (omega arith) (λ e. omega arith) (λ e. omega arith) (λ e. omega arith) (λ e. omega arith) in
    rw (sym lacking) none

-- a field has at most 8 bytes
pub width_le : (i : ℕ) → field_width i ≤ 8
unfolding field_width every
width_le i = elim (dec_lt i 8) [
  | yes below ↦ leb-true (get_or field_widths i 0) 8 (every_entry (λ n. leb n 8) field_widths 0 refl i below)
  | no above ↦ le_trans (le_of_eq (get_or-eq_default field_widths 0 {n = i} (omega arith))) (omega arith)
]

-- none where its bit does not stand
size_absent : (m i : ℕ) → bit m i ≡ false → field_size m i ≡ 0
unfolding field_size
size_absent m i e = rw e

-- where it stands, just these
pub size_standing : (m i : ℕ) → bit m i ≡ true → field_size m i ≡ field_width i
unfolding field_size
size_standing m i e = rw e

-- those of bits 0 to 4 have one at least
pub size_pos : (m i : ℕ) → i < 5 → bit m i ≡ true → 0 < field_size m i
unfolding field_width every
size_pos m i low e =
    omega (arith, size_standing m i e, get_or-take 5 field_widths i 0 low, ltb-true 0 (get_or (take 5 field_widths) i 0) (every_entry (ltb 0) (take 5 field_widths) 0 refl i low))

-- a value that fits the bytes of a field fits those that it has in a job
pub fits_size : (m i v : ℕ) → v < 256 ^ field_width i → 0 < field_size m i → v < 256 ^ field_size m i
fits_size m i v fits some = by_value (bit m i) (λ e. subst (λ (n : ℕ). v < 256 ^ n) (sym (size_standing m i e)) fits) (λ e. absurd (omega (arith, size_absent m i e)))

-- no more in any job
pub size_le_width : (m i : ℕ) → field_size m i ≤ field_width i
unfolding field_size
size_le_width m i = by_value (bit m i) (λ e. rw e (omega arith)) (λ e. rw e (omega arith))

-- at most 8
pub size_le : (m i : ℕ) → field_size m i ≤ 8
size_le m i = le_trans (size_le_width m i) (width_le i)

-- ---- places

module _ (m : ℕ) where
  -- the next field begins where a field ends
  pub place_next : (i : ℕ) → field_place m (suc i) ≡ field_place m i + field_size m i
  unfolding field_place sum_over
  place_next i = rw (run_last i) (omega (arith, sum_append (field_size m) (run 0 i) (i ∷ [])))

  -- a later field begins no earlier
  pub place_within : (i j : ℕ) → i ≤ j → field_place m i ≤ field_place m j
  place_within i j h = rises (field_place m) (λ k. omega (arith, place_next k)) h

  -- a field ends before the job does
  pub field_within : (i : ℕ) → i < 7 → field_place m i + field_size m i ≤ job_length m
  field_within i h = omega (arith, place_next i, place_within (suc i) 7 h)

  -- the first of them after the bit map and the version byte
  pub place_0 : field_place m 0 ≡ 1 + field_size m 7
  unfolding field_place sum_over run
  place_0 = omega arith

  -- all after the bit map
  pub place_pos : (i : ℕ) → 0 < field_place m i
  unfolding field_place
  place_pos i = omega arith

  -- the sum of the sizes before, in the library's words
  pub place_sum : (i : ℕ) → field_place m i ≡ 1 + field_size m 7 + sum_by (field_size m) (range_with_len 0 i)
  unfolding field_place sum_over
  place_sum i = omega (arith, sum_over_by (field_size m) (run 0 i), ap (sum_by (field_size m)) (run_range 0 i))

  -- places are small numbers
  pub place_le : (i : ℕ) → field_place m i ≤ 9 + i * 8
  unfolding field_place sum_over run
  place_le zero = omega (arith, size_le m 7)
  place_le (suc i) = omega (arith, place_next i, size_le m i, place_le i)

-- ---- fields of a list of bytes

-- a field has a number of as many bytes as its width
pub field_lt : (job : List ℕ) → Bytes job → (i : ℕ) → field_in job i < 256 ^ field_width i
unfolding field_in
field_lt job h i =
    let m : ℕ = map_in job in
    let part : List ℕ = take (field_size m i) (drop (field_place m i) job) in
    let few : length part ≤ field_width i = omega (arith, length-take (field_size m i) (drop (field_place m i) job), size_le_width m i) in
    fewer_bytes (value_of part) (field_width i) (value_lt part (bytes_part (field_size m i) (field_place m i) job h)) few

-- one whose bit does not stand has no bytes, and the value 0
pub field_absent : (job : List ℕ) (i : ℕ) → bit (map_in job) i ≡ false → field_in job i ≡ 0
unfolding field_in value_of
field_absent job i e = rw (size_absent (map_in job) i e)

-- the genus and the two multiplicities are bytes
pub byte_field : (job : List ℕ) → Bytes job → (i : ℕ) → i ≤ 2 → field_in job i < 256
byte_field job h i low = subst (λ (n : ℕ). field_in job i < 256 ^ n) (sym (byte_bits 1 i low).0) (field_lt job h i)

-- ---- the version

-- a job that is as long as its version byte has a bit map
pub has_map : (job : List ℕ) → has_version job ≡ true → 1 ≤ length job
unfolding has_version
has_map job h = leb-true 1 (length job) ((and-eq-true_iff (leb 1 (length job)) (not (bit (map_in job) 7) || leb 2 (length job))).0 h).0

-- and a version byte where bit 7 stands
pub has_version_byte : (job : List ℕ) → has_version job ≡ true → bit (map_in job) 7 ≡ true → 2 ≤ length job
unfolding has_version
has_version_byte job h e = leb-true 2 (length job) (rw e at ((and-eq-true_iff (leb 1 (length job)) (not (bit (map_in job) 7) || leb 2 (length job))).0 h).1)

-- ---- jobs that are laid out

module _ (m : ℕ) (value : ℕ → ℕ) where
  -- its bit map
  pub laid_map : map_in (laid m value) ≡ m
  unfolding laid_before
  laid_map = refl

  -- more fields follow those before a bit
  pub laid_on : (i j : ℕ) → i ≤ j → (l : List ℕ) × (laid_before m value i ++ l ≡ laid_before m value j)
  unfolding laid_before
  laid_on i j h =
      let (k, e) = le_dest h in (
        joined (field_bytes m value) (run i k),
        ap (λ (l : List ℕ). m ∷ l) (sym (joined_append (field_bytes m value) (bits_before i) (run i k))) ∙ ap (λ (l : List ℕ). m ∷ joined (field_bytes m value) (7 ∷ l)) (sym (run_below i k) ∙ ap (run 0) e),
      )

  -- the next one
  pub laid_next : (i : ℕ) → laid_before m value (suc i) ≡ laid_before m value i ++ field_bytes m value i
  unfolding laid_before
  laid_next i =
      ap (λ (l : List ℕ). m ∷ joined (field_bytes m value) (7 ∷ l)) (run_last i)
      ∙ ap (λ (l : List ℕ). m ∷ l) (joined_last (field_bytes m value) (bits_before i) i)

  -- those before a bit end where its field begins
  pub laid_length : (i : ℕ) → length (laid_before m value i) ≡ field_place m i
  unfolding laid_before field_place
  laid_length i =
      let sizes : length (joined (field_bytes m value) (bits_before i)) ≡ sum_over (field_size m) (bits_before i) =
      length_joined (field_bytes m value) (bits_before i) ∙ sum_same (λ j. length (field_bytes m value j)) (field_size m) (bits_before i) (λ j h. bytes_length (field_size m j) (value j)) in
      omega (arith, sizes)

  -- the field of a bit is read from a job as it was laid out
  pub laid_field : (i : ℕ) → i < 7 → value i < 256 ^ field_size m i → field_in (laid m value) i ≡ value i
  unfolding field_in laid_before
  laid_field i below fits =
      let (l, whole) = laid_on (suc i) 7 below in
      let front : List ℕ = laid_before m value i in
      let parts : laid m value ≡ front ++ (field_bytes m value i ++ l) = sym whole ∙ ap (λ (f : List ℕ). f ++ l) (laid_next i) ∙ append_assoc front (field_bytes m value i) l in
      rw laid_map
      (ap (λ (j : List ℕ). value_of (take (field_size m i) (drop (field_place m i) j))) parts
      ∙ ap (λ (j : List ℕ). value_of (take (field_size m i) j)) (drop_at front (field_bytes m value i ++ l) (field_place m i) (laid_length i))
      ∙ ap value_of (take_at (field_bytes m value i) l (field_size m i) (bytes_length (field_size m i) (value i)))
      ∙ bytes_value (field_size m i) (value i) fits)

  -- it is as long as its version byte
  pub laid_has_version : has_version (laid m value) ≡ true
  unfolding has_version laid_before field_width
  laid_has_version =
      let long = laid_length 7 in
      let room = place_within m 0 7 (omega arith) in
      rw (le-leb 1 (length (laid m value)) (omega (arith, long, place_pos m 7)))
      (by_value (bit m 7) (λ e. rw (e, le-leb 2 (length (laid m value)) (omega (arith, long, room, place_0 m, size_standing m 7 e)))) (λ e. rw e))

  -- its version
  pub laid_version : (bit m 7 ≡ true → value 7 < 256) → version_in (laid m value) ≡ value_or 1 m value 7
  unfolding version_in value_or laid_before joined bytes_of field_size field_width
  laid_version h = by_value (bit m 7) (λ e. rw e (mod-eq_of_lt (h e))) (λ e. rw e)

-- ---- jobs of any list of bytes

-- the bit map and the version byte are in front
head_laid : (job : List ℕ) → Bytes job → has_version job ≡ true → laid_before (map_in job) (fields_in job) 0 ≡ take (1 + field_size (map_in job) 7) job
unfolding laid_before joined run field_size field_width bytes_of version_in
head_laid [] h v = absurd (omega (arith, has_map [] v))
head_laid (x ∷ []) h v = by_value (bit x 7) (λ e. absurd (omega (arith, has_version_byte (x ∷ []) v e))) (λ e. rw e refl)
head_laid (x ∷ y ∷ l) h v = by_value (bit x 7) (λ e. rw e (ap (λ (z : ℕ). x ∷ z ∷ []) (mod-eq_of_lt (h y (Memᴰ.tail (Memᴰ.head refl)))))) (λ e. rw e refl)

module _ (job : List ℕ) (bytes : Bytes job) (versioned : has_version job ≡ true) (whole : length job ≡ job_length (map_in job)) where
  -- its bit m
  abbrev m : ℕ
  m = map_in job

  -- and the fields before that of bit i
  front_laid : (i : ℕ) → i ≤ 7 → laid_before m (fields_in job) i ≡ take (field_place m i) job
  unfolding field_in
  front_laid zero h = head_laid job bytes versioned ∙ ap (λ (n : ℕ). take n job) (sym (place_0 m))
  front_laid (suc i) h =
      let size : ℕ = field_size m i in
      let part : List ℕ = take size (drop (field_place m i) job) in
      laid_next m (fields_in job) i
      ∙ ap₂ ◌++◌ (front_laid i (omega arith))
      (rw (ne_eqb i 7 (λ e. omega arith))
      (ap (λ (n : ℕ). bytes_of n (value_of part)) (sym (part_length (field_place m i) size job (omega (arith, whole, field_within m i h))))
      ∙ value_bytes part (bytes_part size (field_place m i) job bytes)))
      ∙ sym (ap (λ (n : ℕ). take n job) (place_next m i) ∙ take-add (field_place m i) size job)

  -- so that it is laid out of its fields
  pub job_laid : laid m (fields_in job) ≡ job
  job_laid = front_laid 7 (omega arith) ∙ take_all (job_length m) job (le_of_eq whole)
