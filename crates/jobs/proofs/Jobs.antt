-- What the calls of saved jobs answer, question by question. Assumes nothing.
use Prim.Native.Nat.{ℕ, ◌≤◌, ◌<◌}
use mathlib.Core.Path.{◌≡◌, refl, sym, ap, ◌∙◌}
use mathlib.Core.Bool.{Bool, true, false, not, cond, ◌&&◌}
use Rattle.std.specs.Prelude.{if◌then◌else◌, Option, Some, None, unwrap_or}
use mathlib.Core.List.{List, []}
use lib.ListN.{length}
use lib.Dec.{eqb, leb}
use native.Mathlib.Omega.{arith}
use borrow.Author.Tests.{leb-true}
use Rattle.semigroups.specs.Lists.{none, Bytes}
use Rattle.semigroups.specs.Words.{bit}
use Rattle.semigroups.proofs.Booleans.{by_value}
use Rattle.answers.specs.Answers.{Answer, refused, given, ask, unchanged, into_lent}
use Rattle.answers.proofs.Answers.{two_refused, two_given}
use Rattle.windows.specs.Windows.{window_list}
use Rattle.walk.specs.declared.Walk.{Walk}
use Rattle.walk.specs.Walks.{standing, in_order, fresh_in_of}
use Rattle.walk.proofs.Walks.{standing_in_order}
use Rattle.job_format.specs.Format.{job_length, value_or, map_in, field_in, has_version, version_in}
use Rattle.job_format.specs.Fields.{field_or_none, all_in, knows, fields_of}
use Rattle.job_format.specs.declared.Fields.{Fields}
use Rattle.job_format.proofs.Format.{byte_field, laid_length}
use Rattle.jobs.specs.Jobs.{complete, placed_by, walk_said, saved_of, saved_by, said_by, read_of, map_for, field_for, job_of, write_of}
use Rattle.jobs.specs.Private.{say, fields_say}
use Rattle.jobs.specs.declared.Saved.{Saved}

-- ---- what the fields say

-- a field that is below a bound, or what its absence means
pub value_or_lt : (absent m : ℕ) (value : ℕ → ℕ) (i k : ℕ) → absent < k → value i < k → value_or absent m value i < k
unfolding value_or
value_or_lt absent m value i k low h = by_value (bit m i) (λ e. rw e h) (λ e. rw e low)

-- the multiplicities of a list of bytes are bytes
pub said_byte : (job : List ℕ) → Bytes job → (i : ℕ) → i ≤ 2 → {absent x : ℕ} → x ≡ value_or absent (map_in job) (field_in job) i → absent < 256 → x < 256
said_byte job bytes i low {absent} e small = omega (arith, e, value_or_lt absent (map_in job) (field_in job) i 256 small (byte_field job bytes i low))

-- a walk that a call began, with a number written
abbrev pub with_written : ℕ → Answer Walk → Answer Saved
with_written n (refused k) = refused k
with_written n (given w) = given record { walk = w; written = n }

-- where the fresh walk stands, it is in order: it is refused only 3
pub fresh_saved : (g lo hi n : ℕ) → with_written n (fresh_in_of g lo hi) ≡ saved_of (standing g lo hi (window_list g lo hi)) n
unfolding fresh_in_of saved_of standing
fresh_saved g lo hi n =
    by_value (leb g 32) (λ e. rw (e, standing_in_order g lo hi [] (leb-true g 32 e) (window_list g lo hi) refl))
    (λ e. rw e)

-- values of the genus and of the window that the fields say
module _ (m : ℕ) (value : ℕ → ℕ) (g lo hi : ℕ) (genus_said : g ≡ value 0) (lowest-said : lo ≡ value_or 1 m value 1) (highest-said : hi ≡ value_or 33 m value 2) where
  -- with the finished mark, a finished walk
  pub said_finished : bit m 5 ≡ true → record { genus = g; word = 0; window = record { lowest = lo; highest = hi }; finished = true } ≡ walk_said m value
  unfolding walk_said placed_by standing none
  said_finished e = rw e (λ i. record { genus = genus_said i; word = 0; window = record { lowest = lowest-said i; highest = highest-said i }; finished = true })

  -- with a next word, a walk on it
  pub said_on_word : (x : ℕ) → x ≡ value 3 → bit m 5 ≡ false → bit m 3 ≡ true
      → record { genus = g; word = x; window = record { lowest = lo; highest = hi }; finished = false } ≡ walk_said m value
  unfolding walk_said placed_by
  said_on_word x word-said e f = rw (e, f) (λ i. record { genus = genus_said i; word = word-said i; window = record { lowest = lowest-said i; highest = highest-said i }; finished = false })

  -- with neither, the fresh walk, which is in order
  pub said_fresh : (n : ℕ) → bit m 5 ≡ false → bit m 3 ≡ false → with_written n (fresh_in_of g lo hi) ≡ saved_of (walk_said m value) n
  unfolding walk_said placed_by
  said_fresh n e f =
      ap (λ (a : Answer Walk). with_written n a) (λ i. fresh_in_of (genus_said i) (lowest-said i) (highest-said i))
      ∙ fresh_saved (value 0) (value_or 1 m value 1) (value_or 33 m value 2) n
      ∙ rw (e, f)

-- by the parts of the fields
pub fields_say_parts : (f : Fields) {genus word : Option ℕ} {finished : Bool} {lo hi n : ℕ} → f.genus ≡ genus → f.word ≡ word → f.finished ≡ finished
    → lo ≡ unwrap_or f.lowest 1 → hi ≡ unwrap_or f.highest 33 → n ≡ unwrap_or f.written 0 → say genus word finished lo hi n ≡ fields_say f
unfolding fields_say
fields_say_parts f genus word finished lo hi n = λ i. say (sym genus i) (sym word i) (sym finished i) (lo i) (hi i) (n i)

-- a field, or what its absence means
or_absent : (b : Bool) (v absent : ℕ) → unwrap_or (if b then Some v else None) absent ≡ cond b v absent
or_absent true v absent = refl
or_absent false v absent = refl

-- what fields say, by the bits for the genus, the next word and the finished mark
say_by_bits : (b c d : Bool) (g x lo hi n : ℕ) → say (if b then Some g else None) (if c then Some x else None) d lo hi n
    ≡ ask (b && not (c && d)) (refused 19)
    (saved_of (cond d (standing g lo hi [])
    (cond c record { genus = g; word = x; window = record { lowest = lo; highest = hi }; finished = false }
    (standing g lo hi (window_list g lo hi)))) n)
say_by_bits true true true g x lo hi n = refl
say_by_bits true true false g x lo hi n = refl
say_by_bits true false true g x lo hi n = refl
say_by_bits true false false g x lo hi n = refl
say_by_bits false c d g x lo hi n = refl

-- the fields of a job say what its bit map and values say
pub fields_said : (job : List ℕ) → fields_say (all_in job) ≡ said_by (map_in job) (field_in job)
unfolding fields_say all_in field_or_none said_by complete saved_by walk_said placed_by value_or
fields_said job =
    let m : ℕ = map_in job in
    (λ i. say (if bit m 0 then Some (field_in job 0) else None) (if bit m 3 then Some (field_in job 3) else None) (bit m 5)
    (or_absent (bit m 1) (field_in job 1) 1 i) (or_absent (bit m 2) (field_in job 2) 33 i) (or_absent (bit m 4) (field_in job 4) 0 i))
    ∙ say_by_bits (bit m 0) (bit m 3) (bit m 5) (field_in job 0) (field_in job 3) _ _ _

-- ---- reading

-- what the answer of reading the fields of a job says: their refusal, or what they say
abbrev pub read_by : Answer Fields → Answer Saved
read_by (refused k) = refused k
read_by (given f) = fields_say f

-- a job is read by its fields
pub read_by_fields : (r : ℕ) (job : List ℕ) → read_of r job ≡ read_by (fields_of r job)
unfolding read_of fields_of
read_by_fields r job =
    let said = sym (fields_said job) in
    by_value (has_version job)
    (λ e. by_value (knows r (version_in job) (map_in job)) (λ f. by_value (eqb (length job) (job_length (map_in job))) (λ g. rw (e, f, g) said) (λ g. rw (e, f, g)))
    (λ f. rw (e, f)))
    (λ e. rw e)

-- ---- writing

-- the length of a job
pub job_length_is : (w : Walk) (n : ℕ) → length (job_of w n) ≡ job_length (map_for w.finished)
unfolding job_of
job_length_is w n = laid_length (map_for w.finished) (field_for w n) 7

module _ (w : Walk) (n : ℕ) (lent : List ℕ) where
  -- the writer refuses a walk as the reader does
  pub write_refused : (k : ℕ) → saved_of w n ≡ refused k → write_of w n lent ≡ unchanged lent k
  unfolding saved_of write_of
  write_refused k e = two_refused 3 4 record { walk = w; written = n } (unchanged lent) (into_lent (job_of w n) lent) k (leb w.genus 32) (in_order w) e

  -- and writes the job of any other
  pub write_given : (s : Saved) → saved_of w n ≡ given s → write_of w n lent ≡ into_lent (job_of w n) lent
  unfolding saved_of write_of
  write_given s e = let (small, ordered, same) = two_given 3 4 record { walk = w; written = n } s (leb w.genus 32) (in_order w) e in rw (small, ordered)
