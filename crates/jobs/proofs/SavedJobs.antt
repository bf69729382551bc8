-- Request 2026-13: jobs that are written and read again. Assumes nothing.
use Prim.Native.Nat.{ℕ, zero, suc, ◌^◌, ◌≤◌, ◌<◌}
use mathlib.Core.Path.{◌≡◌, refl, sym, ◌∙◌, ap, ap₂, subst}
use mathlib.Core.Logic.{◌⊎◌}
use mathlib.Core.Bool.{Bool, true, false, cond, not, ◌&&◌, ◌||◌, and-eq-true_iff}
use mathlib.Core.List.{List, [], ◌∷◌}
use native.Mathlib.Omega.{arith}
use native.Mathlib.Nat.{one-le-pow, mod-eq_of_lt}
use lib.Dec.{eqb, leb}
use lib.ListN.{length, get_or, take, drop}
use borrow.Author.Tests.{leb-true, eqb-true, le-leb, eq-eqb}
use Rattle.semigroups.specs.Lists.{Bytes, run, every, member_of, joined, sum_over, none}
use Rattle.semigroups.specs.Words.{bit, digit, of_bits}
use Rattle.semigroups.proofs.Bits.{bit_of_bits}
use Rattle.semigroups.proofs.Booleans.{by_value, is_false, not_both}
use Rattle.semigroups.proofs.Lists.{mem_run, every_mem, fronted_front, fronted_rest}
use Rattle.answers.specs.Answers.{refused, given, ask}
use Rattle.answers.proofs.Answers.{ask_given, two_given, tests_given, tests_refused, lent_enough}
use Rattle.windows.proofs.Windows.{first_fits}
use Rattle.walk.specs.declared.Walk.{Walk}
use Rattle.walk.specs.Walks.{standing, in_order, fresh_of}
use Rattle.job_format.specs.Bytes.{bytes_of}
use Rattle.job_format.specs.Format.{field_width, version_has, field_size, field_place, value_or, laid_before, laid, job_length, map_in, field_in, has_version, version_in, has_bits}
use Rattle.job_format.specs.Fields.{knows}
use Rattle.job_format.proofs.Format.{size_standing, size_pos, fits_size, laid_map, laid_field, laid_length, laid_has_version, laid_version, job_laid, field_lt}
use Rattle.jobs.specs.Jobs.{complete, placed_by, walk_said, saved_of, saved_by, said_by, read_of, map_for, field_for, job_of, write_of}
use Rattle.jobs.specs.SavedJobs.{FitsTypes, Savable, SavedJobs}
use Rattle.jobs.specs.declared.Saved.{Saved}
use Rattle.jobs.proofs.Jobs.{value_or_lt, with_written, fresh_saved, job_length_is}

-- ---- fields that are read

-- fields that agree where their bits stand say the same
module _ (m : ℕ) (value other : ℕ → ℕ) (agree : (i : ℕ) → i < 5 → bit m i ≡ true → value i ≡ other i) where
  -- a field or what its absence means
  same_or : (absent i : ℕ) → i < 5 → value_or absent m value i ≡ value_or absent m other i
  unfolding value_or
  same_or absent i h = by_value (bit m i) (λ e. rw e (agree i h e)) (λ e. rw e)

  -- the walk
  same_walk : bit m 0 ≡ true → walk_said m value ≡ walk_said m other
  unfolding walk_said placed_by
  same_walk g =
      let window : (x : ℕ) → placed_by m x (value 0) (value_or 1 m value 1) (value_or 33 m value 2) ≡ placed_by m x (other 0) (value_or 1 m other 1) (value_or 33 m other 2) =
      λ x i. placed_by m x (agree 0 (omega arith) g i) (same_or 1 1 (omega arith) i) (same_or 33 2 (omega arith) i) in
      window (value 3) ∙ by_value (bit m 3) (λ e. ap (λ (x : ℕ). placed_by m x (other 0) (value_or 1 m other 1) (value_or 33 m other 2)) (agree 3 (omega arith) e)) (λ e. rw e)

  -- all of it
  same_said : said_by m value ≡ said_by m other
  unfolding said_by saved_by complete
  same_said = by_value (bit m 0) (λ e. rw e (ap (ask (not (bit m 3 && bit m 5)) (refused 19)) (ap₂ saved_of (same_walk e) (same_or 0 4 (omega arith))))) (λ e. rw e)

-- a bit map with fields that fit their bytes is read as they say
fields_read : (r m : ℕ) (value : ℕ → ℕ) → ((i : ℕ) → 0 < field_size m i → value i < 256 ^ field_size m i)
    → read_of r (laid m value) ≡ ask (knows r (value_or 1 m value 7) m) (refused 17) (said_by m value)
unfolding read_of field_width
fields_read r m value fits =
    let version : bit m 7 ≡ true → value 7 < 256 = λ e. let one = size_standing m 7 e in subst (λ (n : ℕ). value 7 < 256 ^ n) one (fits 7 (omega (arith, one))) in
    let reads : (i : ℕ) → i < 5 → bit m i ≡ true → field_in (laid m value) i ≡ value i = λ i h e. laid_field m value i (omega arith) (fits i (size_pos m i h e)) in
    rw (laid_has_version m value, laid_version m value version, laid_map m value, eq-eqb (length (laid m value)) (job_length m) (laid_length m value 7))
    (ap (ask (knows r (value_or 1 m value 7) m) (refused 17)) (same_said m (field_in (laid m value)) value reads))

-- ---- the shortest jobs

-- a genus alone is the fresh walk of the genus
genus_alone : (r g : ℕ) (w : Walk) → 1 ≤ r → g < 2 ^ 8 → fresh_of g ≡ given w → read_of r (1 ∷ g ∷ []) ≡ given record { walk = w; written = 0 }
unfolding laid_before joined run field_size field_width bytes_of bit knows has_bits version_has member_of every value_or said_by saved_by complete walk_said placed_by fresh_of
genus_alone r g w later small e =
    ap (λ (b : ℕ). read_of r (1 ∷ b ∷ [])) (sym (mod-eq_of_lt small))
    ∙ fields_read r 1 (λ i. get_or (g ∷ []) i 0) (λ i. fits_size 1 i (get_or (g ∷ []) i 0) (fits i))
    ∙ rw (le-leb 1 r later) (sym (fresh_saved g 1 33 0) ∙ ap (with_written 0) e)
  where
    fits : (i : ℕ) → get_or (g ∷ []) i 0 < 256 ^ field_width i
    fits zero = small
    fits (suc i) = one-le-pow (field_width (suc i)) 256 (omega arith)

-- an empty job, and one that ends before its version byte
no_bytes_refused : (r : ℕ) → read_of r [] ≡ refused 18
unfolding read_of has_version
no_bytes_refused r = refl

ended_refused : (r m : ℕ) → bit m 7 ≡ true → read_of r (m ∷ []) ≡ refused 18
unfolding read_of has_version
ended_refused r m e = rw e

-- ---- versions

-- a later reader takes a version 1 job as the reader of version 1 does
version_1_same : (r : ℕ) → 1 ≤ r → (job : List ℕ) → version_in job ≡ 1 → read_of r job ≡ read_of 1 job
unfolding read_of knows
version_1_same r h job e = rw (e, le-leb 1 r h)

-- what a reader takes passed its questions
read_given : (r : ℕ) (job : List ℕ) (s : Saved) → read_of r job ≡ given s
    → (has_version job ≡ true) × (knows r (version_in job) (map_in job) ≡ true) × (said_by (map_in job) (field_in job) ≡ given s)
unfolding read_of
read_given r job s e =
    let (versioned, after-version) = ask_given 18 (has_version job) _ s e in
    let (known, after-bits) = ask_given 17 (knows r (version_in job) (map_in job)) _ s after-version in
    let (whole, said) = ask_given 18 (eqb (length job) (job_length (map_in job))) _ s after-bits in
    (versioned, known, said)

-- what fields say
said_given : (m : ℕ) (value : ℕ → ℕ) (s : Saved) → said_by m value ≡ given s
    → ((walk_said m value).genus ≤ 32) × (in_order (walk_said m value) ≡ true) × (record { walk = walk_said m value; written = value_or 0 m value 4 } ≡ s)
unfolding said_by saved_by saved_of
said_given m value s e =
    let w : Walk = walk_said m value in
    let (all, saved) = ask_given 19 (complete m) _ s e in
    let (small, ordered, same) = two_given 3 4 record { walk = w; written = value_or 0 m value 4 } s (leb w.genus 32) (in_order w) saved in
    (leb-true w.genus 32 small, ordered, same)

-- version 1 has no bit 4
lacks_4 : (m : ℕ) → has_bits 1 m ≡ true → bit m 4 ≡ false
unfolding has_bits version_has member_of every
lacks_4 m h =
    let had : (not (bit m 4) || version_has 1 4) ≡ true = every_mem (λ i. not (bit m i) || version_has 1 i) (run 0 8) h (mem_run 0 8 (omega arith) (omega arith)) in
    is_false (bit m 4) (λ e. not_both {b = false} (rw e at had) refl)

-- the reader of version 1 takes version 1 jobs, which have no number written
version_1_taken : (job : List ℕ) (s : Saved) → read_of 1 job ≡ given s → (read_of 2 job ≡ given s) × (s.written ≡ 0)
unfolding knows value_or
version_1_taken job s e =
    let m : ℕ = map_in job in
    let v : ℕ = version_in job in
    let (versioned, known, said) = read_given 1 job s e in
    let (range, bits) = (and-eq-true_iff (leb 1 v && leb v 1) (has_bits v m)).0 known in
    let (low, high) = (and-eq-true_iff (leb 1 v) (leb v 1)).0 range in
    let one : v ≡ 1 = omega (arith, leb-true 1 v low, leb-true v 1 high) in
    let lacking : bit m 4 ≡ false = lacks_4 m (subst (λ (u : ℕ). has_bits u m ≡ true) one bits) in
    (version_1_same 2 (omega arith) job one ∙ e, sym (ap (λ (t : Saved). t.written) (said_given m (field_in job) s said).2) ∙ rw lacking)

-- ---- what is written

-- its bits
written_bits : (w : Walk) (n i : ℕ) → bit (map_in (job_of w n)) i ≡ get_or (true ∷ true ∷ true ∷ not w.finished ∷ true ∷ w.finished ∷ false ∷ true ∷ []) i false
unfolding job_of laid_before map_for
written_bits w n i = bit_of_bits (true ∷ true ∷ true ∷ not w.finished ∷ true ∷ w.finished ∷ false ∷ true ∷ []) i

-- its version
written_version : (w : Walk) (n : ℕ) → version_in (job_of w n) ≡ 2
unfolding job_of field_for value_or map_for of_bits digit bit
written_version w n = laid_version (map_for w.finished) (field_for w n) (λ e. omega arith) ∙ by_finished w.finished
  where
    by_finished : (f : Bool) → ◌≡◌ {A = ℕ} (cond (bit (map_for f) 7) 2 1) 2
    by_finished true = refl
    by_finished false = refl

-- its length
written_length : (w : Walk) (n : ℕ) → length (job_of w n) ≡ cond w.finished 13 21
unfolding field_place sum_over run field_size field_width bit map_for of_bits digit
written_length w n = job_length_is w n ∙ by_finished w.finished
  where
    by_finished : (f : Bool) → job_length (map_for f) ≡ cond f 13 21
    by_finished true = refl
    by_finished false = refl

-- its fields fit their bytes
fields_fit : (w : Walk) (n : ℕ) → Savable w n → (i : ℕ) → field_for w n i < 256 ^ field_width i
unfolding field_for field_width
fields_fit w n h zero = omega (arith, h.small)
fields_fit w n h (suc zero) = h.fits.lowest
fields_fit w n h (suc (suc zero)) = h.fits.highest
fields_fit w n h (suc (suc (suc zero))) = h.fits.word
fields_fit w n h (suc (suc (suc (suc zero)))) = h.fits.written
fields_fit w n h (suc (suc (suc (suc (suc zero))))) = omega arith
fields_fit w n h (suc (suc (suc (suc (suc (suc zero)))))) = omega arith
fields_fit w n h (suc (suc (suc (suc (suc (suc (suc zero))))))) = omega arith
fields_fit w n h (suc (suc (suc (suc (suc (suc (suc (suc i)))))))) = omega arith

-- a version 2 reader knows its bits, and they say the walk and the number
written_says : (g x lo hi : ℕ) (f : Bool) (n : ℕ) → let w : Walk = record { genus = g; word = x; window = record { lowest = lo; highest = hi }; finished = f } in Savable w n
    → ask (knows 2 (value_or 1 (map_for f) (field_for w n) 7) (map_for f)) (refused 17) (said_by (map_for f) (field_for w n)) ≡ given record { walk = w; written = n }
unfolding knows has_bits version_has member_of every run map_for of_bits digit bit value_or field_for said_by saved_by complete saved_of walk_said placed_by standing none in_order
written_says g x lo hi true n h =
    rw (le-leb g 32 h.small)
    (ap (λ (y : ℕ). given record { walk = record { genus = g; word = y; window = record { lowest = lo; highest = hi }; finished = true }; written = n }) (sym (eqb-true x 0 h.ordered)))
written_says g x lo hi false n h = rw (le-leb g 32 h.small, h.ordered)

-- it reads back as the same walk and number
job_read : (w : Walk) (n : ℕ) → Savable w n → read_of 2 (job_of w n) ≡ given record { walk = w; written = n }
unfolding job_of
job_read w n h =
    fields_read 2 (map_for w.finished) (field_for w n) (λ i. fits_size (map_for w.finished) i (field_for w n i) (fields_fit w n h i)) ∙ written_says w.genus w.word w.window.lowest w.window.highest w.finished n h

-- so that different walks or numbers have different jobs
jobs_differ : (w v : Walk) (n k : ℕ) → Savable w n → Savable v k → job_of w n ≡ job_of v k → (w ≡ v) × (n ≡ k)
jobs_differ w v n k h g e =
    let s : Saved = record { walk = w; written = n } in
    let t : Saved = record { walk = v; written = k } in
    let read : given s ≡ given t = sym (job_read w n h) ∙ ap (read_of 2) e ∙ job_read v k g in
    let same : s ≡ t = cc in
    (ap (λ (u : Saved). u.walk) same, ap (λ (u : Saved). u.written) same)

-- ---- the lent list

-- the job is in front of it, and the places after it are untouched
written_front : (w : Walk) (n k : ℕ) (lent : List ℕ) → (write_of w n lent).answer ≡ given k
    → (take k (write_of w n lent).list ≡ job_of w n) × (length (job_of w n) ≡ k) × (drop k (write_of w n lent).list ≡ drop k lent)
unfolding write_of
written_front w n k lent e =
    let job : List ℕ = job_of w n in
    let (small, ordered, count, list) = tests_given 3 4 6 job lent k (leb w.genus 32) (in_order w) (leb (length job) (length lent)) e in (
      ap₂ take count list ∙ fronted_front job lent,
      sym count,
      ap₂ drop count list ∙ fronted_rest job lent ∙ ap (λ (j : ℕ). drop j lent) (sym count),
    )

-- it is read from there
written_read : (w : Walk) (n k : ℕ) (lent : List ℕ) → FitsTypes w n → (write_of w n lent).answer ≡ given k
    → read_of 2 (take k (write_of w n lent).list) ≡ given record { walk = w; written = n }
unfolding write_of
written_read w n k lent fits e =
    let job : List ℕ = job_of w n in
    let (small, ordered, count, list) = tests_given 3 4 6 job lent k (leb w.genus 32) (in_order w) (leb (length job) (length lent)) e in
    ap (read_of 2) (written_front w n k lent e).0 ∙ job_read w n record { small = leb-true w.genus 32 small; ordered = ordered; fits = fits }

-- a refusal writes nothing
refused_untouched : (w : Walk) (n k : ℕ) (lent : List ℕ) → (write_of w n lent).answer ≡ refused k
    → ((write_of w n lent).list ≡ lent) × ((k ≡ 3) ⊎ ((k ≡ 4) ⊎ (k ≡ 6)))
unfolding write_of
refused_untouched w n k lent e = tests_refused 3 4 6 (job_of w n) lent k (leb w.genus 32) (in_order w) (leb (length (job_of w n)) (length lent)) e

-- ---- what is read can be written again

-- a walk that fields say fits where they do
module _ (m : ℕ) (value : ℕ → ℕ) (lowest-fits : value 1 < 2 ^ 8) (highest-fits : value 2 < 2 ^ 8) (word_fits : value 3 < 2 ^ 64) where
  -- the word and the bounds of the walk
  said_fits : let w : Walk = walk_said m value in (w.word < 2 ^ 64) × (w.window.lowest < 2 ^ 8) × (w.window.highest < 2 ^ 8)
  unfolding walk_said placed_by standing
  said_fits =
      let low = value_or_lt 1 m value 1 (2 ^ 8) (omega arith) lowest-fits in
      let high = value_or_lt 33 m value 2 (2 ^ 8) (omega arith) highest-fits in
      by_value (bit m 5) (λ e. rw e (omega arith, low, high))
      (λ e. by_value (bit m 3) (λ f. rw (e, f) (word_fits, low, high)) (λ f. rw (e, f) (first_fits (value 0) (value_or 1 m value 1) (value_or 33 m value 2), low, high)))

-- a walk that is read is not refused by the writer
read_savable : (r : ℕ) (job : List ℕ) (s : Saved) → Bytes job → read_of r job ≡ given s → Savable s.walk s.written
unfolding field_width
read_savable r job s bytes e =
    let m : ℕ = map_in job in
    let (versioned, known, said) = read_given r job s e in
    let (small, ordered, same) = said_given m (field_in job) s said in
    let (word, lowest, highest) = said_fits m (field_in job) (field_lt job bytes 1) (field_lt job bytes 2) (field_lt job bytes 3) in
    let written = value_or_lt 0 m (field_in job) 4 (2 ^ 64) (omega arith) (field_lt job bytes 4) in
    subst (λ (t : Saved). Savable t.walk t.written) same
    record { small = small; ordered = ordered; fits = record { word = word; lowest = lowest; highest = highest; written = written } }

-- it is then 13 or 21 bytes long, and is read as it was
read_written : (r : ℕ) (job : List ℕ) (s : Saved) (lent : List ℕ) → Bytes job → read_of r job ≡ given s → 21 ≤ length lent
    → ((write_of s.walk s.written lent).answer ≡ given (cond s.walk.finished 13 21)) × (read_of 2 (job_of s.walk s.written) ≡ given s)
unfolding write_of
read_written r job s lent bytes e room =
    let w : Walk = s.walk in
    let n : ℕ = s.written in
    let h = read_savable r job s bytes e in
    let long = written_length w n in (
      rw (le-leb w.genus 32 h.small, h.ordered, lent_enough (job_of w n) lent (omega (arith, long, at_most w.finished))) (ap given long),
      job_read w n h,
    )
  where
    at_most : (f : Bool) → cond f 13 21 ≤ 21
    at_most true = omega arith
    at_most false = omega arith

-- the sentences of the request
pub saved_jobs : SavedJobs
saved_jobs = record {
  fields_read = fields_read;
  all_read = job_laid;
  no_bytes_refused = no_bytes_refused;
  ended_refused = ended_refused;
  genus_alone = genus_alone;
  version_1_same = version_1_same;
  version_1_taken = version_1_taken;
  written_version = written_version;
  written_bits = written_bits;
  written_length = written_length;
  written_front = written_front;
  refused_untouched = refused_untouched;
  written_read = written_read;
  jobs_differ = jobs_differ;
  read_written = read_written;
}
