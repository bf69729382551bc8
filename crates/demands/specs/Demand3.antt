-- Demand 3, as one claim over any list of batches from a fresh walk, in a window of multiplicities or over the whole genus. Assumes
-- nothing: these are definitions.
use Rattle.std.specs.Prelude.{ℕ, ◌+◌, ◌≤◌, min, ◌≡◌, ◌↔◌, true, List, [], ◌∷◌, ◌++◌, map, length, take, drop}
use Rattle.semigroups.specs.Lists.{joined}
use Rattle.semigroups.specs.GenusList.{genus_list, AllOfGenus}
use Rattle.answers.specs.Answers.{Answer, refused, given}
use Rattle.windows.specs.Windows.{window_list, AllInWindow}
use Rattle.counts.specs.Counts.{count_of}
use Rattle.walk.specs.declared.Written.{Written}
use Rattle.walk.specs.Walks.{Ending, fresh_of, fresh_in_of, batch_of}
use Rattle.walk.specs.declared.Walk.{Walk}

-- the calls of which the demand speaks
pub record Atlas : Type 0 where
  pub fresh : ℕ → Answer Walk
  pub fresh_in : ℕ → ℕ → ℕ → Answer Walk
  pub batch : Walk → List ℕ → Ending
  pub count : ℕ → ℕ → Answer ℕ

-- this one's
abbrev pub atlas : Atlas
atlas = record { fresh = fresh_of; fresh_in = fresh_in_of; batch = batch_of; count = count_of }

-- ---- a list of batches

-- a batch call: the list as it was lent, and how the call ended
pub record Call : Type 0 where
  pub lent : List ℕ
  pub ending : Ending

abbrev pub call : Atlas → Walk → List ℕ → Call
call A w lent = record { lent = lent; ending = A.batch w lent }

-- a batch for each lent list, each with the walk as the call before left it
unfoldable pub batches : Atlas → Walk → List (List ℕ) → List Call
batches A w [] = []
batches A w (lent ∷ lents) = call A w lent ∷ batches A (call A w lent).ending.walk lents

-- how many words an answer reports
unfoldable pub reported_count : Answer Written → ℕ
reported_count (refused n) = 0
reported_count (given r) = r.count

-- the words that a batch wrote: those at the front of its lent list when it ends, as many as it reports
unfoldable pub wrote : Call → List ℕ
wrote c = take (reported_count c.ending.answer) c.ending.list

-- the lengths of the lent lists, summed
unfoldable pub lengths : List Call → ℕ
lengths [] = 0
lengths (c ∷ calls) = length c.lent + lengths calls

-- after these calls, N is the lesser of the summed lengths so far and the number of numerical semigroups whose words l lists
unfoldable pub N : List ℕ → List Call → ℕ
N l calls = min (lengths calls) (length l)

-- ---- the claim

-- what holds after the call c, which came after the calls `before`, of a walk that is to list l, where finished compares with `number`
pub record AfterCall (l : List ℕ) (number : ℕ) (before : List Call) (c : Call) : Type 0 where
  -- none of these batches is refused
  pub report : Written
  pub answered : c.ending.answer ≡ given report
  -- the words written so far, joined in call order, are the first N
  pub words : joined wrote (before ++ c ∷ []) ≡ take (N l (before ++ c ∷ [])) l
  -- each call reports how many it wrote, which is what N grew by
  pub grown : N l before + report.count ≡ N l (before ++ c ∷ [])
  -- and leaves the rest of its list untouched
  pub untouched : drop report.count c.ending.list ≡ drop report.count c.lent
  pub same_length : length c.ending.list ≡ length c.lent
  -- it says finished exactly when N equals the number
  pub finished : (report.finished ≡ true) ↔ (N l (before ++ c ∷ []) ≡ number)

-- the demand for a call that begins a walk and gave this answer, whose walk is to list l, and any lists, lent one to each batch
pub record Demanded (A : Atlas) (answer : Answer Walk) (l : List ℕ) (number : ℕ) (lents : List (List ℕ)) : Type 0 where
  -- the call answers
  pub fresh : Walk
  pub fresh_answers : answer ≡ given fresh
  -- before the first batch, N is 0
  pub start : N l [] ≡ 0
  -- after each of the batches, one for each lent list in their order
  pub lent_each : map (λ c. c.lent) (batches A fresh lents) ≡ lents
  pub each : (before after : List Call) (c : Call) → batches A fresh lents ≡ before ++ c ∷ after → AfterCall l number before c
  -- the number is how many there are
  pub how_many : number ≡ length l

-- from the fresh call with a window, for a genus g: finished compares with the number of the semigroups of the window
pub record DemandedInWindow (A : Atlas) (g lo hi : ℕ) (lents : List (List ℕ)) : Type 0 where
  pub demanded : Demanded A (A.fresh_in g lo hi) (window_list g lo hi) (length (window_list g lo hi)) lents
  -- the list, whose first N are written, is that of all numerical semigroups of genus g with a multiplicity from lo to hi
  pub list : AllInWindow g lo hi (window_list g lo hi)

-- from the fresh call without a window, for a genus g: finished compares with the count call's number for word 0
pub record DemandedOfGenus (A : Atlas) (g : ℕ) (lents : List (List ℕ)) : Type 0 where
  pub number : ℕ
  pub count_answers : A.count 0 g ≡ given number
  pub demanded : Demanded A (A.fresh g) (genus_list g) number lents
  -- the genus list, whose first N are written, is that of all numerical semigroups of genus g
  pub list : AllOfGenus g (genus_list g)

-- for any genus from 0 to 32, any two bytes and any list of batches, from either fresh call
pub record Demand3 (A : Atlas) : Type 0 where
  pub in_window : (g lo hi : ℕ) → g ≤ 32 → lo ≤ 255 → hi ≤ 255 → (lents : List (List ℕ)) → DemandedInWindow A g lo hi lents
  pub of_genus : (g : ℕ) → g ≤ 32 → (lents : List (List ℕ)) → DemandedOfGenus A g lents
