-- Lists of generators that are joined, at once or in stages: what holds of the call for a word from generators (`word_from_of`) and of the
-- call for the generators of a word (`generators_of`). Assumes nothing: these are definitions.
use Rattle.std.specs.Prelude.{ℕ, ◌≤◌, ◌≡◌, length, take}
use mathlib.Core.List.{List, [], ◌∷◌, ◌++◌, Memᴰ}
use Rattle.semigroups.specs.Lists.{joined, Bytes}
use Rattle.answers.specs.Answers.{Answer, refused, given, giving, filled}
use Rattle.sums.specs.WordFrom.{word_from_of}
use Rattle.generators.specs.Generators.{minimal_generators, generators_of}

-- ---- two lists

-- A and B are lists of bytes; A is accepted and gives the word w, and B has no 0
pub record Joinable (A : List ℕ) (w : ℕ) (B : List ℕ) : Type 0 where
  pub of_bytes : Bytes (A ++ B)
  pub gives : word_from_of A ≡ given w
  pub no_zero : ¬ Memᴰ 0 B

-- the sentences of request 2026-07 on two lists, for all such lists
pub record Joining : Type 0 where
  -- when A is accepted and B has no 0, A joined with B is accepted
  pub joined_accepted : (A B : List ℕ) (w : ℕ) → Joinable A w B → (v : ℕ) × (word_from_of (A ++ B) ≡ given v)
  -- it gives the same word as B joined with A
  pub either_order : (A B : List ℕ) (w : ℕ) → Joinable A w B → word_from_of (A ++ B) ≡ word_from_of (B ++ A)
  -- and as the minimal generators of A's word joined with B, which are bytes too
  pub by_generators : (A B : List ℕ) (w : ℕ) → Joinable A w B → Bytes (minimal_generators w ++ B) × (word_from_of (A ++ B) ≡ word_from_of (minimal_generators w ++ B))
  -- and as those that the call for the generators lists, joined with B
  pub by_listed : (A B : List ℕ) (w : ℕ) → Joinable A w B → (lent l : List ℕ) (n : ℕ) → generators_of w lent ≡ giving n l
      → word_from_of (A ++ B) ≡ word_from_of (take n l ++ B)
  -- joining A with itself gives A's word
  pub with_itself : (A : List ℕ) (w : ℕ) → Bytes A → word_from_of A ≡ given w → word_from_of (A ++ A) ≡ given w

-- ---- many lists

-- by the answer for A: the minimal generators of its word, and A as it is where it is refused
unfoldable pub reduced_by : Answer ℕ → List ℕ → List ℕ
reduced_by (refused n) A = A
reduced_by (given w) A = minimal_generators w

-- A reduced to the minimal generators of its word, where it has one
unfoldable pub reduced : List ℕ → List ℕ
reduced A = reduced_by (word_from_of A) A

-- one list after the other joined to what is held, and reduced each time
unfoldable pub in_stages : List ℕ → List (List ℕ) → List ℕ
in_stages held [] = held
in_stages held (A ∷ lists) = in_stages (reduced (held ++ A)) lists

-- all lists joined at once
abbrev pub at_once : List (List ℕ) → List ℕ
at_once lists = joined (λ A. A) lists

-- people join long lists of generators and reduce them in stages (the first sentence of the request): what holds of any lists
pub record Stages : Type 0 where
  -- in stages they get the answer of all joined at once, refusals too
  pub as_at_once : (lists : List (List ℕ)) → word_from_of (in_stages [] lists) ≡ word_from_of (at_once lists)
  -- where that is a word, its minimal generators are left
  pub generators_left : (lists : List (List ℕ)) (w : ℕ) → word_from_of (at_once lists) ≡ given w → in_stages [] lists ≡ minimal_generators w
  -- a stage by the calls: of a list A with a word, the call for the generators lists what is held next, in any list of 33 places or more
  pub by_the_calls : (A : List ℕ) (w : ℕ) → word_from_of A ≡ given w → (lent : List ℕ) → 33 ≤ length lent → generators_of w lent ≡ filled (reduced A) lent
  -- of lists of bytes, what is held is one too, after each stage
  pub bytes_held : (lists : List (List ℕ)) → Bytes (at_once lists) → Bytes (in_stages [] lists)
