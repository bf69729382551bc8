-- Joined lists of generators. Assumes nothing.
use Prim.Native.Nat.{ℕ}
use mathlib.Core.Path.{◌≡◌, ◌∙◌}
use mathlib.Core.Logic.{◌↔◌, ⊎_elim}
use mathlib.Core.List.Memᴰ
use mathlib.Core.List.{List, ◌++◌, Memᴰ}
use native.Mathlib.Omega.{arith}
use Rattle.semigroups.specs.Lists.{Bytes}
use Rattle.semigroups.proofs.Lists.{append_each, positive_without_zero}
use Rattle.answers.specs.Answers.{given}
use Rattle.sums.specs.Sums.{SumsOf, Positive}
use Rattle.sums.specs.WordFrom.{word_from_of}
use Rattle.sums.proofs.Sums.{sums_of_members, sums_of_sums}
use Rattle.sums.proofs.WordFrom.{answered_word, made_accepted}
use Rattle.sums.proofs.SameAnswers.{more_accepted, neither_zero, same_answer, same_members, same_word_iff}
use Rattle.generators.specs.Generators.{minimal_generators}
use Rattle.generators.specs.Joining.{Joining}
use Rattle.generators.proofs.MinimalGenerators.{generators_mem, generator_lt_128}
use Rattle.generators.proofs.GivenBack.{listed_give_word, made_back}

-- ---- lists in front of B

module _ (B : List ℕ) where
  -- the members of A are sums of A and B
  front_sums : (A : List ℕ) → SumsOf A (A ++ B)
  front_sums A = sums_of_members A (A ++ B) (λ a m. Memᴰ.append_left B m)

  -- where the members of A are sums of C, those of A and B are sums of C and B
  joined_sums : (A C : List ℕ) → SumsOf A C → SumsOf (A ++ B) (C ++ B)
  joined_sums A C there =
      append_each A B (λ a m. sums_of_sums C (C ++ B) (front_sums C) a (there a m)) (sums_of_members B (C ++ B) (λ b m. Memᴰ.append_right C m))

  -- 0 goes with them
  joined_zero : (A C : List ℕ) → (Memᴰ 0 A → Memᴰ 0 C) → Memᴰ 0 (A ++ B) → Memᴰ 0 (C ++ B)
  joined_zero A C to m = ⊎_elim (λ i. Memᴰ.append_left B (to i)) (λ j. Memᴰ.append_right C j) (Memᴰ.append_cases A m)

  -- lists whose members are sums of each other's may stand for each other
  pub same_joined : (A C : List ℕ) → SumsOf A C → SumsOf C A → Memᴰ 0 A ↔ Memᴰ 0 C → word_from_of (A ++ B) ≡ word_from_of (C ++ B)
  same_joined A C there back (to, from) =
      same_answer (A ++ B) (C ++ B) (joined_sums A C there) (joined_sums C A back) (joined_zero A C to, joined_zero C A from)

  -- and so may those of the same word
  pub same_word_joined : (A C : List ℕ) (w : ℕ) → word_from_of A ≡ given w → word_from_of C ≡ given w → word_from_of (A ++ B) ≡ word_from_of (C ++ B)
  same_word_joined A C w made other =
      let (positive, there, back) = (same_word_iff A C w made).0 other in
      same_joined A C there back (neither_zero A C ((answered_word A w).0 made).positive positive)

  -- A joined with B is accepted where A is and B has no 0
  pub join_accepted : (A : List ℕ) (w : ℕ) → word_from_of A ≡ given w → Positive B → (v : ℕ) × (word_from_of (A ++ B) ≡ given v)
  join_accepted A w made positive =
      more_accepted A (A ++ B) (front_sums A) w made (append_each A B ((answered_word A w).0 made).positive positive)

-- the order does not matter, whatever the answer
pub join_order : (A B : List ℕ) → word_from_of (A ++ B) ≡ word_from_of (B ++ A)
join_order A B = same_members (A ++ B) (B ++ A) (λ a. (exchanged A B a, exchanged B A a))
  where
    exchanged : (A B : List ℕ) (a : ℕ) → Memᴰ a (A ++ B) → Memᴰ a (B ++ A)
    exchanged A B = append_each A B (λ a m. Memᴰ.append_right B m) (λ b m. Memᴰ.append_left A m)

-- nor does it matter that a list is joined with itself
pub join_itself : (A : List ℕ) → word_from_of (A ++ A) ≡ word_from_of A
join_itself A = same_members (A ++ A) A (λ a. (append_each A A (λ b m. m) (λ b m. m) a, λ m. Memᴰ.append_left A m))

-- ---- the minimal generators

module _ (A : List ℕ) (w : ℕ) (made : word_from_of A ≡ given w) where
  -- those of A's word may stand for A
  pub join_generators : (B : List ℕ) → word_from_of (A ++ B) ≡ word_from_of (minimal_generators w ++ B)
  join_generators B = same_word_joined B A (minimal_generators w) w made (made_back A w made)

  -- they are bytes
  pub generator_bytes : Bytes (minimal_generators w)
  generator_bytes a m =
      let (fits, accepted) = made_accepted A w made in
      omega (arith, generator_lt_128 w fits accepted.closed accepted.few a (generators_mem w fits m))

-- the sentences of the request
pub joining : Joining
joining = record {
  joined_accepted = λ A B w h. join_accepted B A w h.gives (positive_without_zero B h.no_zero);
  either_order = λ A B w h. join_order A B;
  by_generators = λ A B w h. (
    append_each (minimal_generators w) B (generator_bytes A w h.gives) (λ b m. h.of_bytes b (Memᴰ.append_right A m)),
    join_generators A w h.gives B,
  );
  by_listed = λ A B w h lent l n e. same_word_joined B A _ w h.gives (listed_give_word w (made_accepted A w h.gives).0 lent l n e);
  with_itself = λ A w bytes made. join_itself A ∙ made;
}
