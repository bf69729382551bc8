-- The minimal generators of a word give back the word, and the word of given generators has its minimal generators among them. Assumes
-- nothing.
use Prim.Native.Nat.{ℕ, ◌^◌, ◌≤◌, ◌<◌}
use mathlib.Core.Path.{◌≡◌, sym, ap, ap₂, subst, ◌∙◌, fun_ext}
use mathlib.Core.Logic.{◌↔◌}
use mathlib.Core.Bool.{true, false}
use mathlib.Core.List.{List, Memᴰ}
use lib.ListN.{length, take}
use Rattle.semigroups.specs.Sets.{Set, sum_of_two}
use Rattle.semigroups.specs.Words.{set_of, gaps, genus}
use Rattle.semigroups.proofs.Lists.{fronted_front}
use Rattle.semigroups.proofs.Words.{gaps_of}
use Rattle.semigroups.proofs.Elements.{generator_parts, generator_of_element}
use Rattle.answers.specs.Answers.{given, filled, giving}
use Rattle.words.specs.Looks.{Accepted}
use Rattle.words.proofs.Looks.{list_given, room}
use Rattle.sums.specs.Sums.{spans, WordOfSums}
use Rattle.sums.specs.WordFrom.{word_from_of}
use Rattle.sums.proofs.WordFrom.{answered_word, made_accepted}
use Rattle.generators.specs.Generators.{minimal_generators, generators_of}
use Rattle.generators.proofs.MinimalGenerators.{generators_mem, mem_generators, generators_span, generators_gcd, generators_least}

-- the minimal generators of an accepted word give the word
pub generators_give_word : (w : ℕ) → w < 2 ^ 64 → Accepted w → word_from_of (minimal_generators w) ≡ given w
unfolding genus
generators_give_word w fits h =
    let same : (x : ℕ) → set_of w x ≡ spans (minimal_generators w) x = λ x. sym (generators_span w fits h.closed x) in
    let g = gaps_of w fits in
    (answered_word (minimal_generators w) w).1 (record {
      positive = λ a m. (generator_parts w a (generators_mem w fits m)).0;
      coprime = generators_gcd w fits;
      few = (gaps w, g.rising, h.few, λ x e. g.all x (same x ∙ e));
      fits = fits;
      same = same;
    })

-- what the call writes of an accepted word, given back, gives the word
pub listed_give_word : (w : ℕ) → w < 2 ^ 64 → (lent l : List ℕ) (n : ℕ) → generators_of w lent ≡ giving n l → word_from_of (take n l) ≡ given w
unfolding generators_of
listed_give_word w fits lent l n e =
    let (h, count, list) = list_given w (minimal_generators w) lent l n e in
    ap₂ (λ (k : ℕ) (m : List ℕ). word_from_of (take k m)) count list ∙ ap word_from_of (fronted_front (minimal_generators w) lent)
    ∙ generators_give_word w fits h

-- ---- the word of given generators

module _ (A : List ℕ) (w : ℕ) (made : word_from_of A ≡ given w) where
  sums : WordOfSums A w
  sums = (answered_word A w).0 made

  -- its minimal generators are the positive sums that are no sum of two positive sums
  pub made_generators : (x : ℕ) → Memᴰ x (minimal_generators w) ↔ ((0 < x) × (spans A x ≡ true) × (sum_of_two (spans A) x ≡ false))
  made_generators x =
      subst (λ (S : Set). Memᴰ x (minimal_generators w) ↔ ((0 < x) × (S x ≡ true) × (sum_of_two S x ≡ false))) (fun_ext sums.same)
      (λ m. generator_parts w x (generators_mem w sums.fits m), λ (pos, e, alone). mem_generators w sums.fits x (generator_of_element w x pos e alone))

  -- each of them is among the given ones
  pub made_among : {x : ℕ} → Memᴰ x (minimal_generators w) → Memᴰ x A
  made_among m = generators_least w sums.fits A (λ x. sym (sums.same x)) m

  -- and they give it back
  pub made_back : word_from_of (minimal_generators w) ≡ given w
  made_back = let (fits, accepted) = made_accepted A w made in generators_give_word w fits accepted

  -- the call lists them, in a list that holds them
  pub made_listed : (lent : List ℕ) → length (minimal_generators w) ≤ length lent → generators_of w lent ≡ filled (minimal_generators w) lent
  unfolding generators_of
  made_listed lent h = room w (minimal_generators w) lent (made_accepted A w made).1 h
