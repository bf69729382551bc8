-- Lists of generators that are joined and reduced in stages. Assumes nothing.
use Prim.Native.Nat.{ℕ, ◌≤◌}
use mathlib.Core.Path.{◌≡◌, refl, sym, ap, subst, ◌∙◌}
use mathlib.Core.List.Memᴰ
use mathlib.Core.List.{List, [], ◌∷◌, ◌++◌, append-nil, append_assoc}
use native.Mathlib.Omega.{arith}
use lib.ListN.{length}
use Rattle.semigroups.specs.Lists.{Bytes, every, joined}
use Rattle.semigroups.proofs.Lists.{append_each}
use Rattle.answers.specs.Answers.{Answer, refused, given, filled}
use Rattle.sums.specs.Divisors.{gcd_of}
use Rattle.sums.specs.WordFrom.{word_from_of}
use Rattle.sums.proofs.WordFrom.{made_accepted}
use Rattle.generators.specs.Generators.{minimal_generators, generators_of}
use Rattle.generators.specs.Joining.{reduced_by, reduced, in_stages, at_once, Stages}
use Rattle.generators.proofs.MinimalGenerators.{generators_le_33}
use Rattle.generators.proofs.GivenBack.{made_back, made_listed}
use Rattle.generators.proofs.Joining.{join_generators, generator_bytes}

-- what the reduced list is, by the list's answer
reduced_refused : (A : List ℕ) (n : ℕ) → word_from_of A ≡ refused n → reduced A ≡ A
unfolding reduced reduced_by
reduced_refused A n e = rw e refl

reduced_given : (A : List ℕ) (w : ℕ) → word_from_of A ≡ given w → reduced A ≡ minimal_generators w
unfolding reduced reduced_by
reduced_given A w e = rw e refl

-- so that it has what the list has where it is refused, and the minimal generators of its word where it has one
reduced_has : (P : List ℕ → Type 0) (A : List ℕ) → ((n : ℕ) → word_from_of A ≡ refused n → P A) → ((w : ℕ) → word_from_of A ≡ given w → P (minimal_generators w)) → P (reduced A)
reduced_has P A kept made = go (word_from_of A) refl
  where
    go : (a : Answer ℕ) → word_from_of A ≡ a → P (reduced A)
    go (refused n) e = subst P (sym (reduced_refused A n e)) (kept n e)
    go (given w) e = subst P (sym (reduced_given A w e)) (made w e)

-- it may stand for the list
pub join_reduced : (A B : List ℕ) → word_from_of (reduced A ++ B) ≡ word_from_of (A ++ B)
join_reduced A B = reduced_has (λ (C : List ℕ). word_from_of (C ++ B) ≡ word_from_of (A ++ B)) A (λ n e. refl) (λ w made. sym (join_generators A w made B))

-- the call for the generators lists it, in a list of 33 places or more
reduced_listed : (A : List ℕ) (w : ℕ) → word_from_of A ≡ given w → (lent : List ℕ) → 33 ≤ length lent → generators_of w lent ≡ filled (reduced A) lent
reduced_listed A w made lent long =
    let (fits, accepted) = made_accepted A w made in
    made_listed A w made lent (omega (arith, generators_le_33 w fits accepted.closed accepted.few))
    ∙ ap (λ (l : List ℕ). filled l lent) (sym (reduced_given A w made))

-- reduced again, it stays
reduced_twice : (A : List ℕ) → reduced (reduced A) ≡ reduced A
reduced_twice A = reduced_has (λ (C : List ℕ). reduced C ≡ C) A (reduced_refused A) (λ w made. reduced_given (minimal_generators w) w (made_back A w made))

-- a stage: whether what is held and A are reduced before the other lists are joined does not matter
joined_on : (held A : List ℕ) (lists : List (List ℕ)) → word_from_of (reduced (held ++ A) ++ at_once lists) ≡ word_from_of (held ++ at_once (A ∷ lists))
unfolding joined
joined_on held A lists = join_reduced (held ++ A) (at_once lists) ∙ ap word_from_of (append_assoc held A (at_once lists))

-- in stages or at once, behind what is held
stages_same : (held : List ℕ) (lists : List (List ℕ)) → word_from_of (in_stages held lists) ≡ word_from_of (held ++ at_once lists)
unfolding in_stages joined
stages_same held [] = ap word_from_of (sym (append-nil held))
stages_same held (A ∷ lists) = stages_same (reduced (held ++ A)) lists ∙ joined_on held A lists

-- where that is a word and what is held is reduced, the minimal generators are left
stages_left : (w : ℕ) (held : List ℕ) (lists : List (List ℕ)) → reduced held ≡ held → word_from_of (held ++ at_once lists) ≡ given w → in_stages held lists ≡ minimal_generators w
unfolding in_stages joined
stages_left w held [] fixed made = sym fixed ∙ reduced_given held w (ap word_from_of (sym (append-nil held)) ∙ made)
stages_left w held (A ∷ lists) fixed made = stages_left w (reduced (held ++ A)) lists (reduced_twice (held ++ A)) (joined_on held A lists ∙ made)

-- bytes stay bytes
stages_bytes : (held : List ℕ) (lists : List (List ℕ)) → Bytes (held ++ at_once lists) → Bytes (in_stages held lists)
unfolding in_stages joined
stages_bytes held [] bytes = λ a m. bytes a (Memᴰ.append_left [] m)
stages_bytes held (A ∷ lists) bytes =
    let all : Bytes ((held ++ A) ++ at_once lists) = subst Bytes (sym (append_assoc held A (at_once lists))) bytes in
    stages_bytes (reduced (held ++ A)) lists
    (append_each (reduced (held ++ A)) (at_once lists)
    (reduced_has Bytes (held ++ A) (λ n e a m. all a (Memᴰ.append_left (at_once lists) m)) (λ w made. generator_bytes (held ++ A) w made))
    (λ a m. all a (Memᴰ.append_right (held ++ A) m)))

-- the empty list is refused
empty_refused : word_from_of [] ≡ refused 8
unfolding every gcd_of word_from_of
empty_refused = refl

-- the first sentence of the request: any lists, from none held on
pub stages : Stages
stages = record {
  as_at_once = stages_same [];
  generators_left = λ lists w made. stages_left w [] lists (reduced_refused [] 8 empty_refused) made;
  by_the_calls = reduced_listed;
  bytes_held = stages_bytes [];
}
