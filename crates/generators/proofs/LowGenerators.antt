-- The generators below the conductor by shifts: elements below it that are no sum of two such elements. Assumes nothing.
use Prim.Native.Nat.{ℕ, ◌+◌, ◌*◌, ◌-◌, ◌%◌, ◌^◌, ◌≤◌, ◌<◌}
use mathlib.Core.Path.{◌≡◌, refl, sym, ap, ap₂, subst, fun_ext, ◌∙◌}
use mathlib.Core.Bool.{Bool, and-true, true, not, ◌&&◌, and-false, and-eq-true_iff}
use mathlib.Core.List.Memᴰ
use mathlib.Core.List.{List, [], ◌∷◌, ◌++◌, map, append_assoc, append-nil, Memᴰ}
use native.Mathlib.Omega.{arith}
use native.Mathlib.Nat.{add_comm}
use lib.Dec.{ltb}
use lib.Bits.{bit_and, bit_or, and_mask}
use lib.Count.{ones}
use lib.ListN.{length, length-append, length-map}
use borrow.Author.Tests.{ltb-true, lt-ltb, not-true, not-false}
use Rattle.semigroups.specs.Lists.{run, keep, every}
use Rattle.semigroups.specs.Sets.{Set, sum_of_two}
use Rattle.semigroups.specs.Words.{bit, set_of, conductor}
use Rattle.semigroups.specs.Positions.{positions, bits_from}
use Rattle.semigroups.specs.Elements.{generator}
use Rattle.semigroups.proofs.Booleans.{not_both, is_false, by_value, true_together}
use Rattle.semigroups.proofs.Lists.{run_mem, mem_run, keep_mem, mem_keep, ordered_run, ordered_keep, ordered_unique, every_mem, every_false, some_more}
use Rattle.semigroups.proofs.Bits.{one_shl}
use Rattle.semigroups.proofs.Sets.{sum_of, sum_found, same_sums}
use Rattle.semigroups.proofs.BitSets.{bits_from_same, bits_from_bit, bits_from_listed, bits_from_none, bits_from_not, bits_from_or, bits_from_and, bits_from_shl, bits_from_below, complement_from}
use Rattle.semigroups.proofs.StandingBits.{positions_mem, mem_positions, positions_zero}
use Rattle.semigroups.proofs.Elements.{conductor_pos, generator_parts}
use Rattle.seeds.specs.Seeds.{set_below}
use Rattle.seeds.proofs.Seeds.{below_in, in_below}
use Rattle.words.specs.Looks.{Accepted}
use Rattle.nodes.specs.Nodes.{TakenOff, first_row}
use Rattle.nodes.proofs.Branches.{lowest_in}
use Rattle.nodes.specs.Levels.{NodeWithLevels}
use Rattle.nodes.specs.declared.Node.{Node}
use Rattle.nodes.proofs.Nodes.{first_row_generators}
use Rattle.nodes.proofs.Levels.{node_accepted, node_conductor, conductor_within, node_offsets}
use Rattle.generators.specs.Generators.{minimal_generators}
use Rattle.generators.specs.Private.{low_generator}
use Rattle.generators.proofs.MinimalGenerators.{generators_parts}

-- ---- sums of two

-- x less k + 1 is a positive element of S
abbrev moved_up : Set → ℕ → Set
moved_up S k x = ltb (k + 1) x && S (x - (k + 1))

-- so it is for one of these k
unfoldable pub sums_with : Set → List ℕ → Set
sums_with S l x = not (every (λ k. not (moved_up S k x)) l)

module _ (S : Set) where
  pub sums_none : 0 ≡ bits_from (sums_with S []) 1
  unfolding sums_with every
  sums_none = bits_from_none (sums_with S []) 1 (λ x l h. refl)

  -- the sums with one more are the elements moved up by it
  pub sums_more : (l : List ℕ) (k : ℕ) → bit_or (bits_from (sums_with S l) 1) (bits_from S 1 * 2 ^ (k + 1) % 2 ^ 64) ≡ bits_from (sums_with S (l ++ k ∷ [])) 1
  unfolding sums_with
  sums_more l k =
      ap (bit_or (bits_from (sums_with S l) 1)) (bits_from_shl S (k + 1)) ∙ bits_from_or (sums_with S l) (moved_up S k) 1
      ∙ ap (λ (T : Set). bits_from T 1) (fun_ext (λ x. sym (some_more (λ j. moved_up S j x) l k)))

  -- bit k stands for the element k + 1
  pub bit_element : {k : ℕ} → Memᴰ k (positions (bits_from S 1)) → S (k + 1) ≡ true
  bit_element {k} m = let (below, e) = positions_mem (bits_from S 1) m in ap S (add_comm k 1) ∙ sym (bits_from_bit S 1 k below) ∙ e

  -- with those for which a bit stands all sums up to 64 are found
  sums_all : (x : ℕ) → x ≤ 64 → sums_with S (positions (bits_from S 1)) x ≡ sum_of_two S x
  unfolding sums_with
  sums_all x h =
      true_together (sums_with S (positions (bits_from S 1)) x) (sum_of_two S x)
      (λ e.
      let (k, m, f) = every_false q (positions (bits_from S 1)) (not-true _ e) in
      let (l, r) = (and-eq-true_iff (ltb (k + 1) x) (S (x - (k + 1)))).0 (not-false _ f) in
      let less = ltb-true (k + 1) x l in
      sum_found S x (k + 1) (x - (k + 1)) (omega arith) (omega arith) (omega arith) (bit_element m) r)
      (λ e.
      let s = sum_of S x e in
      let k : ℕ = s.one - 1 in
      let one : s.one ≡ k + 1 = omega (arith, s.one_pos) in
      let rest : s.other ≡ x - (k + 1) = omega (arith, s.sum) in
      let less : k + 1 < x = omega (arith, s.sum, s.other_pos) in
      let low : k < 64 = omega arith in
      let stands : bit (bits_from S 1) k ≡ true = bits_from_bit S 1 k low ∙ ap S (add_comm 1 k ∙ sym one) ∙ s.one_in in
      ap not (is_false (every q (positions (bits_from S 1))) (λ t.
      not_both ((and-eq-true_iff (ltb (k + 1) x) (S (x - (k + 1)))).1 (lt-ltb (k + 1) x less, ap S (sym rest) ∙ s.other_in))
      (not-true _ (every_mem q (positions (bits_from S 1)) t (mem_positions (bits_from S 1) k low stands))))))
    where
      q : ℕ → Bool
      q k = not (moved_up S k x)

-- the sums with the bits of n that are not left in `rest` are found
pub record SumsFound (S : Set) (n sums rest : ℕ) : Type 0 where
  pub elements : n ≡ bits_from S 1
  pub passed : List ℕ
  pub split : passed ++ positions rest ≡ positions n
  pub found : sums ≡ bits_from (sums_with S passed) 1

module _ {S : Set} {n sums rest : ℕ} (f : SumsFound S n sums rest) where
  module _ {k left : ℕ} (low : TakenOff rest k left) where
    -- the next bit stands for an element
    pub next_element : S (k + 1) ≡ true
    next_element =
        bit_element S
        (subst (Memᴰ k) (f.split ∙ ap positions f.elements) (Memᴰ.append_right f.passed (lowest_in low)))

    -- with it
    pub sums_next : SumsFound S n (bit_or sums (n * 2 ^ (k + 1) % 2 ^ 64)) left
    sums_next = record {
      elements = f.elements;
      passed = f.passed ++ k ∷ [];
      split = append_assoc f.passed (k ∷ []) (positions left) ∙ ap (λ (l : List ℕ). f.passed ++ l) (sym low.first) ∙ f.split;
      found = ap₂ (λ (s e : ℕ). bit_or s (e * 2 ^ (k + 1) % 2 ^ 64)) f.found f.elements ∙ sums_more S f.passed k;
    }

  -- with the last, all are
  pub sums_found : rest ≡ 0 → sums ≡ bits_from (sums_with S (positions (bits_from S 1))) 1
  sums_found none =
      let all : f.passed ≡ positions n = sym (append-nil f.passed) ∙ ap (λ (l : List ℕ). f.passed ++ l) (sym (ap positions none ∙ positions_zero)) ∙ f.split in
      f.found ∙ ap (λ (l : List ℕ). bits_from (sums_with S l) 1) (all ∙ ap positions f.elements)

-- ---- the elements below the conductor

module _ (w : ℕ) where
  abbrev pub below_conductor : Set
  below_conductor = set_below w (conductor w)

  -- those that are no sum of two are the generators below it
  is_low : (x : ℕ) → 0 < x → (below_conductor x && not (sum_of_two below_conductor x)) ≡ low_generator w x
  unfolding set_below low_generator generator
  is_low x pos =
      let c : ℕ = conductor w in
      by_value (ltb x c)
      (λ e.
      let less = ltb-true x c e in
      let same : sum_of_two below_conductor x ≡ sum_of_two (set_of w) x =
      same_sums below_conductor (set_of w) x (λ a b p q s i j. (below_in w c a i).0) (λ a b p q s i j. in_below w c a i (omega arith)) in
      ap₂ (λ (a b : Bool). (set_of w x && a) && not b) e same ∙ ap (λ (a : Bool). a && not (sum_of_two (set_of w) x)) (and-true (set_of w x))
      ∙ sym (ap₂ (λ (a b : Bool). a && ((b && set_of w x) && not (sum_of_two (set_of w) x))) e (lt-ltb 0 x pos)))
      (λ e.
      ap (λ (a : Bool). (set_of w x && a) && not (sum_of_two below_conductor x)) e ∙ ap (λ (a : Bool). a && not (sum_of_two below_conductor x)) (and-false (set_of w x))
      ∙ sym (ap (λ (a : Bool). a && generator w x) e))

  -- elements less the sums, as bits
  pub low_bits_found : {n sums : ℕ} → SumsFound below_conductor n sums 0 → bit_and n (2 ^ 64 - 1 - sums) ≡ bits_from (low_generator w) 1
  low_bits_found {n} {sums} f =
      let S : Set = sums_with below_conductor (positions (bits_from below_conductor 1)) in
      ap₂ (λ (e s : ℕ). bit_and e (2 ^ 64 - 1 - s)) f.elements (sums_found f refl)
      ∙ ap (bit_and (bits_from below_conductor 1)) (bits_from_not S 1) ∙ bits_from_and below_conductor (λ x. not (S x)) 1
      ∙ bits_from_same (λ x. below_conductor x && not (S x)) (low_generator w) 1
      (λ x l h. ap (λ (b : Bool). below_conductor x && not b) (sums_all below_conductor x (omega arith)) ∙ is_low x l)

  module _ (fits : w < 2 ^ 64) (low : conductor w ≤ 64) where
    pub below_bits : bit_and (2 ^ 64 - 1 - w) (1 * 2 ^ (conductor w - 1) % 2 ^ 64 - 1) ≡ bits_from below_conductor 1
    unfolding set_below
    below_bits =
        let c : ℕ = conductor w in
        let pos = conductor_pos w in
        let n : ℕ = 2 ^ 64 - 1 - w in
        ap (λ (m : ℕ). bit_and n (m - 1)) (one_shl (c - 1) (omega arith)) ∙ and_mask n (c - 1)
        ∙ ap (λ (m : ℕ). m % 2 ^ (c - 1)) (complement_from w fits) ∙ bits_from_below (set_of w) c

    -- the bits list the generators below the conductor
    pub low_listed : map (λ d. 1 + d) (positions (bits_from (low_generator w) 1)) ≡ keep (generator w) (run 0 (conductor w))
    unfolding low_generator
    low_listed =
        let c : ℕ = conductor w in
        bits_from_listed (low_generator w) 1
        ∙ ordered_unique ◌<◌ (λ x y p q. omega arith) (keep (low_generator w) (run 1 64)) (keep (generator w) (run 0 c))
        (ordered_keep ◌<◌ (low_generator w) (run 1 64) (ordered_run 1 64)) (ordered_keep ◌<◌ (generator w) (run 0 c) (ordered_run 0 c))
        (λ x m.
        let (i, e) = keep_mem (low_generator w) (run 1 64) m in
        let (l, g) = (and-eq-true_iff (ltb x c) (generator w x)).0 e in
        mem_keep (generator w) (run 0 c) (mem_run 0 c (omega arith) (omega (arith, ltb-true x c l))) g)
        (λ x m.
        let (i, g) = keep_mem (generator w) (run 0 c) m in
        let l = (run_mem 0 c i).1 in
        mem_keep (low_generator w) (run 1 64) (mem_run 1 64 (generator_parts w x g).0 (omega arith)) ((and-eq-true_iff (ltb x c) (generator w x)).1 (lt-ltb x c (omega arith), g)))

-- ---- the minimal generators of the word of a node

module _ (n : Node) (at : NodeWithLevels 0 n) where
  abbrev w : ℕ
  w = n.word

  accepted : Accepted n.word
  accepted = node_accepted 0 n at

  -- they are those of the bits below the conductor, and of the bits of the first row of the seed table
  pub generators_listed : (low : ℕ) → low ≡ bits_from (low_generator n.word) 1
      → minimal_generators n.word ≡ map (λ d. 1 + d) (positions low) ++ map (λ d. n.conductor + d) (positions (first_row n))
  generators_listed low e =
      generators_parts w at.levels.fits
      ∙ ap₂ ◌++◌ (sym (low_listed w at.levels.fits (omega (arith, conductor_within 0 n at, node_conductor 0 n at))) ∙ ap (λ (b : ℕ). map (λ d. 1 + d) (positions b)) (sym e))
      (first_row_generators w at.levels.fits accepted.closed accepted.few
      ∙ ap₂ (λ (b c : ℕ). map (λ d. c + d) (positions b)) (ap first_row (sym at.node)) (sym (node_conductor 0 n at)))

  -- so that their number is that of the bits below the conductor, and the node's number
  pub generators_length : (low : ℕ) → low ≡ bits_from (low_generator n.word) 1
      → length (minimal_generators n.word) ≡ length (positions low) + ones (first_row n)
  generators_length low e =
      ap length (generators_listed low e) ∙ length-append (map (λ d. 1 + d) (positions low)) (map (λ d. n.conductor + d) (positions (first_row n)))
      ∙ ap₂ ◌+◌ (length-map (positions low) (λ d. 1 + d)) (length-map (positions (first_row n)) (λ d. n.conductor + d) ∙ node_offsets 0 n at)
