-- The cuts: branches below a word in which no word has a wanted largest gap f, and what decides at the last level. With c the conductor of
-- the word, no word below it has a gap that is a sum of two elements below c; and the words r levels below its child at the offset d have
-- largest gaps from c + d + r on. Assumes nothing.
use Prim.Native.Nat.{ℕ, suc, ◌+◌, ◌-◌, ◌≤◌, ◌<◌}
use mathlib.Core.Path.{◌≡◌, sym, ap, ◌∙◌, subst}
use mathlib.Core.Logic.{◌≢◌, ⊎_elim}
use mathlib.Core.Bool.{true, false}
use mathlib.Core.List.Memᴰ
use mathlib.Core.List.{List, [], ◌++◌, head?, Memᴰ}
use mathlib.Core.Option.{none, some}
use native.Mathlib.Omega.{arith}
use borrow.Author.Tests.{eqb-true, eq-eqb, ne_eqb}
use Rattle.semigroups.specs.Sets.{sum_of_two}
use Rattle.semigroups.specs.Words.{bit, set_of, genus, largest_gap, conductor, child_word}
use Rattle.semigroups.specs.Positions.{positions}
use Rattle.semigroups.specs.Tree.{leaves}
use Rattle.semigroups.proofs.Booleans.{not_both}
use Rattle.semigroups.proofs.Lists.{nothing, keep_mem, mem_keep, keep_append, joined_mem, mem_joined}
use Rattle.semigroups.proofs.Kept.{keep_none}
use Rattle.semigroups.proofs.Heads.{head_append_some, head_append_none, head_only}
use Rattle.semigroups.proofs.StandingBits.{positions_mem, mem_positions}
use Rattle.semigroups.proofs.Sets.{sum_of}
use Rattle.semigroups.proofs.Elements.{largest_gap_is}
use Rattle.semigroups.proofs.Closure.{closed_iff}
use Rattle.semigroups.proofs.Tree.{descendant_keeps}
use Rattle.seeds.specs.Seeds.{set_below}
use Rattle.seeds.proofs.Seeds.{below_in}
use Rattle.nodes.specs.Levels.{Levels}
use Rattle.nodes.specs.Branches.{branches, Offsets}
use Rattle.nodes.proofs.Branches.{TakenOff, leaf_descendant, child_of_generator, child_levels, leaf_conductor, lowest_below}
use Rattle.search.specs.Private.{with_largest_gap}

-- where no word of a list has the largest gap f, none is kept
none_with : (f : ℕ) (l : List ℕ) → ((v : ℕ) → Memᴰ v l → largest_gap v ≢ f) → with_largest_gap f l ≡ []
unfolding with_largest_gap
none_with f l h = keep_none _ l (λ v m. ne_eqb (largest_gap v) f (h v m))

-- ---- one list of words after the other

module _ (f : ℕ) (k l : List ℕ) {both : List ℕ} (parts : both ≡ k ++ l) where
  -- the words of both lists that have it
  in_parts : with_largest_gap f both ≡ with_largest_gap f k ++ with_largest_gap f l
  unfolding with_largest_gap
  in_parts = ap (with_largest_gap f) parts ∙ keep_append _ k l

  -- the first of the first list is the first
  pub in_first : {x : ℕ} → head? (with_largest_gap f k) ≡ some x → head? (with_largest_gap f both) ≡ some x
  in_first e = ap head? in_parts ∙ head_append_some (with_largest_gap f k) (with_largest_gap f l) e

  -- where it has none, the first of the second is
  pub in_second : head? (with_largest_gap f k) ≡ none → head? (with_largest_gap f both) ≡ head? (with_largest_gap f l)
  in_second e = ap head? in_parts ∙ head_append_none (with_largest_gap f k) (with_largest_gap f l) e

-- ---- a sum of two elements below the conductor is never a gap

-- all words below w keep the two elements, so that the sum is an element of each
pub cut_by_sum : (r w f : ℕ) → Levels r w → sum_of_two (set_below w (conductor w)) f ≡ true → with_largest_gap f (leaves r w) ≡ []
cut_by_sum r w f at e =
    none_with f (leaves r w) (λ v m largest.
    let s = sum_of (set_below w (conductor w)) f e in
    let d = leaf_descendant r w at m in
    let kept : (a : ℕ) → set_below w (conductor w) a ≡ true → set_of v a ≡ true =
    λ a i. let (j, low) = below_in w (conductor w) a i in descendant_keeps (genus w + r) w at.fits d a low j in
    let total : s.one + s.other ≡ largest_gap v = omega (arith, s.sum) in
    not_both (ap (set_of v) (sym total) ∙ (closed_iff v d.word.fits).0 d.word.closed s.one s.other (kept s.one s.one_in) (kept s.other s.other_in))
    (largest_gap_is v (omega (arith, s.one_pos))))

-- ---- too few numbers up to f for the gaps still to come

-- d is the lowest of the offsets in bits: below the child there, and below those at larger offsets, the largest gap is at least c + d + r
pub cut_by_room : (r w f : ℕ) → Levels (suc r) w → {bits d rest : ℕ} → Offsets w bits → TakenOff bits d rest → f < conductor w + d + r
    → with_largest_gap f (branches r w bits) ≡ []
unfolding branches conductor
cut_by_room r w f at {bits} {d} offsets low far =
    none_with f _ (λ v m e.
    let (i, j, k) = joined_mem _ (positions bits) m in
    let later : d ≤ i = ⊎_elim (λ q. omega arith) (λ n. omega (arith, lowest_below low n)) (Memᴰ.cases_cons (subst (Memᴰ i) low.first j)) in
    omega (arith, leaf_conductor r _ (child_levels r w at (offsets i j)) k, (child_of_generator r w at (offsets i j)).new_conductor))

-- ---- the last level

module _ (w f rest : ℕ) (at : Levels 1 w) (offsets : Offsets w rest) (high : conductor w ≤ f) where
  -- a child with the largest gap f is the one at f - c
  last_child : {v : ℕ} → Memᴰ v (with_largest_gap f (branches 0 w rest)) → (v ≡ child_word w f) × (bit rest (f - conductor w) ≡ true)
  unfolding with_largest_gap branches leaves conductor
  last_child {v} m =
      let (i, e) = keep_mem _ (branches 0 w rest) m in
      let (d, j, k) = joined_mem _ (positions rest) i in
      let same = Memᴰ.eq_of_singleton k in
      let there : conductor w + d ≡ f = omega (arith, (child_of_generator 0 w at (offsets d j)).new_conductor, ap largest_gap same, eqb-true (largest_gap v) f e) in
      let offset : d ≡ f - conductor w = omega arith in
      (same ∙ ap (child_word w) there, ap (bit rest) (sym offset) ∙ (positions_mem rest j).1)

  -- where the bit does not stand, there is none
  pub last_none : bit rest (f - conductor w) ≡ false → head? (with_largest_gap f (branches 0 w rest)) ≡ none
  last_none clear = ap head? (nothing _ (λ v m. not_both (last_child m).1 clear))

  -- where it stands, it is the child
  pub last_found : f - conductor w < 64 → bit rest (f - conductor w) ≡ true → head? (with_largest_gap f (branches 0 w rest)) ≡ some (child_word w f)
  unfolding with_largest_gap branches leaves conductor
  last_found low stands =
      let m = mem_positions rest (f - conductor w) low stands in
      let there : conductor w + (f - conductor w) ≡ f = omega arith in
      head_only _
      (mem_keep _ (branches 0 w rest) (mem_joined _ (positions rest) m (Memᴰ.head (ap (child_word w) (sym there))))
      (eq-eqb (largest_gap (child_word w f)) f (omega (arith, (child_of_generator 0 w at (offsets _ m)).new_conductor, ap (λ (x : ℕ). largest_gap (child_word w x)) there))))
      (λ v i. (last_child i).0)
