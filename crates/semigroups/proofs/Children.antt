-- Children and parents. Without a generator not below its conductor, a numerical semigroup is one with one gap more; and
-- each but that of the word 0 comes so from exactly one. Assumes nothing.
use Prim.Native.Nat.{ℕ, suc, ◌+◌, ◌*◌, ◌-◌, ◌^◌, ◌≤◌, ◌<◌}
use mathlib.Core.Path.{◌≡◌, refl, sym, ◌∙◌, ap, subst, subst₂, fun_ext}
use mathlib.Core.Logic.{◌≢◌, ◌↔◌, inl, inr, ⊎_elim}
use mathlib.Core.Bool.{true, false, not}
use mathlib.Core.List.Memᴰ
use mathlib.Core.List.{[], ◌∷◌, ◌++◌, Memᴰ}
use native.Mathlib.Omega.{arith}
use native.Mathlib.Nat.{eq-or-lt_of_le}
use native.Mathlib.Decide.{dec_le}
use lib.ListN.{length, length-append}
use borrow.Author.Tests.{not-true, not-false}
use Rattle.semigroups.specs.Sets.{Set, without, sum_of_two, ClosedUnderAddition, NumericalSemigroup, GapsOf}
use Rattle.semigroups.specs.Words.{bit, set_of, gaps, genus, largest_gap, conductor, closed, child_word, parent_word}
use Rattle.semigroups.specs.Elements.{generator, right_generators}
use Rattle.semigroups.specs.Children.{Child, Parent}
use Rattle.semigroups.proofs.Booleans.{not_both, is_false}
use Rattle.semigroups.proofs.Lists.{ordered_one, ordered_append}
use Rattle.semigroups.proofs.Bits.{bit_cleared}
use Rattle.semigroups.proofs.Sets.{sum_of, in_without, without_in, without_out, semigroup_without, gaps_without, gaps_unique}
use Rattle.semigroups.proofs.Words.{gaps_mem, gaps_list, gaps_of, child_set, child_lt, genus_zero}
use Rattle.semigroups.proofs.Counting.{gap_bound}
use Rattle.semigroups.proofs.Elements.{conductor_pos, largest_gap_is, largest_gap_pos, gap_below_conductor, element_from_conductor, conductor_least, conductor_is, generator_from_conductor, right_generators_mem}
use Rattle.semigroups.proofs.Closure.{closed_iff, closed_semigroup}

-- ---- children

module _ (w e : ℕ) (fits : w < 2 ^ 64) (high : conductor w ≤ e) where
  positive : 0 < e
  positive = omega (arith, conductor_pos w)

  same_child : (x : ℕ) → set_of (child_word w e) x ≡ without e (set_of w) x
  same_child = child_set w e positive (element_from_conductor w fits e high)

  -- the gaps of the set without e: those of w, and e
  gaps_of_child : GapsOf (without e (set_of w)) (gaps w ++ e ∷ [])
  gaps_of_child =
      gaps_without (set_of w) e (gaps w) (gaps w ++ e ∷ []) (gaps_of w fits)
      (ordered_append ◌<◌ (gaps w) (e ∷ []) (gaps_list w).ordered (ordered_one ◌<◌ e)
      (λ x y m k. omega (arith, gap_below_conductor w fits x (gaps_mem w m), Memᴰ.eq_of_singleton k)))
      (λ x. (
        λ m. ⊎_elim inr (λ k. inl (Memᴰ.eq_of_singleton k)) (Memᴰ.append_cases (gaps w) m),
        ⊎_elim (λ q. Memᴰ.append_right (gaps w) (Memᴰ.head q)) (Memᴰ.append_left (e ∷ [])),
      ))

  one_more : length (gaps w ++ e ∷ []) ≡ suc (genus w)
  unfolding genus
  one_more = omega (arith, length-append (gaps w) (e ∷ []))

  pub child_fits : e ≤ 64 → child_word w e < 2 ^ 64
  child_fits = child_lt w e positive (element_from_conductor w fits e high) fits

  module _ (fits' : child_word w e < 2 ^ 64) where
    pub child_gaps : gaps (child_word w e) ≡ gaps w ++ e ∷ []
    child_gaps =
        gaps_unique (set_of (child_word w e)) (gaps (child_word w e)) (gaps w ++ e ∷ []) (gaps_of (child_word w e) fits')
        (subst (λ (S : Set). GapsOf S (gaps w ++ e ∷ [])) (sym (fun_ext same_child)) gaps_of_child)

    pub child_genus : genus (child_word w e) ≡ suc (genus w)
    unfolding genus
    child_genus = ap length child_gaps ∙ one_more

    pub child_conductor : conductor (child_word w e) ≡ suc e
    child_conductor =
        conductor_is (child_word w e) fits' e record {
          gap = same_child e ∙ without_out e (set_of w);
          largest = λ x h. same_child x ∙ in_without e (set_of w) (λ q. omega arith) (element_from_conductor w fits x (omega arith));
        }

  module _ (c : closed w ≡ true) (g : generator w e ≡ true) where
    child_semigroup : NumericalSemigroup (without e (set_of w))
    child_semigroup =
        semigroup_without e (set_of w) (closed_semigroup w fits c) positive (not-true _ (sym (generator_from_conductor w fits e high) ∙ g))

    pub child_closed : child_word w e < 2 ^ 64 → closed (child_word w e) ≡ true
    child_closed fits' = (closed_iff (child_word w e) fits').1 (subst ClosedUnderAddition (sym (fun_ext same_child)) child_semigroup.closed)

    -- the gap bound of the child: a generator not below the conductor is at most 2 g + 1
    pub generator_bound : e ≤ 2 * genus w + 1
    generator_bound =
        omega (
          arith,
          gap_bound (without e (set_of w)) (gaps w ++ e ∷ []) (suc (genus w)) child_semigroup gaps_of_child one_more e
              (Memᴰ.append_right (gaps w) (Memᴰ.head refl)),
        )

    -- so that it is at most 63 where the genus is at most 31
    pub generator_le_63 : genus w ≤ 31 → e ≤ 63
    generator_le_63 h = omega (arith, generator_bound)

-- a closed word of genus 31 at most has a child at each right generator
pub child_at_generator : (w x : ℕ) → w < 2 ^ 64 → closed w ≡ true → genus w ≤ 31 → Memᴰ x (right_generators w) → Child w x
child_at_generator w x fits c h m =
    let (high, g) = right_generators_mem w fits m in
    let low = generator_le_63 w x fits high c g h in
    let fits' = child_fits w x fits high (omega arith) in
    record {
      high = high;
      low = low;
      fits = fits';
      closed = child_closed w x fits high c g fits';
      new_gaps = child_gaps w x fits high fits';
      new_genus = child_genus w x fits high fits';
      new_conductor = child_conductor w x fits high fits';
    }

-- ---- parents

module _ (w : ℕ) (fits : w < 2 ^ 64) where
  -- a parent is known: the element that was removed is the largest gap
  pub parent_unique : (v e : ℕ) → conductor v ≤ e → child_word v e ≡ w → (v ≡ parent_word w) × (e ≡ largest_gap w)
  unfolding parent_word conductor child_word
  parent_unique v e high child =
      let next = child_conductor v e (omega arith) high (subst (λ (u : ℕ). u < 2 ^ 64) (sym child) fits) in
      let last : e ≡ largest_gap w = omega (arith, next, ap largest_gap child) in
      (omega (arith, ap (λ (x : ℕ). 2 ^ (x - 1)) last), last)

  module _ (c : closed w ≡ true) (nonzero : w ≢ 0) where
    abbrev f : ℕ
    f = largest_gap w

    abbrev v : ℕ
    v = parent_word w

    f_pos : 0 < f
    f_pos = largest_gap_pos w fits nonzero

    f_gap : set_of w f ≡ false
    f_gap = largest_gap_is w f_pos

    -- bit f - 1 stands in w, and is cleared in v
    cleared : (2 ^ (f - 1) ≤ w) × (set_of v f ≡ true)
    unfolding set_of parent_word
    cleared =
        let same : suc (f - 1) ≡ f = omega (arith, f_pos) in
        let (room, clear) = bit_cleared w (f - 1) (not-false (bit w (f - 1)) (ap (set_of w) same ∙ f_gap)) in
        (room, ap (set_of v) (sym same) ∙ ap not clear)

    child_of_parent : child_word v f ≡ w
    unfolding child_word parent_word
    child_of_parent = omega (arith, cleared.0)

    parent_fits : v < 2 ^ 64
    unfolding parent_word
    parent_fits = omega arith

    -- the set of v is that of w with f
    sets : (x : ℕ) → set_of w x ≡ without f (set_of v) x
    sets x = ap (λ (u : ℕ). set_of u x) (sym child_of_parent) ∙ child_set v f f_pos cleared.1 x

    up : (x : ℕ) → set_of w x ≡ true → set_of v x ≡ true
    up x e = (without_in f (set_of v) x (sym (sets x) ∙ e)).1

    down : (x : ℕ) → x ≢ f → set_of v x ≡ true → set_of w x ≡ true
    down x other e = sets x ∙ in_without f (set_of v) other e

    from_f : (x : ℕ) → f ≤ x → set_of v x ≡ true
    unfolding conductor
    from_f x h = ⊎_elim (λ e. ap (set_of v) (sym e) ∙ cleared.1) (λ l. up x (element_from_conductor w fits x l)) (eq-or-lt_of_le h)

    parent_closed : closed v ≡ true
    parent_closed = (closed_iff v parent_fits).1 (λ a b p q. elim (dec_le f (a + b)) [
      | yes h ↦ from_f (a + b) h
      | no h ↦ up (a + b) ((closed_iff w fits).0 c a b (down a (λ e. h (omega arith)) p) (down b (λ e. h (omega arith)) q))
    ])

    parent_conductor : conductor v ≤ f
    parent_conductor = conductor_least v parent_fits f f_pos from_f

    parent_generates : generator v f ≡ true
    parent_generates =
        generator_from_conductor v parent_fits f parent_conductor ∙ ap not (is_false (sum_of_two (set_of v) f) (λ e.
        let s = sum_of (set_of v) f e in
        not_both ((closed_iff w fits).0 c s.one s.other (down s.one (λ q. omega arith) s.one_in) (down s.other (λ q. omega arith) s.other_in))
        (ap (set_of w) s.sum ∙ f_gap)))

    -- each closed word but 0 has a parent
    pub parent : Parent w (parent_word w) (largest_gap w)
    parent = record { fits = parent_fits; closed = parent_closed; high = parent_conductor; generates = parent_generates; child = child_of_parent }

    -- and just one
    pub parent_iff : (u e : ℕ) → Parent w u e ↔ ((u ≡ parent_word w) × (e ≡ largest_gap w))
    parent_iff u e = (λ p. parent_unique u e p.high p.child, λ (p, q). subst₂ (Parent w) (sym p) (sym q) parent)

    pub parent_genus : suc (genus (parent_word w)) ≡ genus w
    parent_genus = sym (child_genus v f parent_fits parent_conductor (subst (λ (u : ℕ). u < 2 ^ 64) (sym child_of_parent) fits)) ∙ ap genus child_of_parent

-- ---- extension

-- a closed word with a gap e not below its conductor added is closed exactly when e is a generator
pub extension : (w e : ℕ) → w < 2 ^ 64 → conductor w ≤ e → closed w ≡ true → child_word w e < 2 ^ 64
    → (closed (child_word w e) ≡ true) ↔ (generator w e ≡ true)
extension w e fits high c fits' = (
  λ c'.
      let nonzero : child_word w e ≢ 0 = λ z. omega (arith, child_genus w e fits high fits', ap genus z ∙ genus_zero) in
      let (p, q) = parent_unique (child_word w e) fits' w e high refl in
      subst₂ (λ (u x : ℕ). generator u x ≡ true) (sym p) (sym q) (parent (child_word w e) fits' c' nonzero).generates,
  λ g. child_closed w e fits high c g fits',
)
