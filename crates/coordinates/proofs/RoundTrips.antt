-- The word of given coordinates: which lists are refused, that coordinates and words give back one another, and that the accepted lists say
-- the numerical semigroups with at most 32 gaps, each once. Assumes nothing.
use Prim.Native.Nat.{ℕ, suc, ◌*◌, ◌^◌, ◌≤◌, ◌<◌}
use mathlib.Core.Path.{◌≡◌, refl, sym, ap, ap₂, subst, ◌∙◌, fun_ext}
use mathlib.Core.Logic.{◌↔◌}
use mathlib.Core.Bool.{Bool, true, false, not, ◌&&◌, and-eq-true_iff}
use mathlib.Core.List.{List, Memᴰ}
use native.Mathlib.Omega.{arith}
use native.Mathlib.Nat.{le_refl, le_antisymm, le_of_suc-le-suc, lt_of_not-le}
use lib.Dec.{eqb, ltb, leb}
use lib.ListN.{length, take}
use lib.Seq.{ext_get_or}
use borrow.Author.Tests.{leb-true, leb-false, le-leb, lt-leb, eqb-true, eq-eqb}
use Rattle.semigroups.specs.Lists.{every, sum_over}
use Rattle.semigroups.specs.Sets.{Set, gaps_to, ClosedUnderAddition, NumericalSemigroup, HasGenus}
use Rattle.semigroups.specs.Words.{set_of, word_of, genus, closed}
use Rattle.semigroups.specs.Elements.{multiplicity}
use Rattle.semigroups.proofs.Booleans.{not_both, is_true, is_false, true_together}
use Rattle.semigroups.proofs.Lists.{positive_iff, zero_iff, fronted_front}
use Rattle.semigroups.proofs.Sets.{genus_unique, gaps_to_all}
use Rattle.semigroups.proofs.Words.{word_of_set, word_genus, gaps_to_list, gaps_of_word, same_set}
use Rattle.semigroups.proofs.Counting.{count_below, gaps_to_count, gap_bound, count_out, count_up, count_lt}
use Rattle.semigroups.proofs.Elements.{multiplicity_in, multiplicity_pos, multiplicity_least, multiplicity_le_genus}
use Rattle.semigroups.proofs.Closure.{closed_iff}
use Rattle.semigroups.proofs.GenusList.{genus_list_all}
use Rattle.answers.specs.Answers.{refused, given, filled, giving}
use Rattle.answers.proofs.Answers.{first_no, second_no, third_no, all_yes}
use Rattle.words.specs.Looks.{Accepted}
use Rattle.words.proofs.Looks.{list_given, room}
use Rattle.coordinates.specs.Coordinates.{coordinate, kunz_coordinates, modulus, entry_at, inequalities, InequalitiesHold, set_said, AcceptedCoordinates, coordinates_of, word_from_coordinates_of}
use Rattle.coordinates.proofs.WordCoordinates.{coordinate_is, coordinates_number, coordinates_positive}
use Rattle.coordinates.proofs.Said.{said_zero, said_modulus, said_below, said_coordinate, inequalities_iff, said_closed_iff, said_count, said_gap_below, entry_coordinates, said_coordinates}

-- ---- the set that a list says

module _ (l : List ℕ) where
  -- the sum of the entries
  abbrev total : ℕ
  total = sum_over (λ x. x) l

  -- from m times the sum of the entries on there is no gap
  said_past : (x : ℕ) → modulus l * total ≤ x → set_said l x ≡ true
  said_past x h = is_true (set_said l x) (λ e. omega (arith, said_gap_below l x e))

  -- there are as many gaps as the sum of the entries
  pub said_genus : HasGenus (set_said l) (sum_over (λ x. x) l)
  said_genus =
      let n = modulus l * total in (
        gaps_to (set_said l) n,
        gaps_to_all (set_said l) n (said_zero l) (λ x e. omega (arith, said_gap_below l x e)),
        gaps_to_count (set_said l) (said_zero l) n ∙ count_out (λ x. not (set_said l x)) n (ap not (said_past n (le_refl n)))
            ∙ said_count l total (le_refl total),
      )

  module _ (s : InequalitiesHold l) where
    -- where the inequalities hold, it is a numerical semigroup
    pub said_semigroup : NumericalSemigroup (set_said l)
    said_semigroup = record {
      zero_in = said_zero l;
      closed = (said_closed_iff l).1 s;
      cofinite = (modulus l * total, said_past);
    }

    -- and where the sum is at most 32 too, its gaps are at most 64
    pub said_gap_le_64 : sum_over (λ x. x) l ≤ 32 → (x : ℕ) → set_said l x ≡ false → x ≤ 64
    said_gap_le_64 few x e =
        let (k, g, n) = said_genus in
        omega (arith, gap_bound (set_said l) k total said_semigroup g n x (g.all x e))

-- a word of the set that l says
module _ (l : List ℕ) (w : ℕ) (fits : w < 2 ^ 64) (same : (x : ℕ) → set_of w x ≡ set_said l x) where
  -- its genus is the sum of the entries
  genus_said : genus w ≡ total l
  genus_said =
      genus_unique (set_said l) (genus w) (total l)
      (subst (λ (S : Set). HasGenus S (genus w)) (fun_ext same) (word_genus w fits)) (said_genus l)

  -- and it is closed just where the inequalities hold
  closed_said : (closed w ≡ true) ↔ InequalitiesHold l
  closed_said = (
    λ c. (said_closed_iff l).0 (subst ClosedUnderAddition (fun_ext same) ((closed_iff w fits).0 c)),
    λ s. (closed_iff w fits).1 (subst ClosedUnderAddition (sym (fun_ext same)) ((said_closed_iff l).1 s)),
  )

-- ---- the inequalities by the word

module _ (l : List ℕ) where
  -- the word of the set, where all its gaps are at most 64
  abbrev word : ℕ
  word = word_of (gaps_to (set_said l) 64)

  -- its genus is the number of gaps up to 64
  word_count : genus word ≡ count_below (λ x. not (set_said l x)) 65
  unfolding genus
  word_count =
      ap length (gaps_of_word (gaps_to (set_said l) 64) (gaps_to_list (set_said l) 64 (omega arith)))
      ∙ gaps_to_count (set_said l) (said_zero l) 64

  -- where these are as many as all, no gap is above 64
  none_above : genus word ≡ total l → (x : ℕ) → set_said l x ≡ false → x ≤ 64
  none_above e x gap =
      let p : Set = λ y. not (set_said l y) in
      le_of_suc-le-suc (lt_of_not-le (λ past.
      omega (
        arith,
        word_count,
        count_up p {x = 65} {y = x} past,
        count_lt p x (modulus l * total l) (ap not gap) (said_gap_below l x gap),
        said_count l (total l) (le_refl (total l)),
      )))

  -- where no gap is above 64, it has the set
  said_word : ((x : ℕ) → set_said l x ≡ false → x ≤ 64) → (word < 2 ^ 64) × ((x : ℕ) → set_of word x ≡ set_said l x)
  said_word within = word_of_set (set_said l) (said_zero l) within

  -- the inequalities hold just where the word of the set is closed and its genus is the sum of the entries
  pub inequalities_by_word : sum_over (λ x. x) l ≤ 32
      → inequalities l ≡ (closed (word_of (gaps_to (set_said l) 64)) && eqb (genus (word_of (gaps_to (set_said l) 64))) (sum_over (λ x. x) l))
  inequalities_by_word few =
      true_together (inequalities l) (closed word && eqb (genus word) (total l))
      (λ e.
      let s = (inequalities_iff l).0 e in
      let (fits, same) = said_word (said_gap_le_64 l s few) in
      (and-eq-true_iff (closed word) (eqb (genus word) (total l))).1
      ((closed_said l word fits same).1 s, eq-eqb (genus word) (total l) (genus_said l word fits same)))
      (λ e.
      let (c, g) = (and-eq-true_iff (closed word) (eqb (genus word) (total l))).0 e in
      let (fits, same) = said_word (none_above (eqb-true (genus word) (total l) g)) in
      (inequalities_iff l).1 ((closed_said l word fits same).0 c))

  -- ---- the questions

  -- the first two tests
  abbrev positives : Bool
  positives = every (ltb 0) l

  abbrev small : Bool
  small = leb (total l) 32

  -- refused 11 where an entry is 0
  pub refused_zero_coordinate : (word_from_coordinates_of l ≡ refused 11) ↔ Memᴰ 0 l
  unfolding word_from_coordinates_of
  refused_zero_coordinate = (
    λ e. (zero_iff l).0 (first_no 11 12 13 (omega arith) (omega arith) word positives small (inequalities l) e),
    λ m. rw ((zero_iff l).1 m),
  )

  -- else 12 where the sum is above 32
  pub refused_sum : (word_from_coordinates_of l ≡ refused 12) ↔ (((x : ℕ) → Memᴰ x l → 1 ≤ x) × (32 < sum_over (λ x. x) l))
  unfolding word_from_coordinates_of
  refused_sum = (
    λ e.
        let (p, q) = second_no 11 12 13 (omega arith) (omega arith) word positives small (inequalities l) e in
        ((positive_iff l).0 p, leb-false (total l) 32 q),
    λ (h, n). rw ((positive_iff l).1 h, lt-leb (total l) 32 n),
  )

  -- else 13 where an inequality fails
  pub refused_inequality : (word_from_coordinates_of l ≡ refused 13)
      ↔ (((x : ℕ) → Memᴰ x l → 1 ≤ x) × (sum_over (λ x. x) l ≤ 32) × ¬ InequalitiesHold l)
  unfolding word_from_coordinates_of
  refused_inequality = (
    λ e.
        let (p, q, r) = third_no 11 12 13 (omega arith) (omega arith) word positives small (inequalities l) e in
        ((positive_iff l).0 p, leb-true (total l) 32 q, λ s. not_both ((inequalities_iff l).1 s) r),
    λ (h, few, n). rw ((positive_iff l).1 h, le-leb (total l) 32 few, is_false (inequalities l) (λ e. n ((inequalities_iff l).0 e))),
  )

  -- the word of an accepted list has the set that the list says
  accepted_word : AcceptedCoordinates l → (word < 2 ^ 64) × ((x : ℕ) → set_of word x ≡ set_said l x)
  accepted_word a = said_word (said_gap_le_64 l a.sums a.few)

  -- else the word of the set is given
  pub given_coordinates_iff : (w : ℕ) → (word_from_coordinates_of l ≡ given w)
      ↔ (AcceptedCoordinates l × (w < 2 ^ 64) × ((x : ℕ) → set_of w x ≡ set_said l x))
  unfolding word_from_coordinates_of
  given_coordinates_iff w = (
    λ e.
        let (p, q, r, v) = all_yes 11 12 13 (omega arith) (omega arith) word w positives small (inequalities l) e in
        let a : AcceptedCoordinates l =
        record { positive = (positive_iff l).0 p; few = leb-true (total l) 32 q; sums = (inequalities_iff l).0 r } in
        let (fits, same) = accepted_word a in
        subst (λ (u : ℕ). AcceptedCoordinates l × (u < 2 ^ 64) × ((x : ℕ) → set_of u x ≡ set_said l x)) v (a, fits, same),
    λ (a, fits, same).
        let (low, said) = accepted_word a in
        rw ((positive_iff l).1 a.positive, le-leb (total l) 32 a.few, (inequalities_iff l).1 a.sums)
        (ap given (same_set word w low fits (λ x. said x ∙ sym (same x)))),
  )

-- ---- the coordinates of a word

module _ (w : ℕ) (fits : w < 2 ^ 64) where
  -- those of a closed word add up to its genus
  pub coordinates_sum : closed w ≡ true → sum_over (λ x. x) (kunz_coordinates w) ≡ genus w
  coordinates_sum c = sym (genus_said (kunz_coordinates w) w fits (λ x. sym (said_coordinates w fits c x)))

  module _ (h : Accepted w) where
    -- those of an accepted word are at most 32
    pub coordinates_le_32 : length (kunz_coordinates w) ≤ 32
    coordinates_le_32 = omega (arith, coordinates_number w, multiplicity_le_genus w fits, h.few)

    -- and give the word
    pub coordinates_give_word : word_from_coordinates_of (kunz_coordinates w) ≡ given w
    coordinates_give_word =
        let l = kunz_coordinates w in
        let same : (x : ℕ) → set_of w x ≡ set_said l x = λ x. sym (said_coordinates w fits h.closed x) in
        (given_coordinates_iff l w).1 (
          record {
            positive = coordinates_positive w fits;
            few = omega (arith, coordinates_sum h.closed, h.few);
            sums = (closed_said l w fits same).0 h.closed;
          },
          fits,
          same,
        )

  -- what the call writes of an accepted word, given back, gives the word
  pub listed_coordinates_give_word : (lent l : List ℕ) (n : ℕ) → coordinates_of w lent ≡ giving n l
      → word_from_coordinates_of (take n l) ≡ given w
  unfolding coordinates_of
  listed_coordinates_give_word lent l n e =
      let (h, count, list) = list_given w (kunz_coordinates w) lent l n e in
      ap₂ (λ (k : ℕ) (m : List ℕ). word_from_coordinates_of (take k m)) count list
      ∙ ap word_from_coordinates_of (fronted_front (kunz_coordinates w) lent)
      ∙ coordinates_give_word h

-- ---- the word of a list

-- a word of the set that a list of positive entries says
module _ (l : List ℕ) (w : ℕ) (positive : every (ltb 0) l ≡ true) (fits : w < 2 ^ 64) (same : (x : ℕ) → set_of w x ≡ set_said l x) where
  -- its multiplicity is the m of the list
  multiplicity_said : multiplicity w ≡ modulus l
  multiplicity_said =
      le_antisymm (multiplicity_least w fits (modulus l) (omega arith) (same (modulus l) ∙ said_modulus l))
      (le_of_suc-le-suc (lt_of_not-le (λ low.
      not_both (sym (same (multiplicity w)) ∙ multiplicity_in w fits)
      (said_below l positive (multiplicity w) (multiplicity_pos w fits) low))))

  -- each coordinate is the entry
  coordinate_said : (i : ℕ) → i < multiplicity w → coordinate w i ≡ entry_at l i
  coordinate_said i h =
      coordinate_is w fits i (entry_at l i) h
      (rw (multiplicity_said, fun_ext same) (said_coordinate l i (omega (arith, multiplicity_said))))

  -- so that its coordinates are the list
  coordinates_of_said : kunz_coordinates w ≡ l
  unfolding entry_at
  coordinates_of_said =
      ext_get_or 0 (kunz_coordinates w) l (omega (arith, multiplicity_said, coordinates_number w))
      (λ i h.
      let low : suc i < multiplicity w = omega (arith, coordinates_number w) in
      entry_coordinates w fits (suc i) low ∙ coordinate_said (suc i) low)

module _ (l : List ℕ) (w : ℕ) (made : word_from_coordinates_of l ≡ given w) where
  -- the word of an accepted list is accepted, and its coordinates are the list
  pub word_gives_coordinates : (w < 2 ^ 64) × Accepted w × (kunz_coordinates w ≡ l)
  word_gives_coordinates =
      let (a, fits, same) = (given_coordinates_iff l w).0 made in (
        fits,
        record { closed = (closed_said l w fits same).1 a.sums; few = omega (arith, genus_said l w fits same, a.few) },
        coordinates_of_said l w ((positive_iff l).1 a.positive) fits same,
      )

  -- the call lists them, in a list that holds them
  pub word_lists_coordinates : (lent : List ℕ) → length l ≤ length lent → coordinates_of w lent ≡ filled l lent
  unfolding coordinates_of
  word_lists_coordinates lent long =
      let (_, h, e) = word_gives_coordinates in
      subst (λ (k : List ℕ). length k ≤ length lent → coordinates_of w lent ≡ filled k lent) e (room w (kunz_coordinates w) lent h) long

-- the accepted lists are the lists of coordinates of accepted words
pub accepted_coordinates_iff : (l : List ℕ) → AcceptedCoordinates l ↔ ((w : ℕ) × (w < 2 ^ 64) × Accepted w × (kunz_coordinates w ≡ l))
accepted_coordinates_iff l = (
  λ a.
      let (low, said) = accepted_word l a in
      let (fits, h, e) = word_gives_coordinates l (word l) ((given_coordinates_iff l (word l)).1 (a, low, said)) in
      (word l, fits, h, e),
  λ (w, fits, h, e). subst AcceptedCoordinates e ((given_coordinates_iff (kunz_coordinates w) w).0 (coordinates_give_word w fits h)).0,
)

-- two accepted lists that say the same set are equal
pub said_unique : (k l : List ℕ) → AcceptedCoordinates k → AcceptedCoordinates l → ((x : ℕ) → set_said k x ≡ set_said l x) → k ≡ l
said_unique k l a b same =
    let (fits, said) = accepted_word k a in
    let gives : (j : List ℕ) → AcceptedCoordinates j → ((x : ℕ) → set_of (word k) x ≡ set_said j x) → kunz_coordinates (word k) ≡ j =
    λ j c e. (word_gives_coordinates j (word k) ((given_coordinates_iff j (word k)).1 (c, fits, e))).2 in
    sym (gives k a said) ∙ gives l b (λ x. said x ∙ same x)

-- of all sets: each numerical semigroup with at most 32 gaps is said by an accepted list
pub semigroup_said : (S : Set) (g : ℕ) → NumericalSemigroup S → HasGenus S g → g ≤ 32
    → (l : List ℕ) × AcceptedCoordinates l × ((x : ℕ) → set_said l x ≡ S x)
semigroup_said S g s genus-is few =
    let listed = genus_list_all g few in
    let (w, same, m) = listed.all S (s, genus-is) in
    let fits = listed.fits w m in
    let (semigroup, own) = listed.only w m in
    let h : Accepted w = record {
      closed = (closed_iff w fits).1 semigroup.closed;
      few = omega (arith, genus_unique (set_of w) (genus w) g (word_genus w fits) own);
    } in (
      kunz_coordinates w,
      (accepted_coordinates_iff (kunz_coordinates w)).1 (w, fits, h, refl),
      λ x. said_coordinates w fits h.closed x ∙ same x,
    )
