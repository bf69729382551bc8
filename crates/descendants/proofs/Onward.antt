-- The words of a window from one on: refused where the window does not hold it, and else those below the word 0 from it on that have at least
-- the lowest multiplicity. Assumes nothing.
use Prim.Native.Nat.{ℕ, ◌^◌, ◌≤◌, ◌<◌}
use mathlib.Core.Path.{◌≡◌, sym, ◌∙◌, ap, subst}
use mathlib.Core.Bool.{true, false}
use mathlib.Core.List.{List, Memᴰ}
use borrow.Author.Tests.{leb-true}
use Rattle.std.specs.Prelude.{Ok}
use Rattle.semigroups.specs.Lists.{on_from}
use Rattle.semigroups.specs.Elements.{multiplicity}
use Rattle.semigroups.specs.Tree.{leaves}
use Rattle.semigroups.proofs.GenusList.{mem_genus_list}
use Rattle.semigroups.proofs.Leaves.{genus_list_leaves}
use Rattle.answers.specs.Answers.{refused}
use Rattle.windows.specs.Windows.{holds}
use Rattle.windows.proofs.Windows.{window_mem, window_on_from}
use Rattle.windows.proofs.Held.{held_mem, held_small}
use Rattle.lending.specs.Lending.{Lent, put_all}
use Rattle.descendants.specs.Descendants.{filled_given, write_from_of}
use Rattle.descendants.specs.Cut.{from_multiplicity}

module _ (g lo hi w : ℕ) where
  -- where the window does not hold the word, nothing is written
  pub from_refused : (lent : List ℕ) → holds g lo hi w ≡ false → write_from_of g lo hi w lent ≡ (refused 4, lent)
  unfolding write_from_of
  from_refused lent e = rw e

  module _ (fits : w < 2 ^ 64) (held : holds g lo hi w ≡ true) where
    pub from_small : g ≤ 32
    from_small = leb-true g 32 (held_small g lo hi w held)

    -- the word is one of those below the word 0, with at least the lowest multiplicity
    pub from_leaf : Memᴰ w (leaves g 0) × (lo ≤ multiplicity w)
    from_leaf =
        let (h, low, high) = window_mem g lo hi (held_mem g lo hi w fits held) in
        (subst (Memᴰ w) (genus_list_leaves g from_small) (mem_genus_list g w h), low)

    -- and those from it on with at least the lowest multiplicity are written
    pub from_leaves : (lent : List ℕ) {t : Lent} → t ≡ put_all (from_multiplicity lo (on_from w (leaves g 0))) (lent, Ok 0) → filled_given t ≡ write_from_of g lo hi w lent
    unfolding write_from_of from_multiplicity
    from_leaves lent e =
        let words = window_on_from g lo hi w (held_mem g lo hi w fits held) ∙ ap (λ (l : List ℕ). from_multiplicity lo (on_from w l)) (genus_list_leaves g from_small) in
        rw held (ap filled_given (e ∙ ap (λ (l : List ℕ). put_all l (lent, Ok 0)) (sym words)))
