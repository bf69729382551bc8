-- `descendants::write_from` meets its contract: a word that the window holds is below the word 0, and the words are put from it on. Assumes
-- nothing.
use Prim.Native.Nat.{◌≤◌}
use mathlib.Core.Path.{◌≡◌, sym, ◌∙◌}
use mathlib.Core.Bool.{true}
use Rattle.nodes.proofs.Levels.{whole_tree}
use Rattle.windows.specs.Windows.{holds}
use Rattle.descendants.proofs.Onward.{from_refused, from_small, from_leaf, from_leaves}
use Rattle.descendants.proofs.write_from.Goals as goal
use Rattle.descendants.proofs.write_from.Goals.{Else-not-has_word}

-- the window holds the word
held : (c : Else-not-has_word) → let a = c.args in holds a.genus a.window.lowest a.window.highest a.word ≡ true
held c = sym c.has_word.ensures ∙ c.if-not-has_word.false

-- so the genus is at most 32
few : (c : Else-not-has_word) → c.args.genus ≤ 32
few c = from_small _ _ _ _ c.ranges.word.fits (held c)

pub returns-then-not-has_word : goal.returns-then-not-has_word
returns-then-not-has_word c = sym (from_refused _ _ _ _ _ (sym c.has_word.ensures ∙ c.if-not-has_word.true))

pub resume-requires : goal.resume-requires
resume-requires c =
    let here = (goal.at.resume-requires c).Else-not-has_word in
    let leaf = from_leaf _ _ _ _ c.ranges.word.fits (held here) in
    record {
      fact = rw (whole_tree (few here) c.of_genus.ensures) leaf.0;
      lowest_bound = leaf.1;
    }

pub returns : goal.returns
returns c =
    let here = (goal.at.returns c).Else-not-has_word in
    from_leaves _ _ _ _ c.ranges.word.fits (held here) _ (rw (whole_tree (few here) c.of_genus.ensures) at c.resume.ensures)
