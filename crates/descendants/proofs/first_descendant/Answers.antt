-- `descendants::first_descendant` meets its contract: the questions are those of the word's node and of the genus, and the first word below the word
-- is sought from its node on. Assumes nothing.
use mathlib.Core.Path.{◌≡◌, sym, ap, ◌∙◌}
use native.Mathlib.Omega.{arith}
use Rattle.std.proofs.lemmas.Result.{err_from_is_err_and}
use Rattle.answers.specs.Answers.{refused, given}
use Rattle.words.specs.Looks.{Accepted}
use Rattle.words.proofs.Looks.{word_refused, word_given}
use Rattle.nodes.specs.Nodes.{node_of}
use Rattle.nodes.proofs.Levels.{accepted_levels}
use Rattle.tables.specs.Answers.{node_answer}
use Rattle.descendants.specs.Descendants.{first_descendant_of}
use Rattle.descendants.proofs.Descendants.{descendant_refused, descendant_below, descendant_leaves}
use Rattle.descendants.proofs.first_descendant.Goals as goal
use Rattle.descendants.proofs.first_descendant.Goals.{In_ok-n}

-- a word whose node is given is accepted, and the node is its
accepted : (c : In_ok-n) → let w = c.args.word in Accepted w × (c.in_ok-n.n ≡ node_of w)
unfolding node_answer
accepted c = word_given _ (node_of _) _ (sym c.in_ok-n.ensures)

pub returns-in_err-n : goal.returns-in_err-n
unfolding first_descendant_of node_answer
returns-in_err-n c =
    let p = err_from_is_err_and c.from_residual.result c.from_residual.ensures.1 in
    rw (p.1, p.2) (sym (word_refused _ (node_of _) refused _ _ (sym c.in_err-n.ensures)))

pub returns-then-genus-gt32 : goal.returns-then-genus-gt32
returns-then-genus-gt32 c = sym (descendant_refused _ _ (accepted (goal.at.returns-then-genus-gt32 c).In_ok-n).0 c.if-genus-gt32.true)

pub returns-then-genus-own : goal.returns-then-genus-own
returns-then-genus-own c = sym (descendant_below _ _ (accepted (goal.at.returns-then-genus-own c).In_ok-n).0 (omega (arith, c.genus_of-own.ensures)))

pub invariant_of-first_leaf : goal.invariant_of-first_leaf
invariant_of-first_leaf c =
    let at = (goal.at.invariant_of-first_leaf c).In_ok-n in
    let levels = accepted_levels _ _ c.ranges.word.fits (accepted at).0 (omega (arith, c.genus_of-own.ensures)) in
    record { levels = rw ((accepted at).1, c.genus_of-own.ensures) levels }

pub returns : goal.returns
unfolding node_of
returns c =
    let at = (goal.at.returns c).In_ok-n in
    ap given (rw ((accepted at).1, c.genus_of-own.ensures) at c.first_leaf.ensures)
    ∙ sym (descendant_leaves _ _ (accepted at).0 c.if-genus-gt32.false (omega (arith, c.genus_of-own.ensures)) c.ranges.word.fits)
