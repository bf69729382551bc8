-- `generators::generators` meets its contract: the node of an accepted word tells what the work needs. Assumes nothing.
use mathlib.Core.Path.{◌≡◌, sym, ap, ◌∙◌}
use native.Mathlib.Omega.{arith}
use Rattle.answers.specs.Answers.{unchanged}
use Rattle.answers.proofs.Answers.{listed_on}
use Rattle.words.specs.Looks.{listed_into, Accepted}
use Rattle.words.proofs.Looks.{word_refused, word_given}
use Rattle.nodes.specs.Nodes.{node_of}
use Rattle.nodes.specs.declared.Node.{Node}
use Rattle.nodes.proofs.Levels.{accepted_levels}
use Rattle.tables.specs.Answers.{node_answer}
use Rattle.generators.specs.Generators.{generators_of}
use Rattle.generators.proofs.generators.Goals as goal
use Rattle.generators.proofs.generators.Goals.{In_ok-n}

-- a word whose node is given is accepted, and the node is its
accepted : (c : In_ok-n) → let w = c.args.word in Accepted w × (c.in_ok-n.n ≡ node_of w)
unfolding node_answer
accepted c = word_given _ (node_of _) _ (sym c.in_ok-n.ensures)

pub generators_of-requires : goal.generators_of-requires
generators_of-requires c =
    let (at, same) = accepted (goal.at.generators_of-requires c).In_ok-n in
    rw same (accepted_levels 0 _ (omega arith) at (omega (arith, at.few)))

pub returns-in_err-n : goal.returns-in_err-n
unfolding generators_of listed_into node_answer
returns-in_err-n c = listed_on _ _ c.args.out.now c.from_residual.ensures.1 (sym (word_refused c.args.word (node_of c.args.word) (unchanged c.args.out.now) _ _ (sym c.in_err-n.ensures)))

pub returns : goal.returns
unfolding node_of
returns c =
    let (at, same) = accepted (goal.at.returns c).In_ok-n in
    c.generators_of.ensures ∙ ap (λ (n : Node). generators_of n.word c.args.out.now) same
