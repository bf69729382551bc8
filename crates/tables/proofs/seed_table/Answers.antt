-- `tables::seed_table` meets its contract: the node of an accepted word carries its table and tells the number of 1s in row 0. Assumes nothing.
use Prim.Native.Nat.{ℕ}
use mathlib.Core.Path.{sym, ap, ap₂, ◌∙◌}
use native.Mathlib.Omega.{arith}
use lib.Count.{ones}
use Rattle.answers.specs.Answers.{refused, given}
use Rattle.answers.proofs.Answers.{handed_on}
use Rattle.words.proofs.Looks.{word_refused, word_given}
use Rattle.nodes.specs.Nodes.{node_of, first_row}
use Rattle.nodes.specs.declared.Node.{Node}
use Rattle.nodes.proofs.FirstRow.{first_row_ones_count}
use Rattle.nodes.proofs.Nodes.{first_row_count}
use Rattle.tables.specs.Answers.{node_answer, table_of}
use Rattle.tables.proofs.Children.{table_given_is}
use Rattle.tables.proofs.seed_table.Goals as goal

pub returns-in_err-n : goal.returns-in_err-n
unfolding table_of node_answer
returns-in_err-n c = handed_on _ _ c.from_residual.ensures.1 (sym (word_refused _ (node_of _) refused _ _ (sym c.in_err-n.ensures)))

pub returns : goal.returns
unfolding node_of node_answer
returns c =
    let (h, same) = word_given _ (node_of _) _ (sym c.in_ok-n.ensures) in
    ap₂ (λ (s n : ℕ). given record { table = s; generators = n }) (ap (λ (n : Node). n.table) same)
    (c.generators.ensures ∙ ap (λ (n : Node). ones (first_row n)) same ∙ sym (first_row_count _ (omega arith) h.closed h.few) ∙ sym (first_row_ones_count _ (omega arith)))
    ∙ sym (table_given_is _ h)
