-- `editor::all_zero` meets its contract: the chain is the library's word for such a test. Assumes nothing.
use Rattle.std.proofs.Common.{rules, tests, sym, ◌∙◌, eqb}
use Rattle.std.proofs.lemmas.Iterator.{YieldsList-from_slice}
use Rattle.std.proofs.lemmas.Iterator.Search.{all_from_yields_List}
use Rattle.semigroups.proofs.Lists.{every_list_all}
use Rattle.editor.proofs.all_zero.Goals as goal

pub returns : goal.returns
returns c =
    all_from_yields_List (eqb 0) _ _ c.all.result c.all.ensures.ran (YieldsList-from_slice c.args.list.now cc) (λ x b q k. search (rules, tests))
    ∙ sym (every_list_all (eqb 0) c.args.list.now)
