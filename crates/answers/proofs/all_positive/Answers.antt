-- `answers::all_positive` meets its contract: the chain is the library's word for such a test. Assumes nothing.
use Rattle.std.proofs.Common.{rules, tests, sym, ◌∙◌, ltb}
use Rattle.std.proofs.lemmas.Iterator.{YieldsList-from_slice}
use Rattle.std.proofs.lemmas.Iterator.Search.{all_from_yields_List}
use Rattle.semigroups.proofs.Lists.{every_list_all}
use Rattle.answers.proofs.all_positive.Goals as goal

pub returns : goal.returns
returns c =
    all_from_yields_List (ltb 0) _ _ c.all.result c.all.ensures.ran (YieldsList-from_slice c.args.list.now cc) (λ x b q k. search (rules, tests))
    ∙ sym (every_list_all (ltb 0) c.args.list.now)
