-- `job_format::allows_all` meets its contract: the chain is the library's word for such a test. Assumes nothing.
use Rattle.std.proofs.Common.{ℕ, rules, tests, refl, sym, ◌∙◌}
use mathlib.Core.Bool.{Bool, not, ◌||◌}
use Rattle.std.proofs.lemmas.Iterator.{YieldsList-from_range}
use Rattle.std.proofs.lemmas.Iterator.Search.{all_from_yields_List}
use Rattle.semigroups.specs.Lists.{run}
use Rattle.semigroups.specs.Words.{bit}
use Rattle.semigroups.proofs.Lists.{every_list_all}
use Rattle.job_format.specs.Format.{version_has, has_bits}
use Rattle.job_format.proofs.allows_all.Goals as goal

pub returns : goal.returns
unfolding has_bits run
returns c =
    let allowed : ℕ → Bool = λ i. not (bit c.args.map i) || version_has c.args.version i in
    all_from_yields_List allowed _ _ c.all.result c.all.ensures.ran (YieldsList-from_range 0 8 8 (cc) refl) (λ x b q k. search (rules, tests))
    ∙ sym (every_list_all allowed (run 0 8))
