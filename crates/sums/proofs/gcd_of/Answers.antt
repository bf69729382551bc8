-- `sums::gcd_of` meets its contract: the fold takes the members from the end on. Assumes nothing.
use Rattle.std.proofs.Common.{rules, tests, ◌≡◌, ◌∙◌, length, take}
use Rattle.std.proofs.lemmas.Iterator.Adapters.{YieldsList-from_rev_slice}
use Rattle.std.proofs.lemmas.Iterator.Consumers.{fold_from_yields_List}
use lib.Seq.{take-length}
use Rattle.sums.specs.Divisors.{gcd}
use Rattle.sums.proofs.Divisors.{gcd_reversed}
use Rattle.sums.proofs.gcd_of.Goals as goal

pub returns : goal.returns
returns c =
    let list = c.args.list.now in
    -- a part as long as the list is the list: so the list that is gone over is told apart from a shorter part of it
    let part : take (length list) list ≡ list = take-length list in
    fold_from_yields_List _ (λ d a. gcd a d) 0 _ c.fold.ensures.ran (YieldsList-from_rev_slice list cc) (λ d a b q k. search (rules, tests))
    ∙ gcd_reversed list
