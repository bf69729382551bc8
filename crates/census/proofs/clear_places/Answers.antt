-- `census::clear_places` meets its contract. Assumes nothing.
use Rattle.std.proofs.Common.{ℕ, ◌++◌, List, ap, ◌∙◌, sym, drop, replicate}
use Rattle.std.proofs.lemmas.List.{length-take-le}
use Rattle.semigroups.specs.Lists.{fronted}
use Rattle.census.specs.Private.{blank}
use Rattle.census.proofs.Tallies.{blank_length}
use Rattle.census.proofs.clear_places.Goals as goal

pub returns : goal.returns
unfolding fronted blank
returns c =
    ap (λ (l : List ℕ). l ++ drop 2210 c.args.out.now) (c.fill.ensures.after (λ y e. e) ∙ ap (λ (k : ℕ). replicate k 0) (length-take-le 2210 c.args.out.now c.requires))
    ∙ ap (λ (k : ℕ). blank 2210 ++ drop k c.args.out.now) (sym (blank_length 2210))
