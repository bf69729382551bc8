-- `job_format::field_place` meets its contract: the chain is the library's sum. Assumes nothing.
use Rattle.std.proofs.Common.{ℕ, ◌≡◌, arith, rules, tests}
use Rattle.std.specs.List.{range_with_len, sum_by}
use Rattle.std.proofs.lemmas.Iterator.{YieldsList-from_range, YieldsList-from_map}
use Rattle.std.proofs.lemmas.Iterator.Consumers.{sum_by_from_yields_List, fits_by_from_yields_list}
use Rattle.job_format.specs.Format.{field_size}
use Rattle.job_format.proofs.Format.{size_le, place_sum, place_le}
use Rattle.job_format.proofs.field_place.Goals as goal
use Rattle.job_format.proofs.field_place.Goals.{After-field_size}

pub sum-before-requires-clause-fits : goal.sum-before-requires-clause-fits
sum-before-requires-clause-fits c =
    let map : ℕ = c.args.map in
    let at : ℕ = c.args.at in
    fits_by_from_yields_list (field_size map) (range_with_len 0 at) _ _
    (YieldsList-from_map _ (field_size map) (YieldsList-from_range 0 at at (cc) (omega arith)) c.map.ensures.closure (λ x r q k. search (rules, tests)))
    (omega (arith, place_sum map at, place_le map at))

-- the sum is that of the sizes of the fields before
before : (c : After-field_size) → c.sum-before.result ≡ sum_by (field_size c.args.map) (range_with_len 0 c.args.at)
before c =
    let map : ℕ = c.args.map in
    let at : ℕ = c.args.at in
    sum_by_from_yields_List (field_size map) (range_with_len 0 at) _ c.sum-before.result c.sum-before.ensures.ran
    (YieldsList-from_map _ (field_size map) (YieldsList-from_range 0 at at (cc) (omega arith)) c.map.ensures.closure (λ x r q k. search (rules, tests)))

pub overflow_add-result : goal.overflow_add-result
overflow_add-result c = omega (arith, c.field_size.ensures, size_le c.args.map 7)

pub overflow_add-result-2 : goal.overflow_add-result-2
overflow_add-result-2 c = omega (arith, c.field_size.ensures, before c, place_sum c.args.map c.args.at, place_le c.args.map c.args.at)

pub returns : goal.returns
returns c = omega (arith, c.field_size.ensures, before c, place_sum c.args.map c.args.at)
