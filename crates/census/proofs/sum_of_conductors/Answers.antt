-- `census::sum_of_conductors` meets its contract. Assumes nothing.
use Rattle.std.proofs.Common.{◌≡◌, ℕ, suc, ◌+◌, ◌*◌, ◌-◌, ◌%◌, ◌^◌, ◌≤◌, ◌<◌, List, [], ◌∷◌, get_or, length, take, refl, ap, ◌∙◌, arith, add-one}
use Rattle.std.proofs.lemmas.List.{get_or-take, length-take, length-take-le}
use Rattle.semigroups.specs.Lists.{run, sum_over}
use Rattle.semigroups.proofs.Lists.{run_below, run_last, sum_append}
use Rattle.census.specs.Private.{conductors_in}
use Rattle.census.proofs.sum_of_conductors.Goals as goal

-- what the place p adds
abbrev added : List ℕ → ℕ → ℕ
added o p = p % 65 * get_or o p 0

-- the sum over the places before p
abbrev before_place : List ℕ → ℕ → ℕ
before_place o p = sum_over (added o) (run 0 p)

-- one place more
next_place : (o : List ℕ) (p : ℕ) → before_place o (suc p) ≡ before_place o p + added o p
unfolding sum_over
next_place o p = ap (sum_over (added o)) (run_last p) ∙ sum_append (added o) (run 0 p) (p ∷ []) ∙ omega arith

-- it is at most the whole sum
below_whole : (o : List ℕ) (p : ℕ) → p ≤ 2210 → before_place o p ≤ conductors_in o
unfolding conductors_in
below_whole o p h =
    let whole : p + (2210 - p) ≡ 2210 = omega arith in
    omega (arith, ap (λ (n : ℕ). sum_over (added o) (run 0 n)) whole, ap (sum_over (added o)) (run_below p (2210 - p)), sum_append (added o) (run 0 p) (run p (2210 - p)))

-- what the place adds fits, with what was summed before it
fits_with : (o : List ℕ) (p : ℕ) → p < 2210 → conductors_in o < 2 ^ 64 → before_place o p + added o p < 2 ^ 64
fits_with o p h fits = omega (arith, next_place o p, below_whole o (suc p) h)

-- the number at one of the first places
within : (k : ℕ) (o : List ℕ) (p : ℕ) → p < length (take k o) → get_or (take k o) p 0 ≡ get_or o p 0
within k o p h = get_or-take k o p 0 (omega (arith, length-take k o))

pub loop-p-init : goal.loop-p-init
unfolding run sum_over
loop-p-init c = refl

pub overflow_mul-sum : goal.overflow_mul-sum
overflow_mul-sum c =
    let h = c.loop-p-test.true in
    let here : c.loop-p.p < 2210 = omega (arith, length-take {A = ℕ}) in
    rw within record { fits = omega (arith, fits_with c.args.out.now c.loop-p.p here c.requires.1) }

pub overflow_add-sum : goal.overflow_add-sum
overflow_add-sum c =
    let h = c.loop-p-test.true in
    let here : c.loop-p.p < 2210 = omega (arith, length-take {A = ℕ}) in
    rw within record { fits = omega (arith, fits_with c.args.out.now c.loop-p.p here c.requires.1, c.loop-p.invariant) }

pub loop-p-preserved : goal.loop-p-preserved
loop-p-preserved c =
    let o : List ℕ = c.args.out.now in
    let p : ℕ = c.loop-p.p in
    let h = c.loop-p-test.true in
    rw within (omega (arith, c.loop-p.invariant, next_place o p, ap (before_place o) (add-one p)))

pub returns : goal.returns
unfolding conductors_in
returns c = c.loop-p.invariant ∙ ap (before_place c.args.out.now) (omega (arith, length-take-le 2210 c.args.out.now c.requires.0))
