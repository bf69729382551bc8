-- The loop's invariant: the bit map and the fields before that of bit `i` are written. Assumes nothing.
use Prim.Native.Nat.{ℕ, ◌≤◌}
use mathlib.Core.Path.{◌≡◌}
use mathlib.Core.List.{List}
use lib.ListN.{get_or}
use Rattle.semigroups.specs.Lists.{fronted}
use Rattle.job_format.specs.Format.{field_place, laid_before}
use Rattle.job_format.proofs.put_fields.Given as goal

-- what is written before the field of bit i
abbrev pub front_to : ℕ → List ℕ → ℕ → List ℕ
front_to map values i = laid_before map (λ j. get_or values j 0) i

abbrev pub invariant-loop-i : goal.invariant-loop-i
invariant-loop-i l = (l.i ≤ 7) × (l.at ≡ field_place l.map l.i) × (l.out ≡ fronted (front_to l.map l.values l.i) l.fn.out)
