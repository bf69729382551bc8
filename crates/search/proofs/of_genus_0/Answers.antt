-- `search::of_genus_0` meets its contract: the byte 255 is the signed number -1. Assumes nothing.
use mathlib.Core.Path.{sym, ap, ◌∙◌}
use native.Mathlib.Omega.{arith}
use mir.Syntax.{w8}
use mir.Val.{to_z, of_z}
use mir.Facts.{to_z-of_z}
use Rattle.search.proofs.Possible.{zero_found, zero_none}
use Rattle.search.proofs.of_genus_0.Goals as goal

pub returns-then-largest_gap-neminus1 : goal.returns-then-largest_gap-neminus1
returns-then-largest_gap-neminus1 c = sym (zero_none _ _ (λ e d. c.if-largest_gap-neminus1.true (ap (of_z w8) e)))

pub returns-then-multiplicity-ne1 : goal.returns-then-multiplicity-ne1
returns-then-multiplicity-ne1 c = sym (zero_none _ _ (λ e d. omega (arith, c.if-multiplicity-ne1.true)))

pub returns : goal.returns
returns c =
    sym (zero_found _ _ (sym (to_z-of_z c.ranges.largest_gap) ∙ ap (to_z w8) c.if-largest_gap-neminus1.false) c.if-multiplicity-ne1.false)
