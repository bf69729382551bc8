-- `kunz::coordinates_of` meets its contract. Assumes nothing.
use Prim.Native.Nat.{ℕ, ◌-◌}
use mathlib.Core.Path.{◌≡◌, sym, ap₂, ◌∙◌}
use native.Mathlib.Omega.{arith}
use lib.ListN.{length}
use Rattle.semigroups.proofs.Elements.{multiplicity_pos}
use Rattle.answers.specs.Answers.{giving}
use Rattle.words.proofs.Looks.{no_room, room}
use Rattle.coordinates.specs.Coordinates.{kunz_coordinates, coordinates_of}
use Rattle.coordinates.proofs.WordCoordinates.{coordinates_number}
use Rattle.kunz.proofs.coordinates_of.Goals as goal

pub overflow_sub-count : goal.overflow_sub-count
overflow_sub-count c = omega (arith, c.requires.multiplicity_is, multiplicity_pos c.args.word c.ranges.word.fits)

pub returns-then-out-count : goal.returns-then-out-count
unfolding coordinates_of
returns-then-out-count c =
    let w : ℕ = c.args.word in
    sym (no_room w (kunz_coordinates w) c.args.out.now c.requires.accepted
    (omega (arith, c.requires.multiplicity_is, coordinates_number w)))

pub write_coordinates-requires : goal.write_coordinates-requires
write_coordinates-requires c = (c.requires, omega (arith, c.requires.multiplicity_is, coordinates_number c.args.word))

pub returns : goal.returns
unfolding coordinates_of
returns c =
    let w : ℕ = c.args.word in
    let number : c.args.m - 1 ≡ length (kunz_coordinates w) = omega (arith, c.requires.multiplicity_is, coordinates_number w) in
    ap₂ giving number c.write_coordinates.ensures
    ∙ sym (room w (kunz_coordinates w) c.args.out.now c.requires.accepted (omega arith))
