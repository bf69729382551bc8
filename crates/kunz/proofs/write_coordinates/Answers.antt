-- `kunz::write_coordinates` meets its contract. Assumes nothing.
use Prim.Native.Nat.{ℕ, suc, ◌-◌, ◌/◌, ◌^◌, ◌≤◌, ◌<◌}
use mathlib.Core.Path.{◌≡◌, refl, sym, ap, ap₂, ◌∙◌}
use mathlib.Core.List.{List, ◌++◌, append-nil}
use native.Mathlib.Omega.{arith}
use lib.Bits.{bit_and}
use lib.Count.{ones}
use lib.ListN.{length, get_or, take, drop, set, drop_of_length-le}
use lib.Seq.{take_all, length-take-le}
use Rattle.semigroups.specs.Lists.{fronted}
use Rattle.semigroups.specs.Elements.{multiplicity}
use Rattle.semigroups.proofs.Lists.{fronted_next}
use Rattle.semigroups.proofs.Elements.{multiplicity_pos}
use Rattle.semigroups.proofs.Operations.{multiplicity_le}
use Rattle.coordinates.specs.Coordinates.{kunz_coordinates, entry_at}
use Rattle.coordinates.proofs.Said.{entry_coordinates}
use Rattle.coordinates.proofs.WordCoordinates.{coordinates_number}
use Rattle.kunz.specs.Private.{multiples_as_bits}
use Rattle.kunz.proofs.ResidueBits.{coordinate_ones}
use Rattle.kunz.proofs.write_coordinates.Goals as goal

pub multiples-places-requires : goal.multiples-places-requires
multiples-places-requires c =
    let w : ℕ = c.args.word in
    let fits = c.ranges.word.fits in
    omega (arith, c.requires.0.multiplicity_is, multiplicity_pos w fits, multiplicity_le w fits)

pub slice_bounds-entry-items-count : goal.slice_bounds-entry-items-count
slice_bounds-entry-items-count c = omega (arith, c.requires.0.multiplicity_is, multiplicity_pos c.args.word c.ranges.word.fits)

pub slice_bounds-entry-items-end : goal.slice_bounds-entry-items-end
slice_bounds-entry-items-end c = omega (arith, c.requires.0.multiplicity_is, coordinates_number c.args.word)

pub slice_bounds-entry-items-length : goal.slice_bounds-entry-items-length
slice_bounds-entry-items-length c =
    sym (length-take-le (c.args.m - 1) c.args.out.now (omega (arith, c.requires.0.multiplicity_is, coordinates_number c.args.word)))

pub loop-k-init : goal.loop-k-init
unfolding fronted
loop-k-init c = refl

pub overflow_shr-entry : goal.overflow_shr-entry
overflow_shr-entry c =
    omega (arith, c.requires.0.multiplicity_is, multiplicity_le c.args.word c.ranges.word.fits, length-take-le (c.args.m - 1) c.args.out.now (omega (arith, c.requires.0.multiplicity_is, coordinates_number c.args.word)))

pub loop-k-preserved : goal.loop-k-preserved
unfolding entry_at
loop-k-preserved c =
    let w : ℕ = c.args.word in
    let fits = c.ranges.word.fits in
    let m-is = c.requires.0.multiplicity_is in
    let k : ℕ = c.loop-k.k in
    let part : List ℕ = take (c.args.m - 1) c.args.out.now in
    let whole : length part ≡ length (kunz_coordinates w) = length-take-le (c.args.m - 1) c.args.out.now (omega (arith, coordinates_number w)) ∙ omega (arith, coordinates_number w) in
    let more : k < length (kunz_coordinates w) = omega arith in
    let low : suc k < multiplicity w = omega (arith, coordinates_number w) in
    let value : ones (bit_and (w / 2 ^ k) c.multiples-places.result) ≡ get_or (kunz_coordinates w) k 0 =
    ap (λ (p : ℕ). ones (bit_and (w / 2 ^ k) p)) (c.multiples-places.ensures ∙ ap multiples_as_bits m-is) ∙ coordinate_ones w fits c.requires.0.accepted.closed k low
    ∙ sym (entry_coordinates w fits (suc k) low) in
    ap₂ (λ (o : List ℕ) (x : ℕ). set o k x) c.loop-k.invariant value ∙ fronted_next (kunz_coordinates w) part k more (omega arith)

pub returns : goal.returns
unfolding fronted
returns c =
    let w : ℕ = c.args.word in
    let out : List ℕ = c.args.out.now in
    let l : List ℕ = kunz_coordinates w in
    let part : List ℕ = take (c.args.m - 1) out in
    let whole : length part ≡ length l = length-take-le (c.args.m - 1) out (omega (arith, c.requires.0.multiplicity_is, coordinates_number w)) ∙ omega (arith, c.requires.0.multiplicity_is, coordinates_number w) in
    let all : length l ≤ c.loop-k.k = omega arith in
    let front : c.loop-k.entry-items ≡ l =
    c.loop-k.invariant ∙ ap (λ (t : List ℕ). t ++ drop (length t) part) (take_all c.loop-k.k l all) ∙ ap (λ (r : List ℕ). l ++ r) (drop_of_length-le part {i = length l} (omega arith))
    ∙ append-nil l in
    ap₂ (λ (k : List ℕ) (n : ℕ). k ++ drop n out) front (omega (arith, c.requires.0.multiplicity_is, coordinates_number w))
