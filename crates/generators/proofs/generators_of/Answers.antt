-- `generators::generators_of` meets its contract. Assumes nothing.
use Prim.Native.Nat.{ℕ, ◌+◌, ◌≤◌}
use mathlib.Core.Path.{◌≡◌, sym, ap, ap₂, ◌∙◌}
use mathlib.Core.List.{List, ◌++◌, map}
use native.Mathlib.Omega.{arith}
use native.Mathlib.Nat.{zero-add}
use lib.ListN.{length, length-map}
use Rattle.semigroups.specs.Lists.{fronted}
use Rattle.semigroups.specs.Positions.{positions}
use Rattle.semigroups.proofs.Lists.{fronted_length, fronted_twice}
use Rattle.semigroups.proofs.StandingBits.{positions_le}
use Rattle.answers.specs.Answers.{giving}
use Rattle.words.proofs.Looks.{no_room, room}
use Rattle.nodes.specs.Nodes.{first_row}
use Rattle.nodes.proofs.Levels.{node_accepted, node_conductor, node_offsets, conductor_within}
use Rattle.generators.specs.Generators.{minimal_generators, generators_of}
use Rattle.generators.proofs.LowGenerators.{generators_listed, generators_length}
use Rattle.generators.proofs.generators_of.Goals as goal

pub low_generators-low-requires : goal.low_generators-low-requires
low_generators-low-requires c = (node_conductor 0 _ c.requires, (conductor_within 0 _ c.requires).1)

pub overflow_add-count : goal.overflow_add-count
overflow_add-count c =
    let low : ℕ = c.low_generators-low.result in
    let n = c.args.n in
    omega (arith, c.standing_bits.ensures, positions_le low, c.generators.ensures, node_offsets 0 n c.requires, positions_le (first_row n))

pub returns-then-out-count : goal.returns-then-out-count
unfolding generators_of
returns-then-out-count c =
    let n = c.args.n in
    let many = generators_length n c.requires _ c.low_generators-low.ensures in
    sym (no_room n.word (minimal_generators n.word) c.args.out.now (node_accepted 0 n c.requires)
    (omega (arith, many, c.if-out-count.true, c.standing_bits.ensures, c.generators.ensures)))

pub write_bits-end-requires : goal.write_bits-end-requires
write_bits-end-requires c =
    let n = c.args.n in
    let low : ℕ = c.low_generators-low.result in
    let (place, list) = c.write_bits-at.ensures in
    let fits = c.if-out-count.false in
    let first_count = c.standing_bits.ensures in
    let second-count = c.generators.ensures in
    let row_count = ap (λ (b : ℕ). length (positions b)) c.first_row.ensures ∙ node_offsets 0 n c.requires in
    let sized = ap length list ∙ fronted_length (map (λ d. 1 + d) (positions low)) c.args.out.now (omega (arith, fits, first_count, length-map (positions low) (λ d. 1 + d))) in
    (omega (arith, conductor_within 0 n c.requires), omega (arith, place, sized, fits, first_count, second-count, row_count))

pub returns : goal.returns
unfolding generators_of
returns c =
    let n = c.args.n in
    let w : ℕ = n.word in
    let out = c.args.out.now in
    let low : ℕ = c.low_generators-low.result in
    let row : ℕ = c.first_row.result in
    let found = c.low_generators-low.ensures in
    let many = generators_length n c.requires low found in
    let (place, list) = c.write_bits-at.ensures in
    let (end, all) = c.write_bits-end.ensures in
    let enough : length (minimal_generators w) ≤ length out =
    omega (arith, many, c.if-out-count.false, c.standing_bits.ensures, c.generators.ensures) in
    let l : List ℕ = map (λ d. 1 + d) (positions low) in
    let k : List ℕ = map (λ d. n.conductor + d) (positions row) in
    let row_count = ap (λ (b : ℕ). length (positions b)) c.first_row.ensures ∙ node_offsets 0 n c.requires in
    let number : c.write_bits-end.result ≡ length (minimal_generators w) = omega (arith, end, place, row_count, many) in
    ap₂ giving
    number
    (all ∙ fronted_twice l out k _ _ (place ∙ zero-add (length (positions low)) ∙ sym (length-map (positions low) (λ d. 1 + d))) list
    ∙ ap (λ (g : List ℕ). fronted g out)
    (ap (λ (b : ℕ). l ++ map (λ d. n.conductor + d) (positions b)) c.first_row.ensures ∙ sym (generators_listed n c.requires low found)))
    ∙ sym (room w (minimal_generators w) out (node_accepted 0 n c.requires) enough)
