-- `census::census` meets its contract. Assumes nothing.
use Rattle.std.proofs.Common.{◌≡◌, ℕ, ◌≤◌, min, List, map, length, sym, ap, ◌∙◌, arith}
use mathlib.Core.Path.{ap₂, subst₂}
use Rattle.semigroups.specs.Lists.{fronted}
use Rattle.semigroups.specs.Tree.{leaves}
use Rattle.semigroups.specs.GenusList.{genus_list}
use Rattle.semigroups.proofs.Lists.{fronted_length}
use Rattle.semigroups.proofs.Leaves.{genus_list_leaves}
use Rattle.answers.specs.Answers.{giving}
use Rattle.nodes.specs.Nodes.{node_of}
use Rattle.nodes.specs.declared.Node.{Node}
use Rattle.nodes.proofs.Levels.{whole_tree}
use Rattle.census.specs.Census.{census_places}
use Rattle.census.specs.Private.{census_place, tallied, RoomFor, conductors_in}
use Rattle.census.proofs.Places.{places_length, census_tallied}
use Rattle.census.proofs.Totals.{conductors_of_places, conductor_sum_fits, room_for_all}
use Rattle.census.proofs.Theorems.{census_given}
use Rattle.census.proofs.census.Goals as goal
use Rattle.census.proofs.census.Goals.{After-tally}

-- the words at the end of the whole tree are those of the genus list
words_below : {g left : ℕ} {n : Node} → g ≤ 32 → (n ≡ node_of 0) × (left ≡ min g 32) → leaves left n.word ≡ genus_list g
words_below {g} few whole = whole_tree few whole ∙ sym (genus_list_leaves g few)

pub tally-requires : goal.tally-requires
tally-requires c =
    let few : c.args.genus ≤ 32 = c.if-genus-gt32.false in
    record {
      room_for =
          subst₂ (λ (l o : List ℕ). RoomFor (length l) o) (sym (words_below few c.of_genus.ensures)) (sym c.clear_places.ensures)
          (room_for_all c.args.genus few c.args.out.now c.if-out-lt2210.false);
    }

-- the list after the words are counted
counted : (c : After-tally) → c.tally.new.out ≡ fronted (census_places c.args.genus) c.args.out.now
counted c =
    let few : c.args.genus ≤ 32 = c.if-genus-gt32.false in
    c.tally.ensures
    ∙ ap₂ (λ (l o : List ℕ). tallied (map census_place l) o) (words_below few c.of_genus.ensures) c.clear_places.ensures
    ∙ census_tallied c.args.genus few c.args.out.now c.if-out-lt2210.false

pub sum_of_conductors-requires : goal.sum_of_conductors-requires
sum_of_conductors-requires c =
    let g = c.args.genus in
    let lent : List ℕ = c.args.out.now in
    let few : g ≤ 32 = c.if-genus-gt32.false in
    let room : 2210 ≤ length lent = c.if-out-lt2210.false in
    rw (counted (goal.at.sum_of_conductors-requires c).After-tally) (
      omega (arith, fronted_length (census_places g) lent (omega (arith, places_length g, room)), room),
      omega (arith, conductors_of_places g few lent, conductor_sum_fits g few),
    )

pub returns : goal.returns
returns c =
    let g = c.args.genus in
    let lent : List ℕ = c.args.out.now in
    let few : g ≤ 32 = c.if-genus-gt32.false in
    let counted = counted (goal.at.returns c).After-tally in
    ap₂ giving (c.sum_of_conductors.ensures ∙ ap conductors_in counted ∙ conductors_of_places g few lent) counted
    ∙ sym (census_given g lent few c.if-out-lt2210.false)
