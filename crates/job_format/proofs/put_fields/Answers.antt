-- `job_format::put_fields` meets its contract. Assumes nothing.
use Prim.Native.Nat.{ℕ, ◌≤◌}
use mathlib.Core.Path.{◌≡◌, refl, sym, ap, ◌∙◌}
use mathlib.Core.List.{List, [], ◌∷◌, ◌++◌, append-nil}
use native.Mathlib.Omega.{arith}
use native.Mathlib.Numerals.{add-one}
use lib.ListN.{length, get_or, take, set, length-set}
use Rattle.semigroups.specs.Lists.{run, joined, fronted}
use Rattle.semigroups.proofs.Lists.{fronted_set, fronted_twice}
use Rattle.job_format.specs.Bytes.{bytes_of}
use Rattle.job_format.specs.Format.{field_size, job_length, laid_before}
use Rattle.job_format.proofs.Format.{size_le, place_next, place_within, place_pos, place_0, field_within, laid_next, laid_length}
use Rattle.job_format.proofs.put_fields.Invariants.{front_to}
use Rattle.job_format.proofs.put_fields.Goals as goal

-- with the version the fields before that of bit 0 are written
first_written : (map : ℕ) (values lent after : List ℕ) (size : ℕ) → job_length map ≤ length lent → size ≡ field_size map 7
    → after ≡ fronted (take 1 (set lent 0 map) ++ bytes_of size (get_or values 7 0)) (set lent 0 map)
    → after ≡ fronted (front_to map values 0) lent
unfolding laid_before joined run fronted
first_written map values lent after size room same e =
    let version : ℕ = get_or values 7 0 in
    e
    ∙ fronted_twice (map ∷ []) lent (bytes_of size version) (set lent 0 map) 1 refl (fronted_set [] lent map (omega (arith, room, place_pos map 7)))
    ∙ ap (λ (l : List ℕ). fronted (map ∷ l) lent) (ap (λ (n : ℕ). bytes_of n version) same ∙ sym (append-nil (bytes_of (field_size map 7) version)))

pub bounds-out-0 : goal.bounds-out-0
bounds-out-0 c = omega (arith, c.requires, place_pos c.args.map 7)

pub put_value-at-requires : goal.put_value-at-requires
put_value-at-requires c =
    let map : ℕ = c.args.map in
    omega (arith, length-set c.args.out.now 0 map, c.requires, c.field_size.ensures, size_le map 7, place_0 map, place_within map 0 7 (omega arith))

pub loop-i-init : goal.loop-i-init
loop-i-init c =
    let args = c.args in
    let size = c.field_size.ensures in (
      omega arith,
      c.put_value-at.ensures.1 ∙ omega (arith, place_0 args.map, size),
      first_written args.map args.values args.out.now _ _ c.requires size c.put_value-at.ensures.0,
    )

pub put_value-at-requires-in-loop-i : goal.put_value-at-requires-in-loop-i
put_value-at-requires-in-loop-i c =
    omega (arith, length-set c.args.out.now 0 c.args.map, c.requires, c.field_size-in-loop-i.ensures, size_le c.args.map c.loop-i.i, field_within c.args.map c.loop-i.i (omega arith))

pub loop-i-preserved : goal.loop-i-preserved
loop-i-preserved c =
    let args = c.args in
    let i : ℕ = c.loop-i.i in
    let (low, place, list) = c.loop-i.invariant in
    let (written, next) = c.put_value-at-in-loop-i.ensures in
    let size = c.field_size-in-loop-i.ensures in
    let value : ℕ = get_or args.values i 0 in (
      omega arith,
      rw (add-one i) (omega (arith, next, place, size, place_next args.map i)),
      written
          ∙ fronted_twice (front_to args.map args.values i) args.out.now (bytes_of c.field_size-in-loop-i.result value) c.loop-i.out c.loop-i.at (place ∙ sym (laid_length args.map _ i)) list
          ∙ ap (λ (l : List ℕ). fronted l args.out.now)
          (ap (λ (n : ℕ). front_to args.map args.values i ++ bytes_of n value) size
          ∙ sym (rw (add-one i) (laid_next args.map (λ j. get_or args.values j 0) i))),
    )
