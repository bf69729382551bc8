-- `job_format::put_value` meets its contract: place by place the bytes of the value. Assumes nothing.
use Rattle.std.proofs.Common.{ℕ, ◌+◌, ◌-◌, ◌≡◌, ◌≤◌, List, length, take, drop, set, refl, sym, ap, ap₂, ◌∙◌, arith}
use lib.ListN.{get_or, length-take, length-drop}
use borrow.Rule.Slice.PartMut.{put_mid}
use Rattle.semigroups.specs.Lists.{fronted}
use Rattle.semigroups.proofs.Lists.{fronted_next, fronted_all}
use Rattle.semigroups.proofs.Library.{fronted_part}
use Rattle.job_format.specs.Bytes.{bytes_of}
use Rattle.job_format.proofs.Bytes.{bytes_entry, bytes_length}
use Rattle.job_format.proofs.put_value.Goals as goal

pub loop-i-init : goal.loop-i-init
unfolding fronted
loop-i-init c = refl

-- as many places are written as there are bytes
places : (at size : ℕ) (out : List ℕ) → at + size ≤ length out → length (take (at + size - at) (drop at out)) ≡ size
places at size out within = omega (arith, length-take (at + size - at) (drop at out), length-drop at out)

pub loop-i-preserved : goal.loop-i-preserved
loop-i-preserved c =
    let args = c.args in
    let l : List ℕ = bytes_of args.size args.value in
    let part : List ℕ = take (args.at + args.size - args.at) (drop args.at args.out.now) in
    let number = places args.at args.size args.out.now c.requires.size_in_bounds in
    let whole : length l ≡ args.size = bytes_length args.size args.value in
    let i : ℕ = c.loop-i.i in
    ap₂ (λ (o : List ℕ) (x : ℕ). set o i x) c.loop-i.invariant (sym (bytes_entry args.size args.value i (omega arith)))
    ∙ fronted_next l part i (omega arith) (omega arith)

pub returns : goal.returns
returns c =
    let args = c.args in
    let l : List ℕ = bytes_of args.size args.value in
    let part : List ℕ = take (args.at + args.size - args.at) (drop args.at args.out.now) in
    let number = places args.at args.size args.out.now c.requires.size_in_bounds in
    let whole : length l ≡ args.size = bytes_length args.size args.value in
    let n : args.at + args.size - args.at ≡ args.size = omega arith in
    let written : c.loop-i.place-items ≡ l = c.loop-i.invariant ∙ fronted_all l part c.loop-i.i (omega arith) (omega arith) in (
      ap₂ (λ (k : ℕ) (l : List ℕ). put_mid args.at k args.out.now l) n written ∙ fronted_part args.out.now l args.at args.size c.requires.size_in_bounds whole,
      refl,
    )
