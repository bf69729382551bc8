-- `editor::without_place` meets its contract: place by place the bytes of the shorter list. Assumes nothing.
use Prim.Native.Nat.{ℕ, ◌-◌, ◌≤◌, ◌<◌}
use mathlib.Core.Path.{◌≡◌, refl, sym, ap, ap₂, ◌∙◌}
use mathlib.Core.List.{List, ◌++◌}
use native.Mathlib.Omega.{arith}
use lib.ListN.{length, get_or, take, drop, set, replicate}
use lib.Seq.{get_or-take, length-take-le}
use Rattle.semigroups.specs.Lists.{fronted}
use Rattle.semigroups.proofs.Lists.{fronted_next, fronted_all}
use Rattle.editor.specs.Private.{without_place, skipping}
use Rattle.editor.proofs.Places.{skipping_lt, without_place_length, without_place_entry}
use Rattle.editor.proofs.without_place.Goals as goal

-- the first n bytes without one are one less
long : (b : List ℕ) (n place : ℕ) → n ≤ length b → place < n → length (without_place place (take n b)) ≡ n - 1
long b n place within there =
    let whole : length (take n b) ≡ n = length-take-le n b within in
    omega (arith, without_place_length (take n b) place (omega arith))

abbrev zeros : List ℕ
zeros = replicate 16 0

-- as many of sixteen places are written, whatever stands in them
places : (l : List ℕ) (n : ℕ) → length l ≡ 16 → n ≤ 16 → length (take (n - 1) l) ≡ n - 1
places l n sixteen few = length-take-le (n - 1) l (omega arith)

pub loop-i-init : goal.loop-i-init
unfolding fronted
loop-i-init c = refl

pub loop-i-preserved : goal.loop-i-preserved
loop-i-preserved c =
    let n : ℕ = c.args.length in
    let b : List ℕ = c.args.bytes in
    let place : ℕ = c.args.place in
    let i : ℕ = c.loop-i.i in
    let l : List ℕ = without_place place (take n b) in
    let number = long b n place (omega arith) (omega arith) in
    let written = places zeros n refl (omega arith) in
    let other = places b n (omega arith) (omega arith) in
    let held : skipping i place < n = skipping_lt i place n (omega arith) in
    let value : get_or b c.skip.result 0 ≡ get_or l i 0 =
    ap (λ (k : ℕ). get_or {A = ℕ} b k 0) c.skip.ensures
    ∙ sym (without_place_entry (take n b) place (omega (arith, length-take-le n b (omega arith))) i ∙ get_or-take n b (skipping i place) 0 held) in
    ap₂ (λ (o : List ℕ) (x : ℕ). set o i x) c.loop-i.invariant value
    ∙ fronted_next l _ i (omega arith) (omega arith)

pub returns : goal.returns
unfolding fronted
returns c =
    let n : ℕ = c.args.length in
    let l : List ℕ = without_place c.args.place (take n c.args.bytes) in
    let number = long c.args.bytes n c.args.place (omega arith) (omega arith) in
    let written = places zeros n refl (omega arith) in
    let other = places c.args.bytes n (omega arith) (omega arith) in
    let all : c.loop-i.moved-items ≡ l = c.loop-i.invariant ∙ fronted_all l _ c.loop-i.i (omega arith) (omega arith) in
    ap₂ (λ (k : List ℕ) (m : ℕ). k ++ drop m zeros) all (sym number)
