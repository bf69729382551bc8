-- `kunz::gap_word` meets its contract. Assumes nothing.
use Prim.Native.Nat.{ℕ, ◌+◌, ◌*◌, ◌%◌, ◌^◌}
use mathlib.Core.Path.{◌≡◌, ap, ap₂, ◌∙◌}
use native.Mathlib.Omega.{arith}
use native.Mathlib.Numerals.{add-one}
use lib.ListN.{length, get_or}
use lib.Bits.{bit_or}
use Rattle.semigroups.specs.Positions.{bits_from}
use Rattle.coordinates.specs.Coordinates.{modulus}
use Rattle.kunz.specs.Private.{multiples_as_bits}
use Rattle.kunz.proofs.ResidueBits.{gaps_leaving_to, gaps_none, gaps_next, gaps_whole}
use Rattle.kunz.proofs.gap_word.Goals as goal

pub loop-k-init : goal.loop-k-init
loop-k-init c = (omega arith, gaps_none c.args.list.now)

pub loop-k-preserved : goal.loop-k-preserved
loop-k-preserved c =
    let l = c.args.list.now in
    let k : ℕ = c.loop-k.k in
    let word : ℕ = c.loop-k.word in
    let m-is : length l + 1 ≡ modulus l = add-one (length l) in
    let here : c.first_multiples.result ≡ multiples_as_bits (modulus l) % 2 ^ (modulus l * get_or l k 0) =
    c.first_multiples.ensures
    ∙ ap₂ (λ (p m : ℕ). p % 2 ^ (m * get_or l k 0)) (c.multiples-places.ensures ∙ ap multiples_as_bits m-is) m-is in (
      omega arith,
      ap (λ (n : ℕ). bit_or word (n * 2 ^ k % 2 ^ 64)) here ∙ gaps_next l word k (omega arith) c.loop-k.invariant.1,
    )

pub returns : goal.returns
returns c =
    let l = c.args.list.now in
    let all : c.loop-k.k ≡ length l = omega (arith, c.loop-k.invariant.0) in
    gaps_whole l c.loop-k.word (c.loop-k.invariant.1 ∙ ap (λ (k : ℕ). bits_from (gaps_leaving_to l k) 1) all)
