-- The number of grandchildren of the words whose gaps are the numbers from 1 on. Assumes nothing.
use Prim.Native.Nat.{ℕ, ◌+◌, ◌-◌, ◌^◌, ◌≤◌}
use mathlib.Core.Path.{◌≡◌, sym, ap, ◌∙◌}
use native.Mathlib.Omega.{arith}
use Rattle.semigroups.proofs.GenusList.{word_nonzero}
use Rattle.semigroups.proofs.First.{first_of_genus, first_conductor, first_multiplicity}
use Rattle.seeds.specs.Grandchildren.{pairs}
use Rattle.answers.specs.Answers.{refused, given}
use Rattle.words.proofs.Looks.{asked}
use Rattle.nodes.proofs.GrandchildCounts.{grandchildren_ordinary}
use Rattle.tables.specs.Answers.{grandchildren_of}

-- the word of the gaps 1 to m - 1
pub first_grandchildren : (m : ℕ) → 2 ≤ m → m ≤ 33 → grandchildren_of (2 ^ (m - 1) - 1) ≡ given (pairs m + 3)
unfolding grandchildren_of
first_grandchildren m two few =
    let w : ℕ = 2 ^ (m - 1) - 1 in
    let o = first_of_genus m (omega arith) (omega arith) in
    let least = first_multiplicity m (omega arith) (omega arith) in
    asked refused w _ record { closed = o.closed; few = omega (arith, o.gapped) }
    ∙ ap given (grandchildren_ordinary w o.fits o.closed (first_conductor m (omega arith) (omega arith) ∙ sym least) (word_nonzero o (omega arith))
    ∙ ap (λ (n : ℕ). pairs n + 3) least)

-- that of the gaps 1 to 32, of genus 32, has 531
pub known_first_grandchildren : grandchildren_of 4294967295 ≡ given 531
unfolding pairs
known_first_grandchildren = first_grandchildren 33 (omega arith) (omega arith)
