-- The children of a word by their new gaps as bits are the words that a lent list gets for these bits. Assumes nothing.
use Prim.Native.Nat.{ℕ, suc, ◌+◌, ◌-◌, ◌%◌, ◌^◌, ◌<◌}
use mathlib.Core.Path.{◌≡◌, sym, ap, ◌∙◌}
use mathlib.Core.List.{[], ◌∷◌}
use native.Mathlib.Omega.{arith}
use native.Mathlib.Nat.{mod-eq_of_lt}
use Rattle.semigroups.specs.Words.{child_word}
use Rattle.semigroups.specs.Positions.{positions}
use Rattle.semigroups.specs.Tree.{leaves}
use Rattle.semigroups.proofs.Lists.{joined_cong, joined_each}
use Rattle.nodes.specs.NewGaps.{gap_branches, GapsFit}
use Rattle.lending.specs.Lending.{with_each}

module _ (w : ℕ) where
  -- a child is the word with the bit of its new gap added
  added : (i : ℕ) → child_word w (suc i) < 2 ^ 64 → (w + 2 ^ i) % 2 ^ 64 ≡ child_word w (suc i)
  unfolding child_word
  added i fits =
      let last : i ≡ suc i - 1 = omega arith in
      ap (λ (k : ℕ). (w + 2 ^ k) % 2 ^ 64) last ∙ mod-eq_of_lt fits

  -- so that the children are the word with each of the bits added
  pub gap_words : (bits : ℕ) → GapsFit w bits → with_each w bits ≡ gap_branches 0 w bits
  unfolding with_each gap_branches leaves
  gap_words bits fits =
      sym (joined_each (λ i. (w + 2 ^ i) % 2 ^ 64) (positions bits))
      ∙ joined_cong (λ i. (w + 2 ^ i) % 2 ^ 64 ∷ []) (λ i. child_word w (suc i) ∷ []) (positions bits) (λ i m. ap (λ (v : ℕ). v ∷ []) (added i (fits i m)))
