-- `console::read_front` meets its contract: each turn's bytes stand behind those of the turns before. Assumes nothing.
use Rattle.std.proofs.Common.{◌≡◌, ℕ, ◌+◌, ◌≤◌, List, ◌++◌, length, take, sym, ap, ◌∙◌, subst, arith, length-append, length-take-le}
use Rattle.std.proofs.Math.Seq.{take-append-add, take-append-le}
use Rattle.std.proofs.KnownBytes.{Consumes-trans}
use Rattle.std.specs.Io.KnownBytes.{Consumes}
use borrow.Rule.Slice.PartMut.{put_mid, post_of}
use Rattle.console.proofs.read_front.Goals as goal

module _ (at n k : ℕ) (buffer part : List ℕ) (within : at ≤ length buffer) (fits : n ≤ length part) where
  -- after a part is written from `at` on, its first n bytes stand behind those that were there
  grown : take at buffer ++ take n part ≡ take (at + n) (put_mid at k buffer part)
  grown =
      let after : List ℕ = part ++ post_of at k buffer in
      ap (λ (l : List ℕ). take at buffer ++ l) (sym (take-append-le n part (post_of at k buffer) fits))
      ∙ sym (take-append-add (take at buffer) after n)
      ∙ ap (λ (i : ℕ). take (i + n) (take at buffer ++ after)) (length-take-le at buffer within)

  grown_within : at + n ≤ length (put_mid at k buffer part)
  grown_within = simp length-append (omega (arith, length-take-le at buffer within))

pub loop-filled-preserved : goal.loop-filled-preserved
loop-filled-preserved g c =
    let before = c.loop-filled.invariant in
    let read = c.in_ok-got.ensures in
    record {
      within = grown_within _ _ _ _ _ before.within read.bound.0;
      bytes = subst (Consumes _ _) (grown _ _ _ _ _ before.within read.bound.0) (Consumes-trans _ _ _ _ _ before.bytes read.bytes.0);
    }
