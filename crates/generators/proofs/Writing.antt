-- The numbers of standing bits written into a list, one after the other. Assumes nothing.
use Prim.Native.Nat.{ℕ, ◌+◌, ◌≤◌, ◌<◌}
use mathlib.Core.Path.{◌≡◌, refl, sym, ap, ap₂, ◌∙◌}
use mathlib.Core.List.{List, [], ◌∷◌, ◌++◌, append-nil, append_assoc, map, map-append}
use native.Mathlib.Omega.{arith}
use native.Mathlib.Nat.{add-zero}
use lib.ListN.{length, take, set, length-append, length-set, length-map}
use lib.Seq.{length-take-le}
use Rattle.semigroups.specs.Lists.{fronted}
use Rattle.semigroups.specs.Positions.{positions}
use Rattle.semigroups.proofs.Lists.{fronted_set, fronted_self}
use Rattle.semigroups.proofs.StandingBits.{positions_zero}
use Rattle.nodes.specs.Nodes.{TakenOff}

-- for each standing bit of `bits` that is not left in `rest` the number `first` more is written into `before`, from `start` on; `at` is the place
-- after them
pub record BitsWritten (bits first start : ℕ) (before out : List ℕ) (at rest : ℕ) : Type 0 where
  pub passed : List ℕ
  pub split : passed ++ positions rest ≡ positions bits
  pub sized : length out ≡ length before
  pub place : at ≡ start + length passed
  pub list : out ≡ fronted (take start before ++ map (λ d. first + d) passed) before

-- before the first bit
pub start_writing : (bits first start : ℕ) (before : List ℕ) → start ≤ length before → BitsWritten bits first start before before start bits
start_writing bits first start before room = record {
  passed = [];
  split = refl;
  sized = refl;
  place = sym (add-zero start);
  list = sym (ap (λ (l : List ℕ). fronted l before) (append-nil (take start before)) ∙ fronted_self before start room);
}

module _ {bits first start at rest : ℕ} {before out : List ℕ} (w : BitsWritten bits first start before out at rest) (room : start + length (positions bits) ≤ length before) where
  -- with the last bit, all are written
  pub written_all : rest ≡ 0 → (at ≡ start + length (positions bits)) × (out ≡ fronted (take start before ++ map (λ d. first + d) (positions bits)) before)
  written_all none =
      let all : w.passed ≡ positions bits = sym (append-nil w.passed) ∙ ap (λ (l : List ℕ). w.passed ++ l) (sym (ap positions none ∙ positions_zero)) ∙ w.split in
      (w.place ∙ ap (λ (l : List ℕ). start + length l) all, w.list ∙ ap (λ (l : List ℕ). fronted (take start before ++ map (λ d. first + d) l) before) all)

  module _ {d left : ℕ} (low : TakenOff rest d left) where
    -- a place is left for the next
    pub place_left : at < length out
    place_left = omega (arith, w.sized, w.place, length-append w.passed (positions rest), ap length w.split, ap length low.first)

    -- the number of the lowest that is left is written
    pub write_next : BitsWritten bits first start before (set out at (first + d)) (at + 1) left
    write_next =
        let front : List ℕ = take start before ++ map (λ d. first + d) w.passed in
        let end : at ≡ length front =
        omega (arith, w.place, length-append (take start before) (map (λ d. first + d) w.passed), length-take-le start before (omega arith), length-map w.passed (λ d. first + d)) in
        record {
          passed = w.passed ++ d ∷ [];
          split = append_assoc w.passed (d ∷ []) (positions left) ∙ ap (λ (l : List ℕ). w.passed ++ l) (sym low.first) ∙ w.split;
          sized = length-set out at (first + d) ∙ w.sized;
          place = omega (arith, w.place, length-append w.passed (d ∷ []));
          list =
              ap₂ (λ (o : List ℕ) (k : ℕ). set o k (first + d)) w.list end
              ∙ fronted_set front before (first + d) (omega (arith, place_left, w.sized, end))
              ∙ ap (λ (l : List ℕ). fronted l before)
              (append_assoc (take start before) (map (λ d. first + d) w.passed) ((first + d) ∷ [])
              ∙ ap (λ (l : List ℕ). take start before ++ l) (sym (map-append (λ d. first + d) w.passed (d ∷ []))));
        }
