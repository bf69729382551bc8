-- `sums::gaps_of_sums` meets its contract. Assumes nothing.
use Prim.Native.Nat.{◌+◌}
use mathlib.Core.Path.{◌≡◌, sym, subst₃, ◌∙◌}
use native.Mathlib.Omega.{arith}
use Rattle.sums.specs.Sums.{spans}
use Rattle.sums.proofs.Scan.{Scanned, scan_start, scan_next, scan_sum, scan_gap, scan_gap_past}
use Rattle.sums.proofs.gaps_of_sums.Goals as goal
use Rattle.sums.proofs.gaps_of_sums.Goals.{then-is_sum, else-is_sum+then-k-lt64, else-is_sum+else-k-lt64}

pub loop-k-init : goal.loop-k-init
loop-k-init c = (omega arith, omega arith, scan_start c.args.list.now)

pub loop-k-preserved : goal.loop-k-preserved
loop-k-preserved c =
    let A = c.args.list.now in
    let loop = c.loop-k in
    let s : Scanned A loop.k loop.seen loop.word loop.count = loop.invariant.2 in
    let sum : c.is_sum.result ≡ spans A (loop.k + 1) =
    c.is_sum.ensures
    ∙ scan_next s _ _ c.members-low.ensures c.members-high.ensures (omega arith) in
    elim c.if-is_sum.branch [
      | then-is_sum w ↦ (
        omega arith,
        omega arith,
        subst₃ (Scanned A (loop.k + 1)) (sym w.seen-is) (sym w.word-is) (sym w.count-is)
            (scan_sum s (sym sum ∙ w.if-is_sum.true)),
      )
      | else-is_sum+then-k-lt64 w ↦ (
        omega arith,
        omega arith,
        subst₃ (Scanned A (loop.k + 1)) (sym w.seen-is) (sym w.word-is) (sym w.count-is)
            (scan_gap s (sym sum ∙ w.if-is_sum.false) w.if-k-lt64.true),
      )
      | else-is_sum+else-k-lt64 w ↦ (
        omega arith,
        omega arith,
        subst₃ (Scanned A (loop.k + 1)) (sym w.seen-is) (sym w.word-is) (sym w.count-is)
            (scan_gap_past s (sym sum ∙ w.if-is_sum.false) w.if-k-lt64.false),
      )
    ]
