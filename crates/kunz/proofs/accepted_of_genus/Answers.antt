-- `kunz::accepted_of_genus` meets its contract. Assumes nothing.
use Prim.Native.Nat.{ℕ, ◌≤◌}
use mathlib.Core.Path.{◌≡◌, sym, ap, ap₂, ◌∙◌}
use mathlib.Core.Bool.{Bool, true, false, ◌&&◌, and-eq-true_iff}
use native.Mathlib.Omega.{arith}
use borrow.Author.Tests.{eqb-true}
use lib.Dec.{eqb}
use Rattle.std.proofs.Common.{rules, tests}
use Rattle.std.specs.Prelude.{Result, Ok, Err, MatchResult}
use Rattle.semigroups.specs.Words.{closed, genus}
use Rattle.semigroups.proofs.Booleans.{not_both, is_false}
use Rattle.answers.specs.Answers.{answered}
use Rattle.answers.specs.declared.Refusal.{Refusal}
use Rattle.words.specs.Looks.{look_of, report_of}
use Rattle.words.specs.declared.Report.{Report}
use Rattle.words.proofs.Looks.{asked, asked_refused, look_given_report}
use Rattle.kunz.proofs.accepted_of_genus.Goals as goal

-- a look at w tells whether it is accepted with this genus: were it refused and accepted, the questions would be answered yes
by_look : (w g : ℕ) (r : Result Report Refusal) (b : Bool) → g ≤ 32 → answered r ≡ look_of w → MatchResult r (λ x. b ≡ eqb x.genus g) (λ _. b ≡ false)
    → b ≡ (closed w && eqb (genus w) g)
unfolding report_of
by_look w g (Ok x) b few e same =
    let (h, is) = look_given_report w x (sym e) in
    same ∙ ap₂ (λ (c : Bool) (n : ℕ). c && eqb n g) (sym h.closed) (ap (λ (r : Report). r.genus) is)
by_look w g (Err d) b few e same =
    same ∙ sym (is_false (closed w && eqb (genus w) g) (λ t.
    let (p, q) = (and-eq-true_iff (closed w) (eqb (genus w) g)).0 t in
    not_both (asked (λ n. false) w true (record { closed = p; few = omega (arith, eqb-true (genus w) g q) })) (asked_refused (λ n. false) w true _ (sym e))))

pub returns : goal.returns
returns c = by_look _ _ c.look.result _ c.requires c.look.ensures (search (rules, tests))
