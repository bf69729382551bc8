-- The useless atlases, which demands 2 and 3 shut out by name. Assumes nothing: these are definitions.
use Rattle.std.specs.Prelude.{ℕ, ◌^◌, ◌≤◌, ◌<◌, ◌≡◌, ◌↔◌, true, length}
use mathlib.Core.List.{List, [], ◌∷◌, ◌++◌, Memᴰ}
use Rattle.semigroups.specs.Lists.{joined}
use Rattle.semigroups.specs.Sets.{ClosedUnderAddition}
use Rattle.semigroups.specs.Words.{set_of, genus}
use Rattle.semigroups.specs.GenusList.{genus_list}
use Rattle.answers.specs.Answers.{Answer, refused, given}
use Rattle.words.specs.declared.Report.{Report}
use Rattle.windows.specs.Windows.{window_list}
use Rattle.walk.specs.declared.Written.{Written}
use Rattle.walk.specs.declared.Walk.{Walk}
use Rattle.demands.specs.Demand3.{Atlas, Call, batches, wrote}

-- ---- those that break demand 3

-- what the fresh call without a window is asked: a genus from 0 to 32
pub record GenusAsked : Type 0 where
  pub genus : ℕ
  pub small : genus ≤ 32

-- what the fresh call with a window is asked: two bytes besides
pub record WindowAsked : Type 0 where
  pub of : GenusAsked
  pub lowest : ℕ
  pub highest : ℕ
  pub low_byte : lowest ≤ 255
  pub high_byte : highest ≤ 255

-- two walks from which all batches write the same words
abbrev pub SameWords : Atlas → Walk → Walk → Type 0
SameWords A v w = (lents : List (List ℕ)) → joined wrote (batches A v lents) ≡ joined wrote (batches A w lents)

-- one whose fresh call prints the same list whichever of two questions that stand in the relation R it is asked
abbrev pub SameWhere : {Q : Type 0} → Atlas → (Q → Answer Walk) → (Q → Q → Type 0) → Type 0
SameWhere {Q} A fresh R = (p q : Q) → R p q → (v w : Walk) → fresh p ≡ given v → fresh q ≡ given w → SameWords A v w

-- a fresh call, whatever it is asked, and the lists that its walks are to give
module _ {Q : Type 0} (A : Atlas) (fresh : Q → Answer Walk) (list : Q → List ℕ) where
  -- one that says finished too early: before some word of the list was written
  pub record FinishesEarly : Type 0 where
    pub asked : Q
    pub walk : Walk
    pub fresh_answers : fresh asked ≡ given walk
    pub lents : List (List ℕ)
    pub before : List Call
    pub c : Call
    pub after : List Call
    pub in_turn : batches A walk lents ≡ before ++ c ∷ after
    pub report : Written
    pub answered : c.ending.answer ≡ given report
    pub says_finished : report.finished ≡ true
    pub word : ℕ
    pub listed : Memᴰ word (list asked)
    pub unwritten : Memᴰ word (joined wrote (before ++ c ∷ [])) → ⊥

  -- one whose batch writes nothing
  abbrev pub WritesNothing : Type 0
  WritesNothing = (q : Q) (w : Walk) → fresh q ≡ given w → (lents : List (List ℕ)) → joined wrote (batches A w lents) ≡ []

  -- one that does all its work in the first batch and then idles
  abbrev pub IdlesAfterFirst : Type 0
  IdlesAfterFirst = (q : Q) (w : Walk) → fresh q ≡ given w
      → (lents : List (List ℕ)) (first : Call) (others : List Call) → batches A w lents ≡ first ∷ others → joined wrote others ≡ []

  -- none of the three
  pub record UsefulCall : Type 0 where
    pub not_finishing_early : FinishesEarly → ⊥
    pub not_writing_nothing : WritesNothing → ⊥
    pub not_idling : IdlesAfterFirst → ⊥

-- the two fresh calls
abbrev pub fresh_of_genus : Atlas → GenusAsked → Answer Walk
fresh_of_genus A q = A.fresh q.genus

abbrev pub fresh_in_window : Atlas → WindowAsked → Answer Walk
fresh_in_window A q = A.fresh_in q.of.genus q.lowest q.highest

-- one that prints the same list for all genera
abbrev pub SameForAll : Atlas → Type 0
SameForAll A = SameWhere A (fresh_of_genus A) (λ p q. Unit {0})

-- one that does so in each window
abbrev pub IgnoresGenus : Atlas → Type 0
IgnoresGenus A = SameWhere A (fresh_in_window A) (λ p q. (p.lowest ≡ q.lowest) × (p.highest ≡ q.highest))

-- one that prints the same list for all windows of a genus
abbrev pub IgnoresWindow : Atlas → Type 0
IgnoresWindow A = SameWhere A (fresh_in_window A) (λ p q. p.of.genus ≡ q.of.genus)

-- one with an invented count
abbrev pub InventsCount : Atlas → Type 0
InventsCount A = (g : ℕ) × (g ≤ 32) × (A.count 0 g ≡ given (length (genus_list g)) → ⊥)

-- it is none of these, by either fresh call
pub record Useful (A : Atlas) : Type 0 where
  pub of_genus : UsefulCall A (fresh_of_genus A) (λ q. genus_list q.genus)
  pub in_window : UsefulCall A (fresh_in_window A) (λ q. window_list q.of.genus q.lowest q.highest)
  pub not_same_for_all : SameForAll A → ⊥
  pub not_ignoring_genus : IgnoresGenus A → ⊥
  pub not_ignoring_window : IgnoresWindow A → ⊥
  pub not_inventing : InventsCount A → ⊥

-- ---- the one that breaks demand 2

-- the demand of a call that looks at words: a word is accepted exactly when its set is closed under addition and it has at most 32 gaps
abbrev pub AcceptsExactly : (ℕ → Answer Report) → Type 0
AcceptsExactly look =
    (w : ℕ) → w < 2 ^ 64 → ((r : Report) × (look w ≡ given r)) ↔ (ClosedUnderAddition (set_of w) × (genus w ≤ 32))

-- one that refuses every word
abbrev pub RefusesEveryWord : (ℕ → Answer Report) → Type 0
RefusesEveryWord look = (w : ℕ) → w < 2 ^ 64 → (n : ℕ) × (look w ≡ refused n)
