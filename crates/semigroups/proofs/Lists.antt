-- Laws of `run`, `keep`, `every`, `joined`, `sum_over`, `begins`, `fronted` and rising lists: what they hold, in which order, and how many.
-- Assumes nothing.
use Prim.Native.Nat.{ℕ, zero, suc, ◌+◌, ◌-◌, ◌*◌, ◌^◌, ◌≤◌, ◌<◌, min}
use mathlib.Core.Path.{◌≡◌, refl, sym, ◌∙◌, ap, ap₂, subst}
use mathlib.Core.Logic.{◌⊎◌, inl, inr, ◌↔◌, ⊎_elim}
use mathlib.Core.Bool.{Bool, true, false, cond, ◌&&◌, and_assoc, and-eq-true_iff, not, ◌||◌, and-true, not-not}
use mathlib.Core.List.Memᴰ
use mathlib.Core.List.{List, [], ◌∷◌, ◌++◌, append_assoc, map, map-append, Memᴰ, append-nil}
use native.Mathlib.Omega.{arith}
use native.Mathlib.Nat.{add-zero, zero-add, suc-add, add-suc, eq-or-lt_of_le, le_of_eq, le_trans, le_of_lt, le_dest, pow-suc, mul-zero, mul-suc}
use native.Mathlib.Numerals.{add-one}
use native.Mathlib.Decide.{ℕ_discrete}
use lib.Dec.{eqb, ltb, leb, leb-zero, leb-suc-zero, leb-suc-suc}
use lib.ListN.{length, get_or, take, drop, set, replicate, length-append, length-take, length-drop, length-replicate, replicate-append-replicate, take-append-drop, drop_of_length-le, get_or-append}
use lib.Pow.{pow_mono}
use lib.Seq.{take_all, take-append_seam, drop-append_seam, set-append_seam, drop-cons, drop-append-add, drop-drop, drop_at, take-suc, sets, get_or-append-add, get_or-drop}
use borrow.Author.Tests.{eq-eqb, ne_eqb, eqb-true, ltb-true, ltb-false, lt-ltb}
use Rattle.std.specs.List.{list_all}
use Rattle.semigroups.specs.Lists.{none, run, keep, keep_if, every, joined, sum_over, last_or, begins, fronted, on_from, Ordered}
use Rattle.semigroups.specs.Words.{digit}
use Rattle.semigroups.proofs.Booleans.{not_both, is_true, is_false, true_together, by_value, not_and}

-- ---- run

-- run a n holds the numbers from a up to a + n
pub run_mem : {x : ℕ} (a n : ℕ) → Memᴰ x (run a n) → (a ≤ x) × (x < a + n)
unfolding run
run_mem a zero m = absurd (Memᴰ.not-nil m)
run_mem a (suc n) (Memᴰ.head e) = omega arith
run_mem a (suc n) (Memᴰ.tail m) = let h = run_mem (suc a) n m in omega arith

pub mem_run : {x : ℕ} (a n : ℕ) → a ≤ x → x < a + n → Memᴰ x (run a n)
unfolding run
mem_run a zero h k = absurd (omega arith)
mem_run a (suc n) h k =
    ⊎_elim (λ e. Memᴰ.head (sym e)) (λ l. Memᴰ.tail (mem_run (suc a) n l (omega arith))) (eq-or-lt_of_le h)

pub ordered_run : (a n : ℕ) → Ordered ◌<◌ (run a n)
unfolding run Ordered
ordered_run a zero = tt
ordered_run a (suc n) = (λ y m. (run_mem (suc a) n m).0, ordered_run (suc a) n)

pub run_append : (a m n : ℕ) → run a (m + n) ≡ run a m ++ run (a + m) n
unfolding run
run_append a zero n = ap₂ run (sym (add-zero a)) (zero-add n)
run_append a (suc m) n = ap (run a) (suc-add m n) ∙ ap (λ (l : List ℕ). a ∷ l) (run_append (suc a) m n ∙ ap (λ (x : ℕ). run (suc a) m ++ run x n) (omega arith))

-- the numbers below a sum, and below n + 1
pub run_below : (m n : ℕ) → run 0 (m + n) ≡ run 0 m ++ run m n
run_below m n = run_append 0 m n ∙ ap (λ (k : ℕ). run 0 m ++ run k n) (zero-add m)

pub run_last : (n : ℕ) → run 0 (suc n) ≡ run 0 n ++ n ∷ []
unfolding run
run_last n = ap (run 0) (sym (add-one n)) ∙ run_below n 1

pub length_run : (a n : ℕ) → length (run a n) ≡ n
unfolding run
length_run a zero = refl
length_run a (suc n) = ap suc (length_run (suc a) n)

-- equal values along two runs
pub map_run : {B : Type 0} (f h : ℕ → B) (a b n : ℕ) → ((j : ℕ) → j < n → f (a + j) ≡ h (b + j)) → map f (run a n) ≡ map h (run b n)
unfolding run
map_run f h a b zero e = refl
map_run f h a b (suc n) e =
    ap₂ ◌∷◌ (ap f (sym (add-zero a)) ∙ e 0 (omega arith) ∙ ap h (add-zero b))
    (map_run f h (suc a) (suc b) n (λ j l. ap f (omega arith) ∙ e (suc j) (omega arith) ∙ ap h (omega arith)))

pub get_d_map_run : {B : Type 0} (h : ℕ → B) (d : B) (a n i : ℕ) → i < n → get_or (map h (run a n)) i d ≡ h (a + i)
unfolding run
get_d_map_run h d a zero i l = absurd (omega arith)
get_d_map_run h d a (suc n) zero l = ap h (sym (add-zero a))
get_d_map_run h d a (suc n) (suc i) l = get_d_map_run h d (suc a) n i (omega arith) ∙ ap h (omega arith)

module _ {A : Type 0} where
  -- a list that holds nothing is empty
  pub nothing : (l : List A) → ((x : A) → Memᴰ x l → ⊥) → l ≡ []
  nothing [] h = refl
  nothing (x ∷ l) h = absurd (h x (Memᴰ.head refl))

  -- so is one of length 0
  pub no_length : (l : List A) → length l ≡ 0 → l ≡ []
  no_length [] e = refl
  no_length (x ∷ l) e = absurd (omega arith)

  pub none_iff : (l : List A) → (none l ≡ true) ↔ (length l ≡ 0)
  unfolding none
  none_iff [] = (λ e. refl, λ e. refl)
  none_iff (x ∷ l) = (λ e. absurd (not_both e refl), λ e. absurd (omega arith))

  -- ---- keep

  -- keep p l holds what is in l and passes p
  keep_if_mem : {y : A} (b : Bool) (x : A) (l : List A) → Memᴰ y (keep_if b x l) → ((y ≡ x) × (b ≡ true)) ⊎ Memᴰ y l
  unfolding keep_if
  keep_if_mem true x l (Memᴰ.head e) = inl (e, refl)
  keep_if_mem true x l (Memᴰ.tail m) = inr m
  keep_if_mem false x l m = inr m

  pub keep_mem : {y : A} (p : A → Bool) (l : List A) → Memᴰ y (keep p l) → Memᴰ y l × (p y ≡ true)
  unfolding keep
  keep_mem p [] m = absurd (Memᴰ.not-nil m)
  keep_mem p (x ∷ l) m =
      ⊎_elim (λ h. (Memᴰ.head h.0, ap p h.0 ∙ h.1)) (λ k. let r = keep_mem p l k in (Memᴰ.tail r.0, r.1))
      (keep_if_mem (p x) x (keep p l) m)

  mem_keep_if_head : {y : A} (b : Bool) (x : A) (l : List A) → y ≡ x → b ≡ true → Memᴰ y (keep_if b x l)
  unfolding keep_if
  mem_keep_if_head true x l e t = Memᴰ.head e
  mem_keep_if_head false x l e t = absurd (not_both t refl)

  mem_keep_if_tail : {y : A} (b : Bool) (x : A) (l : List A) → Memᴰ y l → Memᴰ y (keep_if b x l)
  unfolding keep_if
  mem_keep_if_tail true x l m = Memᴰ.tail m
  mem_keep_if_tail false x l m = m

  pub mem_keep : {y : A} (p : A → Bool) (l : List A) → Memᴰ y l → p y ≡ true → Memᴰ y (keep p l)
  unfolding keep
  mem_keep p [] m t = absurd (Memᴰ.not-nil m)
  mem_keep p (x ∷ l) (Memᴰ.head e) t = mem_keep_if_head (p x) x (keep p l) e (sym (ap p e) ∙ t)
  mem_keep p (x ∷ l) (Memᴰ.tail m) t = mem_keep_if_tail (p x) x (keep p l) (mem_keep p l m t)

  ordered_keep_if : (R : A → A → Type 0) (b : Bool) (x : A) (l : List A) → ((y : A) → Memᴰ y l → R x y) → Ordered R l → Ordered R (keep_if b x l)
  unfolding keep_if Ordered
  ordered_keep_if R true x l h o = (h, o)
  ordered_keep_if R false x l h o = o

  pub ordered_keep : (R : A → A → Type 0) (p : A → Bool) (l : List A) → Ordered R l → Ordered R (keep p l)
  unfolding keep Ordered
  ordered_keep R p [] o = tt
  ordered_keep R p (x ∷ l) o = ordered_keep_if R (p x) x (keep p l) (λ y m. o.0 y (keep_mem p l m).0) (ordered_keep R p l o.1)

  module _ (p : A → Bool) where
    pub keep_in : (x : A) (l : List A) → p x ≡ true → keep p (x ∷ l) ≡ x ∷ keep p l
    unfolding keep keep_if
    keep_in x l e = ap (λ (b : Bool). keep_if b x (keep p l)) e

    pub keep_out : (x : A) (l : List A) → p x ≡ false → keep p (x ∷ l) ≡ keep p l
    unfolding keep keep_if
    keep_out x l e = ap (λ (b : Bool). keep_if b x (keep p l)) e

    pub keep_append : (k l : List A) → keep p (k ++ l) ≡ keep p k ++ keep p l
    unfolding keep keep_if
    keep_append [] l = refl
    keep_append (x ∷ k) l =
        ap (keep_if (p x) x) (keep_append k l)
        ∙ elim (p x) as (λ (b : Bool). keep_if b x (keep p k ++ keep p l) ≡ keep_if b x (keep p k) ++ keep p l) [ true ↦ refl | false ↦ refl ]

  -- ---- every

  -- every p l: each one in l passes p
  pub every_mem : {x : A} (p : A → Bool) (l : List A) → every p l ≡ true → Memᴰ x l → p x ≡ true
  unfolding every
  every_mem p [] h m = absurd (Memᴰ.not-nil m)
  every_mem p (y ∷ l) h (Memᴰ.head e) = ap p e ∙ ((and-eq-true_iff (p y) (every p l)).0 h).0
  every_mem p (y ∷ l) h (Memᴰ.tail m) = every_mem p l ((and-eq-true_iff (p y) (every p l)).0 h).1 m

  -- as the library's word for it says
  pub every_list_all : (p : A → Bool) (l : List A) → every p l ≡ list_all p l
  unfolding every
  every_list_all p [] = refl
  every_list_all p (y ∷ l) = ap (λ (b : Bool). p y && b) (every_list_all p l)

  pub mem_every : (p : A → Bool) (l : List A) → ((x : A) → Memᴰ x l → p x ≡ true) → every p l ≡ true
  unfolding every
  mem_every p [] h = refl
  mem_every p (y ∷ l) h = (and-eq-true_iff (p y) (every p l)).1 (h y (Memᴰ.head refl), mem_every p l (λ x m. h x (Memᴰ.tail m)))

  -- tests that agree on each of l
  pub every_same : (p q : A → Bool) (l : List A) → ((x : A) → Memᴰ x l → p x ≡ q x) → every p l ≡ every q l
  unfolding every
  every_same p q [] h = refl
  every_same p q (x ∷ l) h = ap₂ ◌&&◌ (h x (Memᴰ.head refl)) (every_same p q l (λ y m. h y (Memᴰ.tail m)))

  -- where not every one passes, one fails
  pub every_false : (p : A → Bool) (l : List A) → every p l ≡ false → (x : A) × Memᴰ x l × (p x ≡ false)
  unfolding every
  every_false p [] e = absurd (not_both refl e)
  every_false p (y ∷ l) e =
      by_value (p y)
      (λ t. let (x, m, f) = every_false p l (ap (λ (b : Bool). b && every p l) (sym t) ∙ e) in (x, Memᴰ.tail m, f))
      (λ f. (y, Memᴰ.head refl, f))

  pub every_append : (p : A → Bool) (k l : List A) → every p (k ++ l) ≡ (every p k && every p l)
  unfolding every
  every_append p [] l = refl
  every_append p (x ∷ k) l = ap (λ (b : Bool). p x && b) (every_append p k l) ∙ sym (and_assoc (p x) (every p k) (every p l))

  -- where all pass, the one at i does
  pub every_entry : (p : A → Bool) (l : List A) (d : A) → every p l ≡ true → (i : ℕ) → i < length l → p (get_or l i d) ≡ true
  unfolding every
  every_entry p [] d pass i h = absurd (omega arith)
  every_entry p (x ∷ l) d pass zero h = ((and-eq-true_iff (p x) (every p l)).0 pass).0
  every_entry p (x ∷ l) d pass (suc i) h = every_entry p l d ((and-eq-true_iff (p x) (every p l)).0 pass).1 i (omega arith)

  -- where all pass, the first n do
  pub every_take : (p : A → Bool) (l : List A) → every p l ≡ true → (n : ℕ) → every p (take n l) ≡ true
  every_take p l pass n =
      ((and-eq-true_iff (every p (take n l)) (every p (drop n l))).0 (sym (every_append p (take n l) (drop n l)) ∙ ap (every p) (take-append-drop n l) ∙ pass)).0

  -- the first n of a list in which x is the first that fails: all of them pass just where x is not among them
  pub every_front : (p : A → Bool) (k t : List A) (x : A) → every p k ≡ true → p x ≡ false → (n : ℕ) → every p (take n (k ++ x ∷ t)) ≡ leb n (length k)
  unfolding every
  every_front p k t x pass fail zero = sym (leb-zero (length k))
  every_front p [] t x pass fail (suc n) = rw (fail, leb-suc-zero)
  every_front p (y ∷ k) t x pass fail (suc n) =
      let (first, others) = (and-eq-true_iff (p y) (every p k)).0 pass in
      rw (first, leb-suc-suc) (every_front p k t x others fail n)

  -- does one of l pass p, or does x, behind it
  pub some_more : (p : A → Bool) (l : List A) (x : A) → not (every (λ a. not (p a)) (l ++ x ∷ [])) ≡ (not (every (λ a. not (p a)) l) || p x)
  unfolding every
  some_more p l x =
      let q : A → Bool = λ a. not (p a) in
      ap not (every_append q l (x ∷ [])) ∙ not_and (every q l) (q x && true)
      ∙ ap (λ (b : Bool). not (every q l) || b) (ap not (and-true (q x)) ∙ not-not (p x))

  -- what holds of each member of k and of each of l holds of each of both
  pub append_each : {P : A → Type 0} (k l : List A) → ((x : A) → Memᴰ x k → P x) → ((x : A) → Memᴰ x l → P x) → (x : A) → Memᴰ x (k ++ l) → P x
  append_each k l f g x m = ⊎_elim (f x) (g x) (Memᴰ.append_cases k m)

  -- ---- order

  pub ordered_one : (R : A → A → Type 0) (x : A) → Ordered R (x ∷ [])
  unfolding Ordered
  ordered_one R x = (λ y m. absurd (Memᴰ.not-nil m), tt)

  pub ordered_append : (R : A → A → Type 0) (k l : List A) → Ordered R k → Ordered R l
      → ((x y : A) → Memᴰ x k → Memᴰ y l → R x y) → Ordered R (k ++ l)
  unfolding Ordered
  ordered_append R [] l o q h = q
  ordered_append R (x ∷ k) l o q h = (
    append_each k l o.0 (λ y m. h x y (Memᴰ.head refl) m),
    ordered_append R k l o.1 q (λ z y m. h z y (Memᴰ.tail m)),
  )

  -- of an ordered list, the order of two parts
  pub ordered_parts : (R : A → A → Type 0) (k l : List A) → Ordered R (k ++ l)
      → Ordered R l × ((x y : A) → Memᴰ x k → Memᴰ y l → R x y)
  unfolding Ordered
  ordered_parts R [] l o = (o, λ x y m n. absurd (Memᴰ.not-nil m))
  ordered_parts R (z ∷ k) l o =
      let (p, q) = ordered_parts R k l o.1 in
      (p, λ x y m n. ⊎_elim (λ e. subst (λ (v : A). R v y) (sym e) (o.0 y (Memᴰ.append_right k n))) (λ i. q x y i n) (Memᴰ.cases_cons m))

  -- the first part is ordered too
  pub ordered_front : (R : A → A → Type 0) (k l : List A) → Ordered R (k ++ l) → Ordered R k
  unfolding Ordered
  ordered_front R [] l o = tt
  ordered_front R (x ∷ k) l o = (λ y m. o.0 y (Memᴰ.append_left l m), ordered_front R k l o.1)

  -- R is asymmetric: it holds one way round only
  module _ (R : A → A → Type 0) (asym : (x y : A) → R x y → R y x → ⊥) where
    -- the head is no later one
    head_once : (x : A) (l : List A) → Ordered R (x ∷ l) → Memᴰ x l → ⊥
    unfolding Ordered
    head_once x l o m = asym x x (o.0 x m) (o.0 x m)

    -- in a list ordered by R each stands once
    pub ordered_once : IsSet A → (l : List A) → Ordered R l → (x : A) (m k : Memᴰ x l) → m ≡ k
    unfolding Ordered
    ordered_once s [] o x m k = absurd (Memᴰ.not-nil m)
    ordered_once s (y ∷ l) o x (Memᴰ.head e) (Memᴰ.head f) = ap Memᴰ.head (s x y e f)
    ordered_once s (y ∷ l) o x (Memᴰ.head e) (Memᴰ.tail k) = absurd (head_once y l o (Memᴰ.cast (sym e) k))
    ordered_once s (y ∷ l) o x (Memᴰ.tail m) (Memᴰ.head f) = absurd (head_once y l o (Memᴰ.cast (sym f) m))
    ordered_once s (y ∷ l) o x (Memᴰ.tail m) (Memᴰ.tail k) = ap Memᴰ.tail (ordered_once s l o.1 x m k)

    heads_agree : (x y : A) (k l : List A) → Ordered R (x ∷ k) → Ordered R (y ∷ l) → Memᴰ x (y ∷ l) → Memᴰ y (x ∷ k) → x ≡ y
    unfolding Ordered
    heads_agree x y k l o p (Memᴰ.head e) n = e
    heads_agree x y k l o p (Memᴰ.tail m) (Memᴰ.head e) = sym e
    heads_agree x y k l o p (Memᴰ.tail m) (Memᴰ.tail n) = absurd (asym x y (o.0 y n) (p.0 x m))

    -- what a list holds behind its head, another that begins with the same holds behind its head
    tails_agree : (x y : A) (k l : List A) → Ordered R (x ∷ k) → x ≡ y → ((z : A) → Memᴰ z (x ∷ k) → Memᴰ z (y ∷ l))
        → (z : A) → Memᴰ z k → Memᴰ z l
    tails_agree x y k l o e f z m =
        ⊎_elim (λ d. absurd (head_once x k o (Memᴰ.cast (e ∙ sym d) m))) (λ n. n) (Memᴰ.cases_cons (f z (Memᴰ.tail m)))

    -- two lists ordered by R that hold the same are equal
    pub ordered_unique : (k l : List A) → Ordered R k → Ordered R l
        → ((x : A) → Memᴰ x k → Memᴰ x l) → ((x : A) → Memᴰ x l → Memᴰ x k) → k ≡ l
    unfolding Ordered
    ordered_unique [] [] o p f g = refl
    ordered_unique [] (y ∷ l) o p f g = absurd (Memᴰ.not-nil (g y (Memᴰ.head refl)))
    ordered_unique (x ∷ k) [] o p f g = absurd (Memᴰ.not-nil (f x (Memᴰ.head refl)))
    ordered_unique (x ∷ k) (y ∷ l) o p f g =
        let e = heads_agree x y k l o p (f x (Memᴰ.head refl)) (g y (Memᴰ.head refl)) in
        ap₂ ◌∷◌ e (ordered_unique k l o.1 p.1 (tails_agree x y k l o e f) (tails_agree y x l k p (sym e) g))

-- a sum of numbers that are at most n
pub sum_at_most : {A : Type 0} (f : A → ℕ) (n : ℕ) (l : List A) → ((x : A) → Memᴰ x l → f x ≤ n) → sum_over f l ≤ length l * n
unfolding sum_over
sum_at_most f n [] h = omega arith
sum_at_most f n (x ∷ l) h = omega (arith, h x (Memᴰ.head refl), sum_at_most f n l (λ y m. h y (Memᴰ.tail m)))

module _ {A B : Type 0} where
  -- ---- joined

  -- joined f l holds what f x holds, for the x in l
  pub joined_mem : {y : B} (f : A → List B) (l : List A) → Memᴰ y (joined f l) → (x : A) × Memᴰ x l × Memᴰ y (f x)
  unfolding joined
  joined_mem f [] m = absurd (Memᴰ.not-nil m)
  joined_mem f (x ∷ l) m =
      ⊎_elim (λ k. (x, Memᴰ.head refl, k)) (λ k. let r = joined_mem f l k in (r.0, Memᴰ.tail r.1, r.2))
      (Memᴰ.append_cases (f x) m)

  pub mem_joined : {x : A} {y : B} (f : A → List B) (l : List A) → Memᴰ x l → Memᴰ y (f x) → Memᴰ y (joined f l)
  unfolding joined
  mem_joined f [] m k = absurd (Memᴰ.not-nil m)
  mem_joined {x} {y} f (z ∷ l) (Memᴰ.head e) k = Memᴰ.append_left (joined f l) (subst (λ (v : A). Memᴰ y (f v)) e k)
  mem_joined f (z ∷ l) (Memᴰ.tail m) k = Memᴰ.append_right (f z) (mem_joined f l m k)

  pub joined_cong : (f h : A → List B) (l : List A) → ((x : A) → Memᴰ x l → f x ≡ h x) → joined f l ≡ joined h l
  unfolding joined
  joined_cong f h [] e = refl
  joined_cong f h (x ∷ l) e = ap₂ ◌++◌ (e x (Memᴰ.head refl)) (joined_cong f h l (λ y m. e y (Memᴰ.tail m)))

  pub joined_append : (f : A → List B) (k l : List A) → joined f (k ++ l) ≡ joined f k ++ joined f l
  unfolding joined
  joined_append f [] l = refl
  joined_append f (x ∷ k) l = ap (λ (t : List B). f x ++ t) (joined_append f k l) ∙ sym (append_assoc (f x) (joined f k) (joined f l))

  -- along a list with one more at its end
  pub joined_last : (f : A → List B) (k : List A) (x : A) → joined f (k ++ x ∷ []) ≡ joined f k ++ f x
  unfolding joined
  joined_last f k x = joined_append f k (x ∷ []) ∙ ap (λ (t : List B). joined f k ++ t) (append-nil (f x))

  -- what is joined along a joined list is joined twice
  pub joined_joined : {C : Type 0} (f : A → List B) (h : C → List A) (l : List C) → joined f (joined h l) ≡ joined (λ x. joined f (h x)) l
  unfolding joined
  joined_joined f h [] = refl
  joined_joined f h (x ∷ l) = joined_append f (h x) (joined h l) ∙ ap (λ (t : List B). joined f (h x) ++ t) (joined_joined f h l)

  pub joined_map : {C : Type 0} (f : A → List B) (h : C → A) (l : List C) → joined f (map h l) ≡ joined (λ x. f (h x)) l
  unfolding joined
  joined_map f h [] = refl
  joined_map f h (x ∷ l) = ap (λ (t : List B). f (h x) ++ t) (joined_map f h l)

  -- one of each, joined, is a map
  pub joined_each : (f : A → B) (l : List A) → joined (λ x. f x ∷ []) l ≡ map f l
  unfolding joined
  joined_each f [] = refl
  joined_each f (x ∷ l) = ap (λ (t : List B). f x ∷ t) (joined_each f l)

  -- f of each that is joined
  pub map_joined : {C : Type 0} (f : A → B) (h : C → List A) (l : List C) → map f (joined h l) ≡ joined (λ x. map f (h x)) l
  unfolding joined
  map_joined f h [] = refl
  map_joined f h (x ∷ l) = map-append f (h x) (joined h l) ∙ ap (λ (t : List B). map f (h x) ++ t) (map_joined f h l)

  pub map_same : (f h : A → B) (l : List A) → ((x : A) → Memᴰ x l → f x ≡ h x) → map f l ≡ map h l
  map_same f h [] e = refl
  map_same f h (x ∷ l) e = ap₂ ◌∷◌ (e x (Memᴰ.head refl)) (map_same f h l (λ y m. e y (Memᴰ.tail m)))

  pub length_joined : (f : A → List B) (l : List A) → length (joined f l) ≡ sum_over (λ x. length (f x)) l
  unfolding joined sum_over
  length_joined f [] = refl
  length_joined f (x ∷ l) = length-append (f x) (joined f l) ∙ ap (λ (n : ℕ). length (f x) + n) (length_joined f l)

  -- where f of each has at most n
  pub length_joined_le : (f : A → List B) (n : ℕ) (l : List A) → ((x : A) → Memᴰ x l → length (f x) ≤ n) → length (joined f l) ≤ length l * n
  length_joined_le f n l h = omega (arith, length_joined f l, sum_at_most (λ x. length (f x)) n l h)

  -- along one more of the first of a list
  pub joined_more : (f : A → List B) (l : List A) (i : ℕ) (d : A) → i < length l → joined f (take (i + 1) l) ≡ joined f (take i l) ++ f (get_or l i d)
  joined_more f l i d h = rw (add-one, take-suc l i d) (joined_last f (take i l) (get_or l i d))

  -- in order: lists in order, joined along a list in order, each of the one before each of the next
  pub ordered_joined : (Q : A → A → Type 0) (R : B → B → Type 0) (f : A → List B) (l : List A) → Ordered Q l
      → ((x : A) → Memᴰ x l → Ordered R (f x))
      → ((x y : A) → Memᴰ x l → Memᴰ y l → Q x y → (v w : B) → Memᴰ v (f x) → Memᴰ w (f y) → R v w) → Ordered R (joined f l)
  unfolding Ordered joined
  ordered_joined Q R f [] o i h = tt
  ordered_joined Q R f (x ∷ l) o i h =
      ordered_append R (f x) (joined f l) (i x (Memᴰ.head refl))
      (ordered_joined Q R f l o.1 (λ y m. i y (Memᴰ.tail m)) (λ y z m k. h y z (Memᴰ.tail m) (Memᴰ.tail k)))
      (λ v w m k. let r = joined_mem f l k in h x r.0 (Memᴰ.head refl) (Memᴰ.tail r.1) (o.0 r.0 r.1) v w m r.2)

  -- f keeps the order of a list
  pub ordered_map : (Q : A → A → Type 0) (R : B → B → Type 0) (f : A → B) (l : List A) → Ordered Q l
      → ((x y : A) → Memᴰ x l → Memᴰ y l → Q x y → R (f x) (f y)) → Ordered R (map f l)
  unfolding Ordered
  ordered_map Q R f [] o h = tt
  ordered_map Q R f (x ∷ l) o h = (
    λ y m. let r = Memᴰ.of_map f l m in subst (R (f x)) r.2 (h x r.0 (Memᴰ.head refl) (Memᴰ.tail r.1) (o.0 r.0 r.1)),
    ordered_map Q R f l o.1 (λ y z m k. h y z (Memᴰ.tail m) (Memᴰ.tail k)),
  )

-- ---- rows, each of which ends where the next begins

-- a sequence that does not fall at a step
module _ (a : ℕ → ℕ) (up : (j : ℕ) → a j ≤ a (suc j)) where
  rises_by : (i n : ℕ) → a i ≤ a (i + n)
  rises_by i zero = le_of_eq (ap a (sym (add-zero i)))
  rises_by i (suc n) = le_trans (rises_by i n) (subst (λ (k : ℕ). a (i + n) ≤ a k) (sym (add-suc i n)) (up (i + n)))

  -- it does not fall
  pub rises : {i k : ℕ} → i ≤ k → a i ≤ a k
  rises {i} h = let (n, e) = le_dest h in subst (λ (k : ℕ). a i ≤ a k) e (rises_by i n)

  -- the rows of h between its numbers, joined
  pub joined_rows : {B : Type 0} (h : ℕ → B) (f : ℕ → List B) → ((j : ℕ) → f j ≡ map h (run (a j) (a (suc j) - a j)))
      → (i n : ℕ) → joined f (run i n) ≡ map h (run (a i) (a (i + n) - a i))
  unfolding run joined
  joined_rows h f row i zero =
      let none : 0 ≡ a (i + 0) - a i = omega (arith, ap a (add-zero i)) in
      ap (λ (k : ℕ). map h (run (a i) k)) none
  joined_rows h f row i (suc n) =
      let here : ℕ = a (suc i) - a i in
      let after : ℕ = a (suc i + n) - a (suc i) in
      let last : a (i + suc n) ≡ a (suc i + n) = ap a (omega arith) in
      let parts : here + after ≡ a (i + suc n) - a i = omega (arith, up i, rises_by (suc i) n) in
      let next : a (suc i) ≡ a i + here = omega (arith, up i) in
      ap₂ ◌++◌ (row i) (joined_rows h f row (suc i) n) ∙ sym (map-append h (run (a i) here) (run (a (suc i)) after))
      ∙ ap (map h) (ap (λ (k : ℕ). run (a i) here ++ run k after) next ∙ sym (run_append (a i) here after) ∙ ap (run (a i)) parts)

-- ---- rising lists of numbers

-- l lists numbers from lo on that are below hi, in order
pub record Rising (lo hi : ℕ) (l : List ℕ) : Type 0 where
  pub ordered : Ordered ◌<◌ l
  pub within : (x : ℕ) → Memᴰ x l → (lo ≤ x) × (x < hi)

pub rising_nil : {lo hi : ℕ} → Rising lo hi []
unfolding Ordered
rising_nil = record { ordered = tt; within = λ x m. absurd (Memᴰ.not-nil m) }

pub rising_cons : {lo hi x : ℕ} {l : List ℕ} → lo ≤ x → x < hi → Rising (suc x) hi l → Rising lo hi (x ∷ l)
unfolding Ordered
rising_cons h k r = record {
  ordered = (λ y m. (r.within y m).0, r.ordered);
  within = λ y m. ⊎_elim (λ e. omega arith) (λ i. let b = r.within y i in omega arith) (Memᴰ.cases_cons m);
}

pub rising_tail : {lo hi x : ℕ} {l : List ℕ} → Rising lo hi (x ∷ l) → Rising (suc x) hi l
unfolding Ordered
rising_tail r = record { ordered = r.ordered.1; within = λ y m. (r.ordered.0 y m, (r.within y (Memᴰ.tail m)).1) }

pub rising_from : {lo low hi : ℕ} {l : List ℕ} → low ≤ lo → Rising lo hi l → Rising low hi l
rising_from h r = record { ordered = r.ordered; within = λ x m. let b = r.within x m in omega arith }

-- such a list begins with lo, or has no lo
pub rising_cases : {lo hi : ℕ} (l : List ℕ) → Rising lo hi l → ((t : List ℕ) × ((lo ∷ t) ≡ l) × Rising (suc lo) hi t) ⊎ Rising (suc lo) hi l
rising_cases [] r = inr rising_nil
rising_cases {lo} {hi} (x ∷ l) r =
    let (low, high) = r.within x (Memᴰ.head refl) in
    ⊎_elim (λ e. inl (l, ap (λ (y : ℕ). y ∷ l) e, subst (λ (y : ℕ). Rising (suc y) hi l) (sym e) (rising_tail r)))
    (λ h. inr (rising_cons h high (rising_tail r))) (eq-or-lt_of_le low)

-- it has no more numbers than there are
pub rising_length : {lo hi : ℕ} (l : List ℕ) → lo ≤ hi → Rising lo hi l → lo + length l ≤ hi
rising_length [] h r = omega arith
rising_length (x ∷ l) h r =
    let (low, high) = r.within x (Memᴰ.head refl) in
    omega (arith, rising_length l high (rising_tail r))

-- ---- the last of a list

pub last_mem : (d : ℕ) (l : List ℕ) → Memᴰ (last_or d l) (d ∷ l)
unfolding last_or
last_mem d [] = Memᴰ.head refl
last_mem d (x ∷ l) = Memᴰ.tail (last_mem x l)

-- where the last is above d, there is one
pub last_some : (d : ℕ) (l : List ℕ) → d < last_or d l → none l ≡ false
unfolding none last_or
last_some d [] h = absurd (omega arith)
last_some d (x ∷ l) h = refl

-- in order, none is above the last
pub le_last : {x : ℕ} (d : ℕ) (l : List ℕ) → Ordered ◌<◌ (d ∷ l) → Memᴰ x (d ∷ l) → x ≤ last_or d l
unfolding last_or Ordered
le_last d [] o (Memᴰ.head e) = le_of_eq e
le_last d [] o (Memᴰ.tail m) = absurd (Memᴰ.not-nil m)
le_last d (y ∷ l) o (Memᴰ.head e) = le_trans (le_of_eq e) (le_trans (le_of_lt (o.0 y (Memᴰ.head refl))) (le_last y l o.1 (Memᴰ.head refl)))
le_last d (y ∷ l) o (Memᴰ.tail m) = le_last y l o.1 m

-- ---- places in a list

-- x is in a list in which it stands between k and l
pub mem_middle : {A : Type 0} (k l : List A) (x : A) → Memᴰ x (k ++ x ∷ l)
mem_middle k l x = Memᴰ.append_right k (Memᴰ.head refl)

-- where x is in l, it stands between two parts of l
pub mem_split : {A : Type 0} {x : A} (l : List A) → Memᴰ x l → (k t : List A) × (k ++ x ∷ t ≡ l)
mem_split [] m = absurd (Memᴰ.not-nil m)
mem_split (y ∷ l) (Memᴰ.head e) = ([], l, ap (λ z. z ∷ l) e)
mem_split (y ∷ l) (Memᴰ.tail m) = let (k, t, e) = mem_split l m in (y ∷ k, t, ap (λ (u : List _). y ∷ u) e)

-- an end of a list, without its first i, is an end of it
pub end_drop : {A : Type 0} (i : ℕ) (k l : List A) {whole : List A} → k ++ l ≡ whole → (k ++ take i l) ++ drop i l ≡ whole
end_drop i k l e = append_assoc k (take i l) (drop i l) ∙ ap (λ (t : List _). k ++ t) (take-append-drop i l) ∙ e

-- a list with the default value behind it has the same entries
pub get_d_append_default : {A : Type 0} (l : List A) (n i : ℕ) (d : A) → get_or (l ++ replicate n d) i d ≡ get_or l i d
get_d_append_default [] zero i d = refl
get_d_append_default [] (suc n) zero d = refl
get_d_append_default [] (suc n) (suc i) d = get_d_append_default [] n i d
get_d_append_default (x ∷ l) n zero d = refl
get_d_append_default (x ∷ l) n (suc i) d = get_d_append_default l n i d

-- in a list ordered by R, which nothing has to itself, from x on there is x and what follows it
pub on_from_split : (R : ℕ → ℕ → Type 0) → ((x : ℕ) → R x x → ⊥) → (k l : List ℕ) (x : ℕ) → Ordered R (k ++ x ∷ l) → on_from x (k ++ x ∷ l) ≡ x ∷ l
unfolding on_from Ordered
on_from_split R irrefl [] l x o = rw (eq-eqb x x refl)
on_from_split R irrefl (y ∷ k) l x o =
    rw (ne_eqb x y (λ e. irrefl x (subst (λ (z : ℕ). R z x) (sym e) (o.0 x (mem_middle k l x)))))
    (on_from_split R irrefl k l x o.1)

-- in order, where there is any, the first is the least
pub least_first : {x : ℕ} (l : List ℕ) (d : ℕ) → Ordered ◌<◌ l → Memᴰ x l → Memᴰ (get_or l 0 d) l × ((y : ℕ) → Memᴰ y l → get_or l 0 d ≤ y)
unfolding Ordered
least_first [] d o m = absurd (Memᴰ.not-nil m)
least_first (z ∷ l) d o m = (Memᴰ.head refl, λ y n. ⊎_elim (λ e. omega arith) (λ i. omega (arith, o.0 y i)) (Memᴰ.cases_cons n))

-- so that the least is the first
pub first_least : (l : List ℕ) (x d : ℕ) → Ordered ◌<◌ l → Memᴰ x l → ((y : ℕ) → Memᴰ y l → x ≤ y) → get_or l 0 d ≡ x
first_least l x d o m least = let (i, first) = least_first l d o m in omega (arith, first x m, least (get_or l 0 d) i)

-- ---- one number or one member more

-- what passes among numbers in a row is what passes among the first of them and among the others
pub keep_run : (p : ℕ → Bool) (a m n : ℕ) → keep p (run a (m + n)) ≡ keep p (run a m) ++ keep p (run (a + m) n)
keep_run p a m n = ap (keep p) (run_append a m n) ∙ keep_append p (run a m) (run (a + m) n)

-- what passes among one number more
module _ (p : ℕ → Bool) (a n : ℕ) where
  keep_more : keep p (run a (n + 1)) ≡ keep p (run a n) ++ keep p ((a + n) ∷ [])
  unfolding run
  keep_more = keep_run p a n 1

  pub keep_more_in : p (a + n) ≡ true → keep p (run a (n + 1)) ≡ keep p (run a n) ++ (a + n) ∷ []
  unfolding keep
  keep_more_in e = keep_more ∙ ap (λ (l : List ℕ). keep p (run a n) ++ l) (keep_in p (a + n) [] e)

  pub keep_more_out : p (a + n) ≡ false → keep p (run a (n + 1)) ≡ keep p (run a n)
  unfolding keep
  keep_more_out e = keep_more ∙ ap (λ (l : List ℕ). keep p (run a n) ++ l) (keep_out p (a + n) [] e) ∙ append-nil (keep p (run a n))

-- members that are tested one after the other: those from i on decide, as long as none before i failed
module _ (p : ℕ → Bool) (l : List ℕ) (i : ℕ) (decide : every p (drop i l) ≡ every p l) where
  -- the member at i and those after it
  every_from : i < length l → every p (drop i l) ≡ (p (get_or l i 0) && every p (drop (i + 1) l))
  unfolding every
  every_from h = ap (every p) (drop-cons l i 0 h) ∙ ap (λ (j : ℕ). p (get_or l i 0) && every p (drop j l)) (sym (add-one i))

  -- one that fails is enough
  pub tested_no : i < length l → p (get_or l i 0) ≡ false → false ≡ every p l
  tested_no h e = sym (sym decide ∙ every_from h ∙ ap (λ (b : Bool). b && every p (drop (i + 1) l)) e)

  -- after one that passes the others decide
  pub tested_yes : i < length l → p (get_or l i 0) ≡ true → every p (drop (i + 1) l) ≡ every p l
  tested_yes h e = sym (every_from h ∙ ap (λ (b : Bool). b && every p (drop (i + 1) l)) e) ∙ decide

  -- and at the end all have passed
  pub tested_all : length l ≤ i → true ≡ every p l
  unfolding every
  tested_all h = sym (ap (every p) (drop_of_length-le l {i = i} h)) ∙ decide

-- of a sum, the number at an index and those after it
pub sum_from : (f : ℕ → ℕ) (l : List ℕ) (i : ℕ) → i < length l → sum_over f (drop i l) ≡ f (get_or l i 0) + sum_over f (drop (i + 1) l)
unfolding sum_over
sum_from f l i h = ap (sum_over f) (drop-cons l i 0 h) ∙ ap (λ (j : ℕ). f (get_or l i 0) + sum_over f (drop j l)) (sym (add-one i))

-- are all positive: the test decides, and where it fails 0 is among them
pub positive_iff : (l : List ℕ) → (every (ltb 0) l ≡ true) ↔ ((x : ℕ) → Memᴰ x l → 0 < x)
positive_iff l = (λ e x m. ltb-true 0 x (every_mem (ltb 0) l e m), λ h. mem_every (ltb 0) l (λ x m. lt-ltb 0 x (h x m)))

pub zero_iff : (l : List ℕ) → (every (ltb 0) l ≡ false) ↔ Memᴰ 0 l
zero_iff l = (
  λ e.
      let (x, m, f) = every_false (ltb 0) l e in
      let none : 0 ≡ x = omega (arith, ltb-false 0 x f) in
      Memᴰ.cast none m,
  λ m. is_false (every (ltb 0) l) (λ e. omega (arith, (positive_iff l).0 e 0 m)),
)

-- so that all are where 0 is not among them
pub positive_without_zero : (l : List ℕ) → (¬ Memᴰ 0 l) → (x : ℕ) → Memᴰ x l → 0 < x
positive_without_zero l h = (positive_iff l).0 (is_true (every (ltb 0) l) (λ e. h ((zero_iff l).0 e)))

-- and the test has the same answer for two lists where 0 is in both or in neither
pub positive_together : (k l : List ℕ) → Memᴰ 0 k ↔ Memᴰ 0 l → every (ltb 0) k ≡ every (ltb 0) l
positive_together k l (to, from) = true_together (every (ltb 0) k) (every (ltb 0) l) (carried k l from) (carried l k to)
  where
    carried : (k l : List ℕ) → (Memᴰ 0 l → Memᴰ 0 k) → every (ltb 0) k ≡ true → every (ltb 0) l ≡ true
    carried k l from e = is_true (every (ltb 0) l) (λ f. not_both e ((zero_iff k).1 (from ((zero_iff l).0 f))))

-- the sum of positive numbers is at least their number
pub length_le_sum : (l : List ℕ) → every (ltb 0) l ≡ true → length l ≤ sum_over (λ x. x) l
unfolding every sum_over
length_le_sum [] e = omega arith
length_le_sum (x ∷ l) e =
    let (pos, rest) = (and-eq-true_iff (ltb 0 x) (every (ltb 0) l)).0 e in
    omega (arith, ltb-true 0 x pos, length_le_sum l rest)

-- ---- a list that begins with another

pub begins_append : (k l : List ℕ) → begins k (k ++ l) ≡ true
unfolding begins
begins_append [] l = refl
begins_append (x ∷ k) l = (and-eq-true_iff (eqb x x) (begins k (k ++ l))).1 (eq-eqb x x refl, begins_append k l)

pub begins_rest : (k l : List ℕ) → begins k l ≡ true → (r : List ℕ) × (k ++ r ≡ l)
unfolding begins
begins_rest [] l e = (l, refl)
begins_rest (x ∷ k) [] e = absurd (not_both e refl)
begins_rest (x ∷ k) (y ∷ l) e =
    let (p, q) = (and-eq-true_iff (eqb x y) (begins k l)).0 e in
    let (r, s) = begins_rest k l q in
    (r, ap₂ ◌∷◌ (eqb-true x y p) s)

-- the same by the first numbers of the list
pub begins_iff : (k l : List ℕ) → (begins k l ≡ true) ↔ (take (length k) l ≡ k)
begins_iff k l = (
  λ e. let (r, s) = begins_rest k l e in ap (take (length k)) (sym s) ∙ take-append_seam k r,
  λ e. ap (begins k) (sym (take-append-drop (length k) l) ∙ ap (λ (m : List ℕ). m ++ drop (length k) l) e) ∙ begins_append k (drop (length k) l),
)

-- ---- a list from an element on

module _ (x : ℕ) where
  -- where x is not in the first part, from x on there is what there is in the second
  pub on_from_later : (k l : List ℕ) → (Memᴰ x k → ⊥) → on_from x (k ++ l) ≡ on_from x l
  unfolding on_from
  on_from_later [] l h = refl
  on_from_later (y ∷ k) l h = rw (ne_eqb x y (λ e. h (Memᴰ.head e))) (on_from_later k l (λ m. h (Memᴰ.tail m)))

  -- where it is, the second part follows
  pub on_from_within : (k l : List ℕ) → Memᴰ x k → on_from x (k ++ l) ≡ on_from x k ++ l
  unfolding on_from
  on_from_within [] l m = absurd (Memᴰ.not-nil m)
  on_from_within (y ∷ k) l m =
      by_value (eqb x y) (λ e. rw e)
      (λ e. rw e (on_from_within k l (⊎_elim (λ q. absurd (not_both (eq-eqb x y q) e)) (λ n. n) (Memᴰ.cases_cons m))))

  -- x is in the list of d and in none before it: from x on there are the rest of that list and the lists after it
  pub on_from_joined : (f : ℕ → List ℕ) (d : ℕ) (k l : List ℕ) → (Memᴰ x (joined f k) → ⊥) → Memᴰ x (f d)
      → on_from x (joined f (k ++ d ∷ l)) ≡ on_from x (f d) ++ joined f l
  unfolding joined
  on_from_joined f d k l before m =
      ap (on_from x) (joined_append f k (d ∷ l)) ∙ on_from_later (joined f k) (f d ++ joined f l) before ∙ on_from_within (f d) (joined f l) m

-- ---- sums

pub sum_append : {A : Type 0} (f : A → ℕ) (k l : List A) → sum_over f (k ++ l) ≡ sum_over f k + sum_over f l
unfolding sum_over
sum_append f [] l = omega arith
sum_append f (x ∷ k) l = omega (arith, sum_append f k l)

module _ {A : Type 0} where
  -- equal values have equal sums
  pub sum_same : (f h : A → ℕ) (l : List A) → ((x : A) → Memᴰ x l → f x ≡ h x) → sum_over f l ≡ sum_over h l
  unfolding sum_over
  sum_same f h [] e = refl
  sum_same f h (x ∷ l) e = ap₂ ◌+◌ (e x (Memᴰ.head refl)) (sum_same f h l (λ y m. e y (Memᴰ.tail m)))

  -- a sum of zeros
  pub sum_none : (f : A → ℕ) (l : List A) → ((x : A) → Memᴰ x l → f x ≡ 0) → sum_over f l ≡ 0
  unfolding sum_over
  sum_none f [] e = refl
  sum_none f (x ∷ l) e = omega (arith, e x (Memᴰ.head refl), sum_none f l (λ y m. e y (Memᴰ.tail m)))

  -- the sum of f + h is that of f and that of h
  pub sum_plus : (f h : A → ℕ) (l : List A) → sum_over (λ x. f x + h x) l ≡ sum_over f l + sum_over h l
  unfolding sum_over
  sum_plus f h [] = refl
  sum_plus f h (x ∷ l) = omega (arith, sum_plus f h l)

  -- a sum of one for each
  pub sum_of_ones : (l : List A) → sum_over (λ x. 1) l ≡ length l
  unfolding sum_over
  sum_of_ones [] = refl
  sum_of_ones (x ∷ l) = omega (arith, sum_of_ones l)

  -- a sum over those that pass a test
  pub sum_kept : (f : A → ℕ) (p : A → Bool) (l : List A) → sum_over f (keep p l) ≡ sum_over (λ x. digit (p x) * f x) l
  unfolding sum_over keep keep_if digit
  sum_kept f p [] = refl
  sum_kept f p (x ∷ l) = by_value (p x) (λ e. rw e (omega (arith, sum_kept f p l))) (λ e. rw e (omega (arith, sum_kept f p l)))

-- a sum in which one number of a run counts, and the others don't
sum_at : (f : ℕ → ℕ) (j a n : ℕ) → a ≤ j → j < a + n → sum_over (λ i. cond (eqb j i) (f i) 0) (run a n) ≡ f j
unfolding sum_over run
sum_at f j a zero low high = absurd (omega arith)
sum_at f j a (suc n) low high = elim (ℕ_discrete j a) [
  | yes e ↦
      let others = sum_none (λ i. cond (eqb j i) (f i) 0) (run (suc a) n) (λ i m. rw (ne_eqb j i (λ d. omega (arith, run_mem (suc a) n m)))) in
      rw (eq-eqb j a e) (omega (arith, others, ap f e))
  | no d ↦ rw (ne_eqb j a d) (omega (arith, sum_at f j (suc a) n (omega arith) (omega arith)))
]

-- each of a list has a key below n: to sum f of the keys, each key below n is taken as often as the list has it
pub sum_by_key : {A : Type 0} (key : A → ℕ) (f : ℕ → ℕ) (n : ℕ) (l : List A) → ((x : A) → Memᴰ x l → key x < n)
    → sum_over (λ i. f i * length (keep (λ x. eqb (key x) i) l)) (run 0 n) ≡ sum_over (λ x. f (key x)) l
unfolding sum_over keep keep_if
sum_by_key key f n [] h = sum_none _ (run 0 n) (λ i m. mul-zero (f i))
sum_by_key key f n (x ∷ l) h =
    sum_same _ (λ i. cond (eqb (key x) i) (f i) 0 + f i * length (keep (λ y. eqb (key y) i) l)) (run 0 n)
    (λ i m. by_value (eqb (key x) i) (λ e. rw e (omega (arith, mul-suc (f i) (length (keep (λ y. eqb (key y) i) l))))) (λ e. rw e (omega arith)))
    ∙ sum_plus (λ i. cond (eqb (key x) i) (f i) 0) (λ i. f i * length (keep (λ y. eqb (key y) i) l)) (run 0 n)
    ∙ ap₂ ◌+◌ (sum_at f (key x) 0 n (omega arith) (omega (arith, h x (Memᴰ.head refl)))) (sum_by_key key f n l (λ y m. h y (Memᴰ.tail m)))

-- a sum along numbers one higher
pub sum_shift : (f : ℕ → ℕ) (a n : ℕ) → sum_over f (run (suc a) n) ≡ sum_over (λ i. f (suc i)) (run a n)
unfolding sum_over run
sum_shift f a zero = refl
sum_shift f a (suc n) = omega (arith, sum_shift f (suc a) n)

-- the entries of a list by their places
pub sum_places : (l : List ℕ) → sum_over (λ i. get_or l i 0) (run 0 (length l)) ≡ sum_over (λ x. x) l
unfolding sum_over run
sum_places [] = refl
sum_places (x ∷ l) = omega (arith, sum_shift (λ i. get_or (x ∷ l) i 0) 0 (length l), sum_places l)

-- along rising numbers from c to n - 1, what is at most 2 ^ (n - 1 - x) for x is together at most 2 ^ (n - c)
pub sum_of_powers : (f : ℕ → ℕ) (n c : ℕ) (l : List ℕ) → Ordered ◌<◌ l → ((x : ℕ) → Memᴰ x l → (c ≤ x) × (x < n) × (f x ≤ 2 ^ (n - suc x)))
    → sum_over f l ≤ 2 ^ (n - c)
unfolding sum_over Ordered
sum_of_powers f n c [] o h = omega arith
sum_of_powers f n c (x ∷ l) o h =
    let (low, high, here) = h x (Memᴰ.head refl) in
    let rest = sum_of_powers f n (suc x) l o.1 (λ y m. let (p, q, r) = h y (Memᴰ.tail m) in (o.0 y m, q, r)) in
    let next : n - x ≡ suc (n - suc x) = omega arith in
    let room : 2 ^ (n - x) ≤ 2 ^ (n - c) = pow_mono (omega arith) in
    omega (arith, ap (λ (k : ℕ). 2 ^ k) next, pow-suc 2 (n - suc x))

-- a list from x on is an end of it
pub on_from_end : (x : ℕ) (l : List ℕ) → (k : List ℕ) × (k ++ on_from x l ≡ l)
unfolding on_from
on_from_end x [] = ([], refl)
on_from_end x (y ∷ l) =
    by_value (eqb x y) (λ e. ([], rw e))
    (λ e. let (k, s) = on_from_end x l in (y ∷ k, rw e (ap (λ (t : List ℕ). y ∷ t) s)))

-- ---- a list of one value

module _ {A : Type 0} (a : A) where
  -- it has no other member
  pub replicate_mem : {x : A} (n : ℕ) → Memᴰ x (replicate n a) → x ≡ a
  replicate_mem zero m = absurd (Memᴰ.not-nil m)
  replicate_mem (suc n) m = ⊎_elim (λ e. e) (replicate_mem n) (Memᴰ.cases_cons m)

  -- and a list without another member is one
  pub mem_replicate : (l : List A) → ((x : A) → Memᴰ x l → x ≡ a) → l ≡ replicate (length l) a
  mem_replicate [] h = refl
  mem_replicate (x ∷ l) h = ap₂ (λ (y : A) (r : List A). y ∷ r) (h x (Memᴰ.head refl)) (mem_replicate l (λ y m. h y (Memᴰ.tail m)))

  -- without its first n it is a shorter one
  pub drop_replicate : (n k : ℕ) → n ≤ k → drop n (replicate k a) ≡ replicate (k - n) a
  drop_replicate n k h =
      let parts : n + (k - n) ≡ k = omega arith in
      ap (λ (j : ℕ). drop n (replicate j a)) (sym parts) ∙ ap (drop n) (sym (replicate-append-replicate n (k - n) a))
      ∙ drop_at (replicate n a) (replicate (k - n) a) n (length-replicate n a)

-- ---- stores in a row

-- what is stored behind s is stored with it
pub sets_append : {A : Type 0} (l : List A) (i : ℕ) (s t : List A) → sets l i (s ++ t) ≡ sets (sets l i s) (i + length s) t
sets_append l i [] t = ap (λ (j : ℕ). sets l j t) (sym (add-zero i))
sets_append l i (x ∷ s) t =
    let place : suc i + length s ≡ i + suc (length s) = omega arith in
    sets_append (set l i x) (suc i) s t ∙ ap (λ (j : ℕ). sets (sets (set l i x) (suc i) s) j t) place

-- ---- numbers written in front of a list

module _ (l out : List ℕ) where
  -- the length stays
  pub fronted_length : length l ≤ length out → length (fronted l out) ≡ length out
  unfolding fronted
  fronted_length h = simp (length-append, length-drop) (omega arith)

  -- the first places have the numbers
  pub fronted_at : (i : ℕ) → i < length l → get_or (fronted l out) i 0 ≡ get_or l i 0
  unfolding fronted
  fronted_at i h = get_or-append l (drop (length l) out) 0 i h

  -- and the others what they had
  pub fronted_beyond : (i : ℕ) → length l ≤ i → get_or (fronted l out) i 0 ≡ get_or out i 0
  unfolding fronted
  fronted_beyond i h =
      let (n, e) = le_dest h in
      ap (λ (k : ℕ). get_or (l ++ drop (length l) out) k 0) (sym e) ∙ get_or-append-add l (drop (length l) out) n 0 ∙ get_or-drop (length l) out n 0
      ∙ ap (λ (k : ℕ). get_or out k 0) e

  -- one number more
  pub fronted_set : (x : ℕ) → length l < length out → set (fronted l out) (length l) x ≡ fronted (l ++ x ∷ []) out
  unfolding fronted
  fronted_set x h =
      ap (λ (r : List ℕ). set (l ++ r) (length l) x) (drop-cons out (length l) 0 h)
      ∙ set-append_seam l (get_or out (length l) 0) (drop (suc (length l)) out) x
      ∙ sym (append_assoc l (x ∷ []) (drop (length (l ++ x ∷ [])) out) ∙ ap (λ (k : ℕ). l ++ x ∷ drop k out) (length-append l (x ∷ []) ∙ add-one (length l)))

  -- what is written is in front
  pub fronted_front : take (length l) (fronted l out) ≡ l
  unfolding fronted
  fronted_front = take-append_seam l (drop (length l) out)

  -- the places after it are untouched
  pub fronted_rest : drop (length l) (fronted l out) ≡ drop (length l) out
  unfolding fronted
  fronted_rest = drop-append_seam l (drop (length l) out)

  -- written on after l
  pub fronted_on : (k : List ℕ) → fronted (l ++ k) (fronted l out) ≡ fronted (l ++ k) out
  unfolding fronted
  fronted_on k =
      ap (λ (r : List ℕ). (l ++ k) ++ r)
      (ap (λ (n : ℕ). drop n (l ++ drop (length l) out)) (length-append l k) ∙ drop-append-add l (drop (length l) out) (length k)
      ∙ drop-drop (length k) (length l) out ∙ ap (λ (n : ℕ). drop n out) (sym (length-append l k)))

  -- written again
  pub fronted_again : fronted l (fronted l out) ≡ fronted l out
  fronted_again = rw (append-nil l) at (fronted_on [])

  -- written on from the place after l
  pub fronted_twice : (k next : List ℕ) (at : ℕ) → at ≡ length l → next ≡ fronted l out → fronted (take at next ++ k) next ≡ fronted (l ++ k) out
  fronted_twice k next at p q =
      ap₂ (λ (n : ℕ) (o : List ℕ). fronted (take n o ++ k) o) p q ∙ ap (λ (m : List ℕ). fronted (m ++ k) (fronted l out)) fronted_front ∙ fronted_on k

-- a list written place by place
pub fronted_next : (l out : List ℕ) (k : ℕ) → k < length l → length l ≤ length out
    → set (fronted (take k l) out) k (get_or l k 0) ≡ fronted (take (k + 1) l) out
fronted_next l out k h room =
    let here : length (take k l) ≡ k = length-take k l ∙ omega arith in
    ap (λ (i : ℕ). set (fronted (take k l) out) i (get_or l k 0)) (sym here) ∙ fronted_set (take k l) out (get_or l k 0) (omega arith)
    ∙ ap (λ (t : List ℕ). fronted t out) (sym (take-suc l k 0 h) ∙ ap (λ (i : ℕ). take i l) (sym (add-one k)))

-- all of l, in a list that is as long
pub fronted_all : (l out : List ℕ) (k : ℕ) → length l ≤ k → length out ≡ length l → fronted (take k l) out ≡ l
unfolding fronted
fronted_all l out k all same =
    ap (λ (t : List ℕ). t ++ drop (length t) out) (take_all k l all) ∙ ap (λ (r : List ℕ). l ++ r) (drop_of_length-le out {i = length l} (omega arith)) ∙ append-nil l

-- the front of the list itself
pub fronted_self : (out : List ℕ) (n : ℕ) → n ≤ length out → fronted (take n out) out ≡ out
unfolding fronted
fronted_self out n h =
    let short : min n (length out) ≡ n = omega arith in
    ap (λ (k : ℕ). take n out ++ drop k out) (length-take n out ∙ short) ∙ take-append-drop n out
