-- Lists by which the atlas's definitions are written. Assumes nothing: these are definitions.
use Rattle.std.specs.Prelude.{ℕ, zero, suc, ◌+◌, ◌<◌, Bool, true, false, cond, not, ◌&&◌, eqb, length, drop}
use mathlib.Core.List.{List, [], ◌∷◌, ◌++◌, Memᴰ}

-- a list with nothing in it
unfoldable pub none : {A : Type 0} → List A → Bool
none [] = true
none (x ∷ l) = false

-- n numbers in a row, from a on
unfoldable pub run : ℕ → ℕ → List ℕ
run a zero = []
run a (suc n) = a ∷ run (suc a) n

-- x in front of l where the test passed
unfoldable pub keep_if : {A : Type 0} → Bool → A → List A → List A
keep_if true x l = x ∷ l
keep_if false x l = l

-- those that pass the test, in their order
unfoldable pub keep : {A : Type 0} → (A → Bool) → List A → List A
unfolding keep_if
keep p [] = []
keep p (x ∷ l) = keep_if (p x) x (keep p l)

-- does every one pass the test
unfoldable pub every : {A : Type 0} → (A → Bool) → List A → Bool
every p [] = true
every p (x ∷ l) = p x && every p l

-- is x among the numbers of l
unfoldable pub member_of : List ℕ → ℕ → Bool
member_of l x = not (every (λ a. not (eqb a x)) l)

-- f of each, joined
unfoldable pub joined : {A B : Type 0} → (A → List B) → List A → List B
joined f [] = []
joined f (x ∷ l) = f x ++ joined f l

-- the sum of f of each
unfoldable pub sum_over : {A : Type 0} → (A → ℕ) → List A → ℕ
sum_over f [] = 0
sum_over f (x ∷ l) = f x + sum_over f l

-- the last number of l, and d where there is none
unfoldable pub last_or : ℕ → List ℕ → ℕ
last_or d [] = d
last_or d (x ∷ l) = last_or x l

-- does the second list begin with the first
unfoldable pub begins : List ℕ → List ℕ → Bool
begins [] l = true
begins (x ∷ k) [] = false
begins (x ∷ k) (y ∷ l) = eqb x y && begins k l

-- a list with the numbers of l written in front: the places after them are untouched
unfoldable pub fronted : List ℕ → List ℕ → List ℕ
fronted l lent = l ++ drop (length l) lent

-- l from its first x on
unfoldable pub on_from : ℕ → List ℕ → List ℕ
on_from x [] = []
on_from x (y ∷ l) = cond (eqb x y) (y ∷ l) (on_from x l)

-- a list of bytes: each is below 256
abbrev pub Bytes : List ℕ → Type 0
Bytes l = (x : ℕ) → Memᴰ x l → x < 256

-- each stands in the relation R to every later one
unfoldable pub Ordered : {A : Type 0} → (A → A → Type 0) → List A → Type 0
Ordered R [] = Unit {0}
Ordered {A} R (x ∷ l) = ((y : A) → Memᴰ y l → R x y) × Ordered R l
