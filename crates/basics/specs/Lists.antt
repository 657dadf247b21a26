-- Lists: what a test keeps, the longest start that passes it, a fact of each element, order.
use Rattle.std.specs.Prelude.{◌≡◌, Bool, true, false, cond, ◌&&◌, List, [], ◌∷◌, ℕ, ◌+◌, length}
use Rattle.std.proofs.Math.Option.{Option}

-- a test decides a statement: where it passes the statement holds, where it fails it does not
pub record Says (r : Bool) (P : Type 0) : Type 0 where
  pub yes : r ≡ true → P
  pub no : r ≡ false → P → ⊥

-- an option is filled
abbrev pub is_some : {A : Type 0} → Option A → Bool
is_some Option.none = false
is_some (Option.some a) = true

module _ {A : Type 0} where
  -- an element ahead of a list, where a test passes
  abbrev pub keep : Bool → A → List A → List A
  keep true x l = x ∷ l
  keep false x l = l

  -- the elements that pass, in their order
  abbrev pub filter : (A → Bool) → List A → List A
  filter p [] = []
  filter p (x ∷ l) = keep (p x) x (filter p l)

  -- the longest start of a list that passes, and what comes after it
  abbrev pub front : (A → Bool) → List A → List A
  front p [] = []
  front p (x ∷ l) = cond (p x) (x ∷ front p l) []

  abbrev pub back : (A → Bool) → List A → List A
  back p [] = []
  back p (x ∷ l) = cond (p x) (back p l) (x ∷ l)

  -- the first element, and the first that passes
  abbrev pub first_one : List A → Option A
  first_one [] = Option.none
  first_one (x ∷ l) = Option.some x

  abbrev pub first : (A → Bool) → List A → Option A
  first p l = first_one (filter p l)

  -- some element passes
  abbrev pub any : (A → Bool) → List A → Bool
  any p [] = false
  any p (x ∷ l) = cond (p x) true (any p l)

  -- every element passes
  abbrev pub all : (A → Bool) → List A → Bool
  all p [] = true
  all p (x ∷ l) = p x && all p l

  -- how many elements there are in all
  abbrev pub total : List (List A) → ℕ
  total [] = 0
  total (s ∷ ss) = length s + total ss

-- a fact of each element
pub data All {A : Type 0} (P : A → Type 0) : List A → Type 0 where
  nil : All P []
  cons : {x : A} {l : List A} → P x → All P l → All P (x ∷ l)

-- a fact of the elements of two lists of one length, pair by pair
pub data Pairs {A B : Type 0} (P : A → B → Type 0) : List A → List B → Type 0 where
  nil : Pairs P [] []
  cons : {x : A} {y : B} {l : List A} {m : List B} → P x y → Pairs P l m → Pairs P (x ∷ l) (y ∷ m)

-- each element stands in the order to all that come after it
pub data Sorted {A : Type 0} (le : A → A → Type 0) : List A → Type 0 where
  none : Sorted le []
  next : {x : A} {l : List A} → All (le x) l → Sorted le l → Sorted le (x ∷ l)

-- x stands in the list
pub data Has {A : Type 0} (x : A) : List A → Type 0 where
  here : {l : List A} → Has x (x ∷ l)
  there : {y : A} {l : List A} → Has x l → Has x (y ∷ l)
