-- The merge of several lists: the least head is taken again and again, the earliest of equal ones.
use Rattle.std.specs.Prelude.{Bool, cond, List, [], ◌∷◌, ℕ, zero, suc}
use Rattle.basics.specs.Lists.{total}

-- the least head, what follows it in its list, and the lists with it taken off; or there is none
pub data Pick (A : Type 0) : Type 0 where
  none : Pick A
  one : A → List A → List (List A) → Pick A

-- a head ahead of what comes from the lists without it
abbrev pub onto : {A : Type 0} → (List (List A) → List A) → Pick A → List A
onto f none = []
onto f (one a rest ts) = a ∷ f ts

-- `ahead x y`: the head x of an earlier list is taken ahead of the head y of a later one
module _ {A : Type 0} (ahead : A → A → Bool) where
  -- the head of s, or what was picked from the lists after it
  abbrev pub better : List A → List (List A) → Pick A → Pick A
  better [] ss none = none
  better [] ss (one y rest ts) = one y rest ([] ∷ ts)
  better (x ∷ xs) ss none = one x xs (xs ∷ ss)
  better (x ∷ xs) ss (one y rest ts) = cond (ahead x y) (one x xs (xs ∷ ss)) (one y rest ((x ∷ xs) ∷ ts))

  unfoldable pub pick : List (List A) → Pick A
  pick [] = none
  pick (s ∷ ss) = better s ss (pick ss)

  -- n heads, one after the other
  unfoldable pub draw : ℕ → List (List A) → List A
  draw zero ss = []
  draw (suc n) ss = onto (draw n) (pick ss)

  -- all of them
  unfoldable pub merge : List (List A) → List A
  merge ss = draw (total ss) ss
