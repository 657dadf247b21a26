-- Lines written to a lent buffer at a place, one behind the other: all of them, or those ahead of the first that doesn't fit.
use Rattle.std.specs.Prelude.{ℕ, ◌+◌, ◌-◌, ◌≡◌, cond, List, [], ◌∷◌, ◌++◌, leb, length, Result, Ok, Err}
use Rattle.lines.specs.declared.Cut.{Cut}
use Rattle.lines.specs.Put.{laid}

-- the bytes of lines, one after the other
abbrev pub joined : List (List ℕ) → List ℕ
joined [] = []
joined (l ∷ ls) = l ++ joined ls

-- 14: "a listing longer than its buffer": "the lines ahead of the first that doesn't fit"
abbrev pub fitting : ℕ → List (List ℕ) → List (List ℕ)
fitting space [] = []
fitting space (l ∷ ls) = cond (leb (length l) space) (l ∷ fitting (space - length l) ls) []

-- the place behind the lines that stand, where not all of them do
abbrev pub cut : ℕ → Result ℕ Cut
cut p = Err (record { 0 = p })

-- the document's number, 0 where all lines stand
abbrev pub laid_number : Result ℕ Cut → ℕ
laid_number (Ok p) = 0
laid_number (Err c) = 14

-- what of the lines a buffer holds from a place on; nothing where the place is past its end
abbrev pub fitted : List ℕ → ℕ → List (List ℕ) → List ℕ
fitted old at ls = joined (fitting (length old - at) ls)

-- whether all lines fit, and the place behind those that are written
abbrev pub laid_of : List ℕ → ℕ → List (List ℕ) → Result ℕ Cut
laid_of old at ls = cond (leb (at + length (joined ls)) (length old)) (Ok (at + length (joined ls))) (cut (at + length (fitted old at ls)))

-- the lines ahead of the first that doesn't fit stand at the place, and nothing else changed
pub record Lays (old : List ℕ) (at : ℕ) (ls : List (List ℕ)) (r : Result ℕ Cut) (new : List ℕ) : Type 0 where
  pub answer : r ≡ laid_of old at ls
  pub written : new ≡ laid old at (fitted old at ls)
