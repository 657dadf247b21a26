-- A test of all entries of a table of tables.
-- Assumes nothing.
use mathlib.Core.Bool.{Bool, true, false}
use mathlib.Core.List.{List, [], ◌∷◌}
use Prim.Native.Nat.{ℕ, suc}
use lib.Dec.{eqb}
use lib.ListN.{length}

abbrev pub both : Bool → Bool → Bool
both true b = b
both false b = false

module _ {A : Type 0} where
  -- the test f passes at each entry of the list and its place, counted from i
  abbrev pub every : (ℕ → A → Bool) → ℕ → List A → Bool
  every f i [] = true
  every f i (x ∷ xs) = both (f i x) (every f (suc i) xs)

  -- the test of a row: it has n entries, and f passes at each
  abbrev pub row : (ℕ → ℕ → A → Bool) → ℕ → ℕ → List A → Bool
  row f n i xs = both (eqb (length xs) n) (every (f i) 0 xs)
