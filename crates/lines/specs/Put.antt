-- Bytes written to a lent buffer at a place: all of them, or none.
use Rattle.std.specs.Prelude.{ℕ, ◌+◌, ◌≤◌, ◌<◌, ◌≡◌, List, ◌++◌, length, take, drop, Option, Some, None}

-- a list with bytes in the place of those from `at` on
unfoldable pub laid : List ℕ → ℕ → List ℕ → List ℕ
laid old at bytes = take at old ++ bytes ++ drop (at + length bytes) old

-- all the bytes are written, and r is the place behind them
pub record Wrote (old : List ℕ) (at : ℕ) (bytes : List ℕ) (r : ℕ) (new : List ℕ) : Type 0 where
  pub stop : r ≡ at + length bytes
  pub laid_in : new ≡ laid old at bytes

-- "14: .. a listing longer than its buffer": the bytes are written where they fit; else nothing is
pub record Puts (old : List ℕ) (at : ℕ) (bytes : List ℕ) (answer : Option ℕ) (new : List ℕ) : Type 0 where
  pub fits : at + length bytes ≤ length old → (answer ≡ Some (at + length bytes)) × (new ≡ laid old at bytes)
  pub full : length old < at + length bytes → (answer ≡ None) × (new ≡ old)
