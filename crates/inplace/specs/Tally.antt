-- What the readers for hosts say: as the readers do, with the answer in numbers.
use Rattle.std.specs.Prelude.{◌≡◌, List, ℕ, length, Result}
use Rattle.fields.specs.declared.ReadError.{ReadError}
use Rattle.fields.specs.Table.{Found, Fills, answer, refusal_of, rows_of}
use Rattle.inplace.specs.declared.readers.Tally.{Tally}

-- the refusal number of an answer, and the rows ahead of its end
abbrev pub tally_of : Result ℕ ReadError → Tally
tally_of r = record { refusal = refusal_of r; rows = rows_of r }

-- what a reader answers and leaves in its three lent columns
pub record Tallies {A : Type 0} (f g h : A → ℕ) (found : Found A) (a b c : List ℕ) (t : Tally) (a' b' c' : List ℕ) : Type 0 where
  pub told : t ≡ tally_of (answer found.end (length found.rows))
  pub fills : Fills f g h found a b c (answer found.end (length found.rows)) a' b' c'
