-- What a text of lines gives: its good rows in order, where it stops and why; for any kind of row.
use Rattle.std.specs.Prelude.{ℕ, zero, suc, pred, ◌+◌, ◌≡◌, List, [], ◌∷◌, ◌++◌, map, Bool, true, cond, length, drop, eqb, Result, Ok, Err}
use Rattle.fields.specs.Cut.{lines}
use Rattle.fields.specs.Number.{Read, good, bad}
use Rattle.fields.specs.declared.ReadError.{ReadError}
use Rattle.fields.specs.declared.ReadError.TheVariants.{Malformed, Full, Refused}

-- why a reading ends: the text is read; "11: text line malformed"; "12: one good row more than the row slots lent";
-- "1: .. lent columns differ in length" and what else a reader refuses before it reads
pub data End : Type 0 where
  whole : End
  malformed : End
  full : End
  refused : End

-- the rows ahead of the end, and the end
pub record Found (A : Type 0) : Type 0 where
  pub rows : List A
  pub end : End

-- "Empty lines and lines starting with `#` are passed by."
abbrev pub passed : List ℕ → Bool
passed [] = true
passed (b ∷ l) = eqb b 35

module _ {A : Type 0} where
  abbrev pub ends : End → Found A
  ends e = record { rows = []; end = e }

  abbrev pub ahead : A → Found A → Found A
  ahead x f = record { rows = x ∷ f.rows; end = f.end }

  -- a line that is not passed by, where `room` slots are left, and what is found behind it: it is judged before the slots are
  abbrev pub row_step : ℕ → Read A → Found A → Found A
  row_step room bad f = ends malformed
  row_step zero (good x) f = ends full
  row_step (suc room) (good x) f = ahead x f

  -- the lines from the one that starts at the place `at` of the text; `row` is what a line at a place gives
  unfoldable pub read_lines : (ℕ → List ℕ → Read A) → ℕ → ℕ → List (List ℕ) → Found A
  read_lines row room at [] = ends whole
  read_lines row room at (l ∷ ls) =
      cond (passed l) (read_lines row room (at + suc (length l)) ls)
      (row_step room (row at l) (read_lines row (pred room) (at + suc (length l)) ls))

  -- the whole text, for `room` lent slots
  abbrev pub read_text : (ℕ → List ℕ → Read A) → ℕ → List ℕ → Found A
  read_text row room text = read_lines row room 0 (lines text)

  -- what is found where a test is passed first: else 1, and no row
  abbrev pub tested : Bool → Found A → Found A
  tested t f = cond t f (ends refused)

  -- a lent column afterwards: "rows ahead of it stay written", and behind them what stood there
  abbrev pub written : (A → ℕ) → Found A → List ℕ → List ℕ
  written f found old = map f found.rows ++ drop (length found.rows) old

-- the answer to a reading that ended so, with so many rows ahead
abbrev pub answer : End → ℕ → Result ℕ ReadError
answer whole n = Ok n
answer malformed n = Err (Malformed n)
answer full n = Err (Full n)
answer refused n = Err Refused

-- what a reader answers and leaves in its three lent columns a, b, c, which take f, g and h of each row
pub record Fills {A : Type 0} (f g h : A → ℕ) (found : Found A) (a b c : List ℕ) (r : Result ℕ ReadError) (a' b' c' : List ℕ) : Type 0 where
  pub answered : r ≡ answer found.end (length found.rows)
  pub first : a' ≡ written f found a
  pub second : b' ≡ written g found b
  pub third : c' ≡ written h found c

-- the refusal number of an error
abbrev pub error_number : ReadError → ℕ
error_number (Malformed n) = 11
error_number (Full n) = 12
error_number Refused = 1

-- the refusal number of an answer, 0 for none
abbrev pub refusal_of : Result ℕ ReadError → ℕ
refusal_of (Ok n) = 0
refusal_of (Err e) = error_number e

-- the rows ahead of the end
abbrev pub error_rows : ReadError → ℕ
error_rows (Malformed n) = n
error_rows (Full n) = n
error_rows Refused = 0

abbrev pub rows_of : Result ℕ ReadError → ℕ
rows_of (Ok n) = n
rows_of (Err e) = error_rows e
