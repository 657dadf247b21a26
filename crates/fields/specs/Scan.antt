-- What is found from a place of a text on: the line and the field that start there, the number in that field.
use Rattle.std.specs.Prelude.{ℕ, suc, ◌+◌, ◌-◌, ◌^◌, ◌≤◌, ◌<◌, min, ◌≡◌, List, [], ◌∷◌, Bool, true, false, cond, not, ◌&&◌, length, get_or, drop, eqb, Option, Some, None}
use Rattle.fields.specs.Number.{Read, good, bad, is_digit, digits, value, number_of}
use Rattle.fields.specs.Table.{passed}
use Rattle.fields.specs.declared.Number.{Number}

-- the longest start of a list whose bytes all pass
unfoldable pub front : (ℕ → Bool) → List ℕ → List ℕ
front p [] = []
front p (b ∷ l) = cond (p b) (b ∷ front p l) []

-- no LF; neither a tab nor LF
abbrev pub in_line : ℕ → Bool
in_line b = not (eqb b 10)

abbrev pub in_field : ℕ → Bool
in_field b = not (eqb b 9) && not (eqb b 10)

-- the rest of the line from a place on, and the rest of the field
abbrev pub line_at : List ℕ → ℕ → List ℕ
line_at text at = front in_line (drop at text)

abbrev pub field_at : List ℕ → ℕ → List ℕ
field_at text at = front in_field (drop at text)

-- the field that starts at `at` ends at a
pub record FieldTo (text : List ℕ) (at a : ℕ) : Type 0 where
  pub ends : a ≡ at + length (field_at text at)
  pub inside : a ≤ length text

-- where the next line starts: behind the LF, or at the end
abbrev pub next_line : List ℕ → ℕ → ℕ
next_line text at = min (at + suc (length (line_at text at))) (length text)

-- r is past the line that starts at `at` where that line is passed by, and `at` itself where it is not
pub record Past (text : List ℕ) (at r : ℕ) : Type 0 where
  pub gone : at < r → passed (line_at text at) ≡ true
  pub next : at < r → r ≡ next_line text at
  pub stays : r ≤ at → passed (line_at text at) ≡ false

-- the number of the field that starts at a place, with the place where the field ends
abbrev pub number_read : ℕ → Read ℕ → Option Number
number_read stop (good v) = Some (record { value = v; end = stop })
number_read stop bad = None

unfoldable pub number_at : List ℕ → ℕ → Option Number
number_at text at = number_read (at + length (field_at text at)) (number_of (field_at text at))

-- a walk from `from` stands at i: the start that it passes over ends at the same place
pub record Walk (p : ℕ → Bool) (text : List ℕ) (from i : ℕ) : Type 0 where
  pub inside : i ≤ length text
  pub same_end : i + length (front p (drop i text)) ≡ from + length (front p (drop from text))

-- a walk over the digits of the field at `from` stands at i, and those passed are the number v: what is left of the field
-- decides whether it is a number, and which
pub record Counting (text : List ℕ) (from i v : ℕ) : Type 0 where
  pub walk : Walk in_field text from i
  pub low : from ≤ i
  pub small : v < 10 ^ (i - from)
  pub same_digits : digits (field_at text from) ≡ digits (field_at text i)
  pub same_value : value 0 (field_at text from) ≡ value v (field_at text i)

-- a walk over digits that stops at the first other byte, or at `to`
pub record Counted (text : List ℕ) (from to : ℕ) (d : Number) : Type 0 where
  pub counting : Counting text from d.end d.value
  pub high : d.end ≤ to
  pub stopped : d.end < to → is_digit (get_or text d.end 0) ≡ false

-- whether a field that goes as far as `at` ends there, or goes on with the byte at `at`
pub record FieldOver (text : List ℕ) (at : ℕ) (r : Bool) : Type 0 where
  pub over : r ≡ true → field_at text at ≡ []
  pub inside : r ≡ false → at < length text
  pub more : r ≡ false → in_field (get_or text at 0) ≡ true
