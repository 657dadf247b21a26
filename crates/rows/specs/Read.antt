-- What the functions behind the reader give: a name and its number, a line and the place of the next.
use Rattle.std.specs.Prelude.{ℕ, ◌≤◌, ◌<◌, ◌≡◌, List, length, get_or, Option, Some, None}
use Rattle.fields.specs.Number.{Read, good, bad}
use Rattle.fields.specs.Names.{part, number_in}
use Rattle.fields.specs.Scan.{front, in_field, line_at, field_at, next_line, FieldTo}
use Rattle.rows.specs.Row.{row_of}
use Rattle.rows.specs.declared.Row.{Row}
use Rattle.rows.specs.declared.Name.{Name}
use Rattle.rows.specs.declared.Line.{Line}

-- a name that was met: it lies in the text, holds no tab and no LF, and has this number among the names ns
pub record Knows (text : List ℕ) (ns : List (List ℕ)) (s : Name) : Type 0 where
  pub low : s.from ≤ s.to
  pub high : s.to ≤ length text
  pub plain : front in_field (part s.from s.to text) ≡ part s.from s.to text
  pub number : s.chrom ≡ number_in ns (part s.from s.to text)

-- the field at a place as a name: where it starts and ends, and its number
pub record NameAt (text : List ℕ) (number : List ℕ → ℕ) (at : ℕ) (r : Name) : Type 0 where
  pub from : r.from ≡ at
  pub field : FieldTo text at r.to
  pub number_of : r.chrom ≡ number (field_at text at)

-- what a line that was read gives
abbrev pub gives : Option Line → Read Row
gives (Some l) = good l.row
gives None = bad

-- of a line that is a row: where the next one starts, and its name
pub record Goes (text : List ℕ) (number : List ℕ → ℕ) (at : ℕ) (l : Line) : Type 0 where
  pub next : l.next ≡ next_line text at
  pub name : NameAt text number at l.name

abbrev pub IfGoes : List ℕ → (List ℕ → ℕ) → ℕ → Option Line → Type 0
IfGoes text number at (Some l) = Goes text number at l
IfGoes text number at None = Unit {0}

pub record ReadsRow (text : List ℕ) (number : List ℕ → ℕ) (at : ℕ) (r : Option Line) : Type 0 where
  pub line : row_of number at (line_at text at) ≡ gives r
  pub goes : IfGoes text number at r

-- the line goes on behind this name, which ends with a tab
pub record Named (text : List ℕ) (n : Name) : Type 0 where
  pub field : FieldTo text n.from n.to
  pub some : n.from < n.to
  pub more : n.to < length text
  pub tab : get_or text n.to 0 ≡ 9
