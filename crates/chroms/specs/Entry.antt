-- What a chromosome line gives, and what a chromosome list does.
use Rattle.std.specs.Prelude.{ℕ, ◌+◌, ◌≡◌, List, [], ◌∷◌, ◌&&◌, length, eqb, Option, Some, None}
use Rattle.fields.specs.Cut.{fields}
use Rattle.fields.specs.Number.{Read, good, bad, number_of}
use Rattle.fields.specs.Table.{Found, read_text, tested}
use Rattle.fields.specs.Scan.{line_at, next_line}
use Rattle.chroms.specs.declared.Entry.{Entry}
use Rattle.chroms.specs.declared.Line.{Line}

-- a length that is not known: no stop lies beyond it
abbrev pub unknown : ℕ
unknown = 18446744073709551615

-- the name that starts at a place of the text, with its length
abbrev pub entry : ℕ → List ℕ → ℕ → Entry
entry at name len = record { from = at; to = at + length name; len = len }

abbrev pub sized : ℕ → List ℕ → Read ℕ → Read Entry
sized at name (good len) = good (entry at name len)
sized at name bad = bad

-- "A chromosome line is a name and, where known, a length; a bad length or a third field is 11"
abbrev pub entry_from : ℕ → List (List ℕ) → Read Entry
entry_from at [] = bad
entry_from at (name ∷ []) = good (entry at name unknown)
entry_from at (name ∷ len ∷ []) = sized at name (number_of len)
entry_from at (name ∷ len ∷ third ∷ more) = bad

unfoldable pub entry_of : ℕ → List ℕ → Read Entry
entry_of at line = entry_from at (fields line)

-- what a list gives that is read to columns of the three lengths: 1 where they differ
abbrev pub list_found : List ℕ → ℕ → ℕ → ℕ → Found Entry
list_found text a b c = tested (eqb b a && eqb c a) (read_text entry_of a text)

-- what the columns take of an entry
abbrev pub from_of : Entry → ℕ
from_of e = e.from

abbrev pub to_of : Entry → ℕ
to_of e = e.to

abbrev pub len_of : Entry → ℕ
len_of e = e.len

-- what a line that was read gives, and where the next one starts
abbrev pub gives : Option Line → Read Entry
gives (Some l) = good l.entry
gives None = bad

abbrev pub leads : Option Line → ℕ → ℕ
leads (Some l) other = l.next
leads None other = other

pub record ReadsLine (text : List ℕ) (at : ℕ) (r : Option Line) : Type 0 where
  pub line : entry_of at (line_at text at) ≡ gives r
  pub next : leads r (next_line text at) ≡ next_line text at
