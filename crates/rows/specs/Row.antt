-- What a row's line gives, and what a text of rows does.
use Rattle.std.specs.Prelude.{ℕ, List, [], ◌∷◌, Bool, ◌&&◌, length, eqb}
use Rattle.fields.specs.Cut.{fields}
use Rattle.fields.specs.Number.{Read, good, bad, number_of}
use Rattle.fields.specs.Names.{within, names, number_in}
use Rattle.fields.specs.Table.{Found, read_text, tested}
use Rattle.rows.specs.declared.Row.{Row}

-- "or a bad number is 11"
abbrev pub row_with : ℕ → Read ℕ → Read ℕ → Read Row
row_with chrom (good start) (good stop) = good (record { chrom = chrom; start = start; stop = stop })
row_with chrom (good start) bad = bad
row_with chrom bad stop = bad

-- "an empty name"; `number` gives the number of a name
abbrev pub row_named : (List ℕ → ℕ) → List ℕ → Read ℕ → Read ℕ → Read Row
row_named number [] start stop = bad
row_named number (b ∷ name) start stop = row_with (number (b ∷ name)) start stop

-- "name, start, stop, further ones ignored"; "Fewer than three fields .. is 11"
abbrev pub row_from : (List ℕ → ℕ) → List (List ℕ) → Read Row
row_from number [] = bad
row_from number (name ∷ []) = bad
row_from number (name ∷ start ∷ []) = bad
row_from number (name ∷ start ∷ stop ∷ further) = row_named number name (number_of start) (number_of stop)

unfoldable pub row_of : (List ℕ → ℕ) → ℕ → List ℕ → Read Row
row_of number at line = row_from number (fields line)

-- "1: .. lent columns differ in length", or the list's columns do, or name what is not in its text
unfoldable pub ready : ℕ → ℕ → ℕ → List ℕ → List ℕ → List ℕ → Bool
ready a b c list from to = eqb b a && eqb c a && within (length list) from to

-- "A name not on the list is kept as the number after the last": what a text gives that is read with the names of a list, to
-- columns of the lengths a, b and c
abbrev pub rows_found : List ℕ → List ℕ → List ℕ → List ℕ → ℕ → ℕ → ℕ → Found Row
rows_found text list from to a b c = tested (ready a b c list from to) (read_text (row_of (number_in (names list from to))) a text)

-- what the columns take of a row
abbrev pub chrom_of : Row → ℕ
chrom_of r = r.chrom

abbrev pub start_of : Row → ℕ
start_of r = r.start

abbrev pub stop_of : Row → ℕ
stop_of r = r.stop
