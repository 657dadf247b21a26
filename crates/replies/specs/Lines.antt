-- The lines of one base, by what it comes to by the rules.
use Rattle.std.specs.Prelude.{List, [], ◌∷◌, map, ℕ, ◌+◌, length, get_or}
use Rattle.rules.specs.declared.Base.{Base}
use Rattle.rules.specs.Numbers.{refusal_number, end_number, end_values}
use Rattle.rules.specs.Rows.{Record}
use Rattle.rules.specs.Call.{Reply, found, refused, ended}
use Rattle.heads.specs.View.{Cols}
use Rattle.lines.specs.Lines.{line_b, line_r, line_x, line_e}

-- "R: stream, row, start, stop.": start and stop stand in the lent columns, where the stream's rows begin `from` and row on; 0 past their end
abbrev pub row_line : List ℕ → List ℕ → List ℕ → ℕ → ℕ → List ℕ
row_line start stop from stream row = line_r stream row (get_or start (get_or from stream 0 + row) 0) (get_or stop (get_or from stream 0 + row) 0)

abbrev pub record_line : Cols → List ℕ → Record → List ℕ
record_line s from a = row_line s.start s.stop from a.stream.0 a.row

-- the base's line and its records'; "X: refusal, base row from 0; for 7 and 8 stream and row follow."
abbrev pub lines_of : Cols → List ℕ → List ℕ → ℕ → Base → Reply → List (List ℕ)
lines_of s from name row b (found hits o) = line_b name b.start b.stop (length hits) ∷ map (record_line s from) hits
lines_of s from name row b (refused x) = line_x (refusal_number x) row ∷ []
lines_of s from name row b (ended e) = line_e (end_number e) row (end_values e) ∷ []
