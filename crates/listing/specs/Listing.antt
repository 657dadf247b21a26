-- The listing: its lines.
use Rattle.std.proofs.Math.Option.{Option, none, some}
use Rattle.std.specs.Prelude.{List, [], ◌∷◌, ◌++◌, map, ℕ, suc, length, get_or}
use Rattle.rules.specs.declared.Base.{Base}
use Rattle.rules.specs.Numbers.{refusal_number, end_number, end_values}
use Rattle.rules.specs.Rows.{Record}
use Rattle.rules.specs.Call.{Reply, found, refused, ended}
use Rattle.rules.specs.Job.{answers}
use Rattle.lines.specs.Lines.{line_b, line_r, line_x, line_e, line_f}
use Rattle.inputs.specs.Texts.{Texts, Fault, fault_of, names_of, bases_of, job_of}

-- "A fault before the run gives one line: X, number, text [..], rows ahead"
abbrev pub fault_line : Fault → List ℕ
fault_line f = line_f f.number f.text f.ahead

-- "R: stream, row, start, stop."
abbrev pub record_line : Record → List ℕ
record_line r = line_r r.stream.0 r.row r.it.start r.it.stop

-- the lines of base number i, ahead of those of the later ones; "after an ended run the listing stops"
abbrev pub reply_lines : List (List ℕ) → ℕ → Base → Reply → List (List ℕ) → List (List ℕ)
reply_lines names i b (found hits o) more = line_b (get_or names b.chrom.0 []) b.start b.stop (length hits) ∷ map record_line hits ++ more
reply_lines names i b (refused x) more = line_x (refusal_number x) i ∷ more
reply_lines names i b (ended e) more = line_e (end_number e) i (end_values e) ∷ []

-- "No base is left out"
abbrev pub run_lines : List (List ℕ) → ℕ → List Base → List Reply → List (List ℕ)
run_lines names i [] ts = []
run_lines names i (b ∷ bs) [] = []
run_lines names i (b ∷ bs) (t ∷ ts) = reply_lines names i b t (run_lines names (suc i) bs ts)

abbrev pub unless_fault : Option Fault → List (List ℕ) → List (List ℕ)
unless_fault none more = more
unless_fault (some f) more = fault_line f ∷ []

-- the lines of the whole listing
unfoldable pub listing : Texts → List (List ℕ)
listing t = unless_fault (fault_of t) (run_lines (names_of t) 0 (bases_of t) (answers (job_of t) (bases_of t)))
