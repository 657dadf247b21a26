-- How much to lend: at most so many fragments and pieces for n records.
use Rattle.std.specs.Prelude.{ℕ, ◌+◌, max}
use Rattle.fragment_rules.specs.declared.Choice.{Choice}
use Rattle.fragment_rules.specs.declared.Choice.TheVariants.{None, Whole, WholeWide, Piece, Inverse}

-- fragments, by the choice for A: one; one a record, and one of none; one a record; one a gap, of which there may be one ahead of each record and one behind the last
abbrev pub most_fragments : Choice → ℕ → ℕ
most_fragments None n = 1
most_fragments Whole n = max 1 n
most_fragments WholeWide n = 1
most_fragments Piece n = n
most_fragments Inverse n = n + 1

-- pieces, by the choice for B: they are written once, however many fragments have them
abbrev pub most_pieces : Choice → ℕ → ℕ
most_pieces None n = 0
most_pieces Whole n = n
most_pieces WholeWide n = n
most_pieces Piece n = n
most_pieces Inverse n = n + n
