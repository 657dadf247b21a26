-- What a listing's texts hold: in memory, and as the functions here are given it.
use Rattle.std.specs.Prelude.{◌≡◌, List, ℕ, get_or, take, replicate, Result}
use Rattle.heads.specs.View.{Cols, cols, cols_of}
use Rattle.inputs.specs.Texts.{Texts}
use Rattle.inputs.specs.Read.{Reads}
use Rattle.inputs.specs.declared.Misread.{Misread}
use Rattle.inputs.specs.declared.Read.{Read}
use Rattle.walk.specs.Run.{Fine}
use Rattle.walk.specs.declared.Memory.{Memory}
use Rattle.walk.specs.declared.Tables.{Tables}

-- nothing is read: every column is zeros
abbrev pub IsEmpty : Memory → Type 0
IsEmpty m = (m.from ≡ replicate 1024 0) × (m.to ≡ replicate 1024 0) × (m.lengths ≡ replicate 1024 0)
    × (m.base_chrom ≡ replicate 1024 0) × (m.base_start ≡ replicate 1024 0) × (m.base_stop ≡ replicate 1024 0)
    × (m.chrom ≡ replicate 8192 0) × (m.start ≡ replicate 8192 0) × (m.stop ≡ replicate 8192 0)

-- the bases' columns, and the streams'
abbrev pub bases_in : Memory → Cols
bases_in m = cols m.base_chrom m.base_start m.base_stop

abbrev pub rows_in : Memory → Cols
rows_in m = cols m.chrom m.start m.stop

-- texts are read to the memory; with nothing wrong
abbrev pub ReadsTo : Texts → Result Read Misread → Memory → Type 0
ReadsTo t r m = Reads t r m.from m.to m.lengths (bases_in m) (rows_in m)

abbrev pub FineIn : Texts → Read → Memory → Type 0
FineIn t r m = Fine t r m.from m.to m.lengths (bases_in m) (rows_in m)

-- the names stand in the first text, as many as were read, and so the lengths; the bases and the rows are the memory's
pub record Stands (bytes ends : List ℕ) (r : Read) (m : Memory) (t : Tables) : Type 0 where
  pub text : t.names.text.now ≡ take (get_or ends 0 0) bytes
  pub from : t.names.from.now ≡ take r.names m.from
  pub to : t.names.to.now ≡ take r.names m.to
  pub lengths : t.lengths.now ≡ take r.names m.lengths
  pub bases : cols_of t.bases ≡ bases_in m
  pub rows : cols_of t.rows ≡ rows_in m
