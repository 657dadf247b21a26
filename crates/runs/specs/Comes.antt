-- What a base comes to by the rules, at what the run and all that is lent stand for.
use Rattle.std.specs.Prelude.{Bool, List, ℕ, length}
use Rattle.rules.specs.declared.Base.{Base}
use Rattle.rules.specs.Call.{give}
use Rattle.rules.specs.Call as rules
use Rattle.heads.specs.View.{Cols}
use Rattle.admit.specs.declared.Lens.{Lens}
use Rattle.admit.specs.Gates.{lengths_of}
use Rattle.admit.specs.Right.{right}
use Rattle.pulls.specs.Pulls.{Lent}
use Rattle.runs.specs.declared.Run.{Run}
use Rattle.runs.specs.View.{ring_of, run_of}

-- the lengths of all that is lent
abbrev pub lens_of : Cols → List ℕ → Lent → Lens
lens_of s lengths l = record { chrom = length s.chrom; start = length s.start; stop = length s.stop; lengths = length lengths; queue = length l.cells; answers = length l.answers }

-- 1 is not due: "a size above is broken, lent columns differ in length, or a run or its queue names no lent stream or row"
abbrev pub right_of : Cols → List ℕ → Run → Lent → Bool
right_of s lengths r l = right (lens_of s lengths l) r.settings.streams r.settings.chroms (ring_of r) r.ended r.row r.next r.from r.to l.cells

-- what the base b comes to by the rules: at what the run and all that is lent stand for
abbrev pub given_of : Cols → List ℕ → Run → Base → Lent → rules.Given
given_of s lengths r b l = give (lengths_of lengths) r.settings.room (record { right = right_of s lengths r l; rows = length l.answers }) (run_of s l.cells r) b
