-- What the parts of a call for many bases promise one another.
use Rattle.std.specs.Prelude.{◌≡◌, true, List, ℕ, ◌<◌, length}
use Rattle.heads.specs.View.{Cols}
use Rattle.pulls.specs.Pulls.{Lent}
use Rattle.runs.specs.declared.Run.{Run}
use Rattle.runs.specs.View.{stage_of}
use Rattle.runs.specs.Comes.{right_of}
use Rattle.step.specs.Settle.{Going}
use Rattle.many.specs.Many.{Even}

-- what the loop asks: a run that goes on and is not the cause of 1, and bases, at least one, in columns of one length
pub record Passable (s : Cols) (lengths : List ℕ) (t : Cols) (v : Run) (l : Lent) (ns : List ℕ) : Type 0 where
  pub right : right_of s lengths v l ≡ true
  pub going : Going (stage_of v)
  pub even : Even t ns
  pub some : 0 < length t.chrom
