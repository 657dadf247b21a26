-- The call: a base is given to a run, and its lines are written to a lent buffer, for all inputs.
use Rattle.std.specs.Prelude.{List, ℕ}
use Rattle.rules.specs.declared.Base.{Base}
use Rattle.heads.specs.View.{Cols}
use Rattle.lines.specs.Laid.{Lays}
use Rattle.runs.specs.declared.Run.{Run}
use Rattle.pulls.specs.Pulls.{Lent}
use Rattle.step.specs.Give.{Gives}
use Rattle.runs.specs.Comes.{given_of}
use Rattle.replies.specs.declared.Listed.{Listed}
use Rattle.replies.specs.Lines.{lines_of}

-- the run r is given the base b, l is lent before and l' after it; b's lines, by its chromosome's name and its row, are laid into `out` at a place
pub record Lists (s : Cols) (lengths : List ℕ) (r : Run) (b : Base) (row : ℕ) (name : List ℕ) (l : Lent) (out : List ℕ) (at : ℕ) (x : Listed) (l' : Lent) (out' : List ℕ) : Type 0 where
  pub gives : Gives s lengths r b l (record { run = x.run; answer = x.answer }) l'
  pub lays : Lays out at (lines_of s r.from name row b (given_of s lengths r b l).reply) x.lines out'
