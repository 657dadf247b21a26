-- The bases of a listing, one behind the other: their lines, and whether the listing goes on.
use Rattle.std.specs.Prelude.{List, ℕ, Option, Some, None, Result, Ok, Err}
use Rattle.basics.specs.Build.{build}
use Rattle.rules.specs.declared.Answer.{Answer}
use Rattle.rules.specs.declared.Answer.TheVariants as answer
use Rattle.rules.specs.Job.{replies}
use Rattle.heads.specs.View.{Cols}
use Rattle.queue.specs.Ring.{Cells}
use Rattle.admit.specs.Gates.{lengths_of}
use Rattle.lines.specs.declared.Cut.{Cut}
use Rattle.runs.specs.declared.Run.{Run}
use Rattle.runs.specs.View.{run_of}
use Rattle.inputs.specs.Texts.{room}
use Rattle.inputs.specs.Read.{base_in}
use Rattle.listing.specs.Listing.{run_lines}
use Rattle.listing.specs.declared.Listing.{Listing}

-- the lines of the bases from number i on, of n in all, from a run on
abbrev pub lines_from : List (List ℕ) → List ℕ → Cols → Cols → ℕ → ℕ → Run → Cells → List (List ℕ)
lines_from ns lengths b s n i r c = run_lines ns i (build (base_in b) n i) (replies (lengths_of lengths) room (run_of s c r) (build (base_in b) n i))

-- the listing goes on behind a base's lines where all of them stand and the run has not ended
abbrev pub step_of : Answer → Result ℕ Cut → Option ℕ
step_of (answer.Found n o) (Ok p) = Some p
step_of (answer.Refused x) (Ok p) = Some p
step_of (answer.Ended e) (Ok p) = None
step_of a (Err c) = None

-- what became of the lines, in numbers
abbrev pub told_of : Result ℕ Cut → Listing
told_of (Ok p) = record { number = 0; length = p }
told_of (Err c) = record { number = 14; length = c.0 }
