-- What a base leaves: the run, and every column that was lent.
use Rattle.std.specs.Prelude.{◌≡◌}
use Rattle.rules.specs.declared.Base.{Base}
use Rattle.rules.specs.declared.End.{End}
use Rattle.rules.specs.declared.Stage.{Stage}
use Rattle.rules.specs.declared.Stage.TheVariants.{Fresh, After, Over}
use Rattle.rules.specs.Call.{Reply, found, refused, ended, answer_of, column}
use Rattle.rules.specs.Call as rules
use Rattle.heads.specs.View.{Cols, Heads}
use Rattle.queue.specs.declared.Ring.{Ring}
use Rattle.queue.specs.Ring.{Fair}
use Rattle.queue.specs.Deeds.{answer_row}
use Rattle.pulls.specs.Pulls.{Found, Kept, Lent}
use Rattle.runs.specs.declared.Run.{Run}
use Rattle.runs.specs.declared.Given.{Given}
use Rattle.runs.specs.View.{ring_of, stage_of, run_with, run_of, over_of}

-- ---- the run

-- the run after an end; "an ended run first (its old answer again)": that is given back as it came
abbrev pub ended_by : Stage → Run → End → Run
ended_by Fresh r e = over_of r e
ended_by (After p) r e = over_of r e
ended_by (Over x) r e = r

-- the run after a reply, but for where its records wait: `h` are the heads after the pull
abbrev pub run_by : Reply → Base → Heads → Run → Ring → Run
run_by (found l o) b h r q = run_with r h q (After b)
run_by (refused x) b h r q = r
run_by (ended e) b h r q = ended_by (stage_of r) r e

-- the run goes on
abbrev pub Going : Stage → Type 0
Going Fresh = Unit {0}
Going (After p) = Unit {0}
Going (Over e) = ⊥

-- the answer, the run and all that was lent, l before and l' after it, where t is what the base comes to by the rules, `r` the run
-- and `h` the heads after the pull
pub record Settles (s : Cols) (b : Base) (h : Heads) (r : Run) (t : rules.Given) (l : Lent) (g : Given) (l' : Lent) : Type 0 where
  pub answer : g.answer ≡ answer_of t.reply
  pub run : run_of s l'.cells g.run ≡ t.run
  pub exact : g.run ≡ run_by t.reply b h r (ring_of g.run)
  pub room : g.run.settings.room ≡ r.settings.room
  -- where the base was answered the queue lies within its memory
  pub fair : Found t.reply → Fair (ring_of g.run) l'.cells
  pub kept : Kept l.cells l'.cells
  pub answers : l'.answers ≡ column answer_row t.reply l.answers
