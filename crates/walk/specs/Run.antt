-- A run inside a listing: what its calls keep of it, and what the functions here ask and give.
use Rattle.std.specs.Prelude.{◌≡◌, true, List, [], ℕ, ◌+◌, ◌≤◌, length, get_or, take}
use Rattle.std.proofs.Math.Option.{none}
use Rattle.basics.specs.Lists.{All}
use Rattle.rules.specs.Rows.{Record}
use Rattle.rules.specs.Call.{fresh}
use Rattle.fields.specs.Names.{within}
use Rattle.heads.specs.View.{Cols}
use Rattle.heads.specs.Move.{Shaped}
use Rattle.queue.specs.Ring.{Cells}
use Rattle.runs.specs.declared.Run.{Run}
use Rattle.runs.specs.View.{heads_of, stage_of, run_of}
use Rattle.step.specs.Settle.{Going}
use Rattle.runs.specs.Start.{Plan, plan, row_in}
use Rattle.demands.specs.Calls.{Blameless}
use Rattle.inputs.specs.Texts.{Texts, room, fault_of, job_of}
use Rattle.inputs.specs.Read.{places, Columns, Rooms}
use Rattle.inputs.specs.declared.Read.{Read}

-- a record is the row of the columns that its stream and row name
abbrev pub Own : Cols → List ℕ → Record → Type 0
Own s from a = a.it ≡ row_in s (get_or from a.stream.0 0 + a.row)

-- the run r, with its queue's memory c, comes back: it is not the cause of 1, and all that is left and all that waits are the columns' own rows
pub record Comes (s : Cols) (lengths : List ℕ) (r : Run) (c : Cells) : Type 0 where
  pub blameless : Blameless s lengths r c
  pub whole : Going (stage_of r) → Shaped (heads_of r)
  pub room : r.settings.room ≡ room
  pub left : (k : ℕ) → All (Own s r.from) (get_or (run_of s c r).left k [])
  pub queue : All (Own s r.from) (run_of s c r).queue

-- n bases stand in the columns b, and the names in the list's text
pub record Bases (list from to : List ℕ) (b : Cols) (n : ℕ) : Type 0 where
  pub inside : within (length list) from to ≡ true
  pub chrom : n ≤ length b.chrom
  pub start : n ≤ length b.start
  pub stop : n ≤ length b.stop

-- texts that were read, with nothing wrong before the run
pub record Fine (t : Texts) (r : Read) (from to len : List ℕ) (b s : Cols) : Type 0 where
  pub fine : fault_of t ≡ none
  pub eight : length r.to ≡ 8
  pub rooms : Rooms from to len b s
  pub columns : Columns t r from to len b s

-- the memory of a queue has a slot for each of the room
abbrev pub Slots : Cells → Type 0
Slots c = length c ≡ room

-- what the run is begun with, from what was read
abbrev pub plan_of : Read → List ℕ → List ℕ → List ℕ → Cols → Plan
plan_of r list from to s = plan (record { streams = r.streams; chroms = r.names; room = room }) places r.to list (take r.names from) (take r.names to) s

-- the run that begins is the job's own, with any memory for its queue
pub record Begins (t : Texts) (n : ℕ) (len : List ℕ) (s : Cols) (r : Run) : Type 0 where
  pub comes : (c : Cells) → Slots c → Comes s (take n len) r c
  pub fresh_run : (c : Cells) → run_of s c r ≡ fresh (job_of t).streams
