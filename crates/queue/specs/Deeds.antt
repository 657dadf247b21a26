-- What each operation says: equations on the list of the records that wait, and nothing of where these stand.
use Rattle.std.specs.Prelude.{◌≡◌, Bool, true, not, List, [], ◌∷◌, ◌++◌, map, ℕ, ◌≤◌, ◌<◌, length, drop}
use Rattle.std.specs.Prelude.{None, Some}
use Rattle.std.proofs.Math.Option.{Option, none, some}
use Rattle.basics.specs.Lists.{filter, front, back, first_one, All}
use Rattle.rules.specs.declared.Base.{Base}
use Rattle.rules.specs.Rows.{Record}
use Rattle.rules.specs.Overlap.{lasts, live}
use Rattle.queue.specs.declared.Ring.{Ring}
use Rattle.queue.specs.declared.Slot.{Slot}
use Rattle.queue.specs.Answered.{Front, Pushed}
use Rattle.queue.specs.Ring.{Cells, Fair, Sound, record_of, oldest, waiting}

-- ---- clearing

-- "A queued record is live for b if it is on b's chromosome and ends after b.start. Others never use up room, wherever they stand
-- in the queue.": q' and c' are what is left of q and c, all on b's chromosome
pub record Clears (q : Ring) (c : Cells) (b : Base) (q' : Ring) (c' : Cells) : Type 0 where
  pub fair : Fair q' c'
  pub room : q'.room ≡ q.room
  pub chrom : q'.chrom ≡ b.chrom
  pub left : waiting q' c' ≡ filter (live b) (waiting q c)

-- ---- queueing one more

-- "it is queued": at the end, on the ring's chromosome, where fewer than the room's number wait
pub record Queues (q : Ring) (c : Cells) (x : Slot) (q' : Ring) (c' : Cells) : Type 0 where
  pub fair : Fair q' c'
  pub room : q'.room ≡ q.room
  pub chrom : q'.chrom ≡ q.chrom
  pub fewer : length (waiting q c) < q.room
  pub more : waiting q' c' ≡ waiting q c ++ (record_of q.chrom x ∷ [])

-- "9 if Q live records are queued already": the slots are as they were
pub record Refuses (q : Ring) (c c' : Cells) : Type 0 where
  pub full : length (waiting q c) ≡ q.room
  pub same : c' ≡ c

-- one of the two, by the answer
pub record Pushes (q : Ring) (c : Cells) (x : Slot) (p : Pushed) (c' : Cells) : Type 0 where
  pub done : (q' : Ring) → p ≡ Some q' → Queues q c x q' c'
  pub full : p ≡ None → Refuses q c c'

-- what waits after a push; nothing is said of a ring that was full
abbrev pub held : Pushed → Cells → Option (List Record)
held (Some q) c = some (waiting q c)
held None c = none

-- ---- the records of a base

-- "On success the first n answer rows hold stream and row number; the others stay.": a part of each record, ahead of what stood there
abbrev pub written : {A : Type 0} → (Record → A) → List Record → List A → List A
written part hits old = map part hits ++ drop (length hits) old

-- "stream and row number"
abbrev pub answer_row : Record → List ℕ
answer_row r = r.stream.0 ∷ r.row ∷ []

-- what a scan asks: answer rows for all that can wait, and that the queue was cleared for the base
pub record Scannable (q : Ring) (c : Cells) (b : Base) (l : List (List ℕ)) : Type 0 where
  pub fair : Fair q c
  pub cleared : All (λ r. live b r ≡ true) (waiting q c)
  pub answers : q.room ≤ length l

-- the count of the hits, and the answer rows after it
pub record Scans (hits : List Record) (l : List (List ℕ)) (n : ℕ) (l' : List (List ℕ)) : Type 0 where
  pub count : n ≡ length hits
  pub answers : l' ≡ written answer_row hits l

-- ---- the first that waits

-- where a record starts
abbrev pub front_of : Option Record → Front
front_of none = None
front_of (some r) = Some r.it.start

-- of the first that waits
pub record Fronts (q : Ring) (c : Cells) (r : Front) : Type 0 where
  pub first : r ≡ front_of (first_one (waiting q c))

-- ---- inside of clearing, on the ring's own chromosome

-- a record that stays
abbrev pub ends : ℕ → Record → Bool
ends from r = lasts from r.it.stop

-- past what is dead at the front: q' over the same slots
pub record Skips (q : Ring) (c : Cells) (from : ℕ) (q' : Ring) : Type 0 where
  pub sound : Sound q'
  pub room : q'.room ≡ q.room
  pub chrom : q'.chrom ≡ q.chrom
  pub left : waiting q' c ≡ back (λ r. not (ends from r)) (waiting q c)

-- how many live ones stand at the front
pub record Leads (q : Ring) (c : Cells) (from n : ℕ) : Type 0 where
  pub few : n ≤ q.len
  pub ahead : oldest n q c ≡ front (ends from) (waiting q c)

-- the live ones, moved up
pub record Packs (q : Ring) (c : Cells) (from : ℕ) (q' : Ring) (c' : Cells) : Type 0 where
  pub fair : Fair q' c'
  pub room : q'.room ≡ q.room
  pub chrom : q'.chrom ≡ q.chrom
  pub left : waiting q' c' ≡ filter (ends from) (waiting q c)

-- what packing asks: the first n are live
pub record Packable (q : Ring) (c : Cells) (from n : ℕ) : Type 0 where
  pub fair : Fair q c
  pub few : n ≤ q.len
  pub ahead : All (λ r. ends from r ≡ true) (oldest n q c)
