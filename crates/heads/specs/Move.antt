-- What a turn of a pull comes to, from the head that is picked; and the heads after it.
use Rattle.std.specs.Prelude.{◌≡◌, ⊤, Result, Ok, Err, Some, None, cond, List, [], ◌∷◌, ℕ, ◌+◌, ◌≤◌, ◌<◌, length, get_or, set}
use Rattle.std.proofs.Math.Option.{Option}
use Rattle.std.specs.Prelude as std
use Rattle.rules.specs.declared.Base.{Base}
use Rattle.rules.specs.declared.End.{End}
use Rattle.rules.specs.declared.Row.{Row}
use Rattle.rules.specs.declared.Stream.{Stream}
use Rattle.rules.specs.Rows.{Record}
use Rattle.rules.specs.Merge.{Pick, none, one, pick}
use Rattle.rules.specs.Streams.{ahead, next}
use Rattle.rules.specs.Overlap.{taken, live}
use Rattle.least.specs.declared.Best.{Best}
use Rattle.least.specs.Fours.{record_in}
use Rattle.least.specs.Least.{head_of}
use Rattle.heads.specs.declared.Taken.{Taken}
use Rattle.heads.specs.declared.Next.{Next}
use Rattle.heads.specs.declared.Move.{Move}
use Rattle.heads.specs.declared.Move.TheVariants as move
use Rattle.heads.specs.View.{Cols, Heads, rows_from, rests_of}

-- a head as a record
abbrev pub best_record : Best → Record
best_record h = record_in h.stream h.chrom h.start h.stop h.row

-- a row that was read, and as a record of stream k
abbrev pub next_row : Next → Row
next_row x = record { chrom = x.chrom; start = x.start; stop = x.stop }

abbrev pub next_record : Stream → Next → Record
next_record k x = record { stream = k; row = x.row; it = next_row x }

-- what is wrong with a row, as the code answers it
abbrev pub check_of : Option End → Result ⊤ End
check_of Option.none = Ok tt
check_of (Option.some e) = Err e

-- ---- a turn

-- the record that is taken at b, and the row behind it with the place after it
abbrev pub taken_of : Base → Record → Taken
taken_of b a = record { stream = a.stream; live = live b a; row = a.row; start = a.it.start; stop = a.it.stop }

abbrev pub next_of : Record → ℕ → Next
next_of x place = record { chrom = x.it.chrom; start = x.it.start; stop = x.it.stop; row = x.row; next = place }

-- what becomes of a stream, by the rows behind the head that is taken, the first of which stands ahead of `place`: it has ended, or has another head
abbrev pub then_of : ℕ → List Record → std.Option Next
then_of place [] = None
then_of place (x ∷ rest) = Some (next_of x place)

-- a record is taken, what is wrong behind it, and the rows behind it
abbrev pub takes : Taken → ℕ → Option End → List Record → Result Move End
takes t place (Option.some e) rest = Err e
takes t place Option.none rest = Ok (move.Takes t (then_of place rest))

-- "heads are taken while [..] For each one taken, its successor is read and checked (7, 8)."
unfoldable pub move_of : ℕ → Base → List ℕ → Pick Record → Result Move End
move_of n b nexts none = Ok (move.Stay None)
move_of n b nexts (one a rest ts) = cond (taken b a) (takes (taken_of b a) (get_or nexts a.stream.0 0 + 1) (next n a rest) rest) (Ok (move.Stay (Some (head_of a))))

-- the next turn of a pull at b, of n chromosomes
abbrev pub turn_of : Cols → ℕ → Base → Heads → Result Move End
turn_of s n b h = move_of n b h.next (pick ahead (rests_of s h))

-- the rows behind the heads, by the streams' places
abbrev pub behind_by : Cols → List ℕ → List ℕ → List ℕ → ℕ → List Record
behind_by s nexts from to k = rows_from s (get_or from k 0) (get_or to k 0) k (get_or nexts k 0)

-- ---- what a turn asks of the heads

-- n streams whose rows are among the lent ones, of columns of these lengths, and whose next places are not ahead of their first
pub record PlacedIn (lc la le n : ℕ) (nexts from to : List ℕ) : Type 0 where
  pub few : n ≤ 8
  pub starts : la ≡ lc
  pub stops : le ≡ lc
  pub low : (k : ℕ) → k < n → get_or from k 0 ≤ get_or nexts k 0
  pub high : (k : ℕ) → k < n → get_or to k 0 ≤ lc

abbrev pub Placed : Cols → ℕ → List ℕ → List ℕ → List ℕ → Type 0
Placed s = PlacedIn (length s.chrom) (length s.start) (length s.stop)

-- each array has its eight places
pub record Shaped (h : Heads) : Type 0 where
  pub chrom : length h.chrom ≡ 8
  pub start : length h.start ≡ 8
  pub stop : length h.stop ≡ 8
  pub row : length h.row ≡ 8
  pub ended : length h.ended ≡ 8
  pub next : length h.next ≡ 8

-- ---- the heads after it

-- the heads with stream k ended, and with another head on stream k
abbrev pub ends_at : Heads → ℕ → Heads
ends_at h k = record { chrom = h.chrom; start = h.start; stop = h.stop; row = h.row; ended = set h.ended k 1; next = h.next; from = h.from; to = h.to; streams = h.streams }

abbrev pub goes_at : Heads → ℕ → Next → Heads
goes_at h k x = record { chrom = set h.chrom k x.chrom.0; start = set h.start k x.start; stop = set h.stop k x.stop; row = set h.row k x.row; ended = set h.ended k 0; next = set h.next k x.next; from = h.from; to = h.to; streams = h.streams }

abbrev pub turn_at : Heads → ℕ → std.Option Next → Heads
turn_at h k None = ends_at h k
turn_at h k (Some x) = goes_at h k x

-- the heads after a turn
abbrev pub moved : Heads → Result Move End → Heads
moved h (Err e) = h
moved h (Ok (move.Stay x)) = h
moved h (Ok (move.Takes t a)) = turn_at h t.stream.0 a

-- a record that is taken and live, which lies on the base's chromosome
abbrev pub taken_record : Base → Taken → Record
taken_record b t = record_in t.stream b.chrom t.start t.stop t.row
