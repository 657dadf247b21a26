-- A ring of lent slots, and the list of the records that wait in it.
use Rattle.std.specs.Prelude.{◌≡◌, cond, List, [], ◌∷◌, ℕ, ◌+◌, ◌-◌, ◌≤◌, ◌<◌, length, get_or, ltb}
use Rattle.basics.specs.Build.{build}
use Rattle.rules.specs.declared.Chrom.{Chrom}
use Rattle.rules.specs.Rows.{Record}
use Rattle.queue.specs.declared.Ring.{Ring}
use Rattle.queue.specs.declared.Slot.{Slot}

-- "`BinaryHeap`, `VecDeque`: the heads in the run; a ring in lent memory.": the lent memory, four numbers a slot
abbrev pub Cells : Type 0
Cells = List (List ℕ)

-- a slot's record, on a chromosome
abbrev pub record_of : Chrom → Slot → Record
record_of chrom x = record { stream = x.stream; row = x.row; it = record { chrom = chrom; start = x.start; stop = x.stop } }

-- the slot that four numbers are
abbrev pub slot_in : List ℕ → Slot
slot_in x = record { stream = record { 0 = get_or x 0 0 }; row = get_or x 1 0; start = get_or x 2 0; stop = get_or x 3 0 }

-- and the four numbers of a slot
abbrev pub numbers_of : Slot → List ℕ
numbers_of x = x.stream.0 ∷ x.row ∷ x.start ∷ x.stop ∷ []

-- the slot at place i
abbrev pub slot_at : Cells → ℕ → Slot
slot_at c i = slot_in (get_or c i [])

-- where number k of a ring stands, counted from its head: behind the last place comes the first
unfoldable pub place : ℕ → ℕ → ℕ → ℕ
place head room k = cond (ltb (head + k) room) (head + k) (head + k - room)

-- number k of a ring
abbrev pub nth : Ring → Cells → ℕ → Record
nth q c k = record_of q.chrom (slot_at c (place q.head q.room k))

-- the first n of a ring
abbrev pub oldest : ℕ → Ring → Cells → List Record
oldest n q c = build (nth q c) n 0

-- "records waiting for later bases", the oldest first: of any ring and any memory
unfoldable pub waiting : Ring → Cells → List Record
waiting q c = oldest q.len q c

-- what a ring keeps to; "Queue room Q from 1 to 65,536."
pub record Sound (q : Ring) : Type 0 where
  pub inside : q.head < q.room
  pub fits : q.len ≤ q.room
  pub small : q.room ≤ 65536

-- what a ring and its memory keep to
pub record Fair (q : Ring) (c : Cells) : Type 0 where
  pub sound : Sound q
  pub slots : length c ≡ q.room
