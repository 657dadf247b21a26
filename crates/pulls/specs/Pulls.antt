-- What an accepted base comes to: the heads after its pull, what waits then, the answer, and all that was lent.
use Rattle.std.specs.Prelude.{◌≡◌, true, List, [], ◌++◌, ℕ, zero, suc, ◌≤◌, ◌<◌, length}
use Rattle.basics.specs.Lists.{total, keep, All}
use Rattle.rules.specs.declared.Base.{Base}
use Rattle.rules.specs.declared.End.{End}
use Rattle.rules.specs.declared.End.TheVariants.{NoRoom}
use Rattle.rules.specs.declared.Stage.TheVariants.{After}
use Rattle.rules.specs.Rows.{Record}
use Rattle.rules.specs.Streams.{ahead, next}
use Rattle.rules.specs.Overlap.{taken, live}
use Rattle.rules.specs.Pull.{Pull, pull}
use Rattle.rules.specs.Call.{Reply, found, refused, ended, answer_of, column, after_pull, pulling}
use Rattle.rules.specs.Call as rules
use Rattle.heads.specs.declared.Taken.{Taken}
use Rattle.heads.specs.View.{Cols, Heads, rests_of}
use Rattle.heads.specs.Move.{turn_of, moved, Placed, Shaped}
use Rattle.queue.specs.declared.Ring.{Ring}
use Rattle.queue.specs.declared.Slot.{Slot}
use Rattle.std.specs.Prelude.{Option, Some, None}
use Rattle.queue.specs.Ring.{Cells, Fair, record_of, waiting}
use Rattle.queue.specs.Deeds.{answer_row}
use Rattle.pulls.specs.declared.Answered.{Answered}

-- ---- the heads

-- the heads after k turns; where no head is to be taken a turn changes nothing
unfoldable pub after_turns : Cols → ℕ → Base → ℕ → Heads → Heads
after_turns s n b zero h = h
after_turns s n b (suc k) h = after_turns s n b k (moved h (turn_of s n b h))

-- "heads are taken while" they are to be taken: a turn for each row that is left, at most
abbrev pub drawn_to : Cols → ℕ → Base → Heads → Heads
drawn_to s n b h = after_turns s n b (total (rests_of s h)) h

-- ---- what is lent

-- the memory of a queue keeps its length
abbrev pub Kept : Cells → Cells → Type 0
Kept c c' = length c' ≡ length c

-- the queue's memory and the answer rows
pub record Lent : Type 0 where
  pub cells : Cells
  pub answers : List (List ℕ)

abbrev pub lent : Cells → List (List ℕ) → Lent
lent c l = record { cells = c; answers = l }

-- a base that was answered
abbrev pub Found : Reply → Type 0
Found (found l o) = Unit {0}
Found (refused x) = ⊥
Found (ended e) = ⊥

-- ---- one pull

-- what a run comes to by the rules whose loaded heads are h and whose queue is q: a base that it accepts is `b`
abbrev pub stands_at : Cols → Heads → Ring → Cells → Base → rules.Run
stands_at s h q c b = record { left = rests_of s h; queue = waiting q c; stage = After b }

-- where the base was answered: the heads after the pull, what is left and what waits in a queue of room m
pub record FoundIn (s : Cols) (n : ℕ) (b : Base) (h : Heads) (m : ℕ) (t : rules.Given) (w : Ring) (h' : Heads) (c' : Cells) : Type 0 where
  pub shaped : Shaped h'
  pub heads : h' ≡ drawn_to s n b h
  pub run : stands_at s h' w c' b ≡ t.run
  pub fair : Fair w c'
  pub room : w.room ≡ m

-- the answer, the heads and all that was lent, l before and l' after it, where t is what the base comes to by the rules, n the number of
-- chromosomes, h the heads before it and m the room
pub record SettlesIn (s : Cols) (n : ℕ) (b : Base) (h : Heads) (m : ℕ) (t : rules.Given) (l : Lent) (a : Answered) (h' : Heads) (l' : Lent) : Type 0 where
  pub answer : a.answer ≡ answer_of t.reply
  pub found : Found t.reply → FoundIn s n b h m t a.ring h' l'.cells
  pub kept : Kept l.cells l'.cells
  pub answers : l'.answers ≡ column answer_row t.reply l.answers

-- the pull at b from the heads h and the ring q, of n chromosomes
abbrev pub pull_of : Cols → ℕ → Heads → Base → Ring → Cells → Pull Record End
pull_of s n h b q c = pull ahead (next n) NoRoom (taken b) (live b) q.room (rests_of s h) (waiting q c)

-- what a pull asks: the arrays have their eight places, the streams are placed, the queue was cleared for the base, there are answer rows for all that can wait
pub record Drawable (s : Cols) (h : Heads) (b : Base) (q : Ring) (l : Lent) : Type 0 where
  pub shaped : Shaped h
  pub placed : Placed s h.streams h.next h.from h.to
  pub fair : Fair q l.cells
  pub chrom : q.chrom ≡ b.chrom
  pub cleared : All (λ a. live b a ≡ true) (waiting q l.cells)
  pub answers : q.room ≤ length l.answers

-- a record that was taken, as a slot
abbrev pub slot_of : Taken → Slot
slot_of t = record { stream = t.stream; row = t.row; start = t.start; stop = t.stop }

-- "if it is on b's chromosome and ends after b.start, it is queued [..]; otherwise it is dropped": the ring w after it
pub record KeptAs (q : Ring) (c : Cells) (t : Taken) (w : Ring) (c' : Cells) : Type 0 where
  pub fair : Fair w c'
  pub room : w.room ≡ q.room
  pub chrom : w.chrom ≡ q.chrom
  pub fewer : t.live ≡ true → length (waiting q c) < q.room
  pub more : waiting w c' ≡ waiting q c ++ keep t.live (record_of q.chrom (slot_of t)) []

-- "9 if Q live records are queued already": the slots are as they were
pub record FullAs (q : Ring) (c : Cells) (t : Taken) (c' : Cells) : Type 0 where
  pub lives : t.live ≡ true
  pub full : length (waiting q c) ≡ q.room
  pub same : c' ≡ c

-- one of the two, by the answer
pub record Keeps (q : Ring) (c : Cells) (t : Taken) (p : Option Ring) (c' : Cells) : Type 0 where
  pub done : (w : Ring) → p ≡ Some w → KeptAs q c t w c'
  pub full : p ≡ None → FullAs q c t c'

-- what a pull comes to
abbrev pub DrawsAs : Cols → ℕ → Heads → Base → Ring → Lent → Answered → Heads → Lent → Type 0
DrawsAs s n h b q l a h' l' = SettlesIn s n b h q.room (after_pull (length l.answers) (stands_at s h q l.cells b) b (pull_of s n h b q l.cells)) l a h' l'

-- ---- an accepted base

-- what it asks: the arrays have their eight places, the streams are placed, the queue lies within its memory, there are answer rows for all that can wait
pub record Settleable (s : Cols) (h : Heads) (q : Ring) (l : Lent) : Type 0 where
  pub shaped : Shaped h
  pub placed : Placed s h.streams h.next h.from h.to
  pub fair : Fair q l.cells
  pub answers : q.room ≤ length l.answers

-- what it comes to
abbrev pub SettlesAs : Cols → ℕ → Heads → Base → Ring → Lent → Answered → Heads → Lent → Type 0
SettlesAs s n h b q l a h' l' = SettlesIn s n b h q.room (pulling n q.room (length l.answers) (stands_at s h q l.cells b) b) l a h' l'
