-- The facts behind 1's test: what a run and what is lent with a base keep to where 1 is not due.
use Rattle.std.specs.Prelude.{◌≡◌, true, false, List, ℕ, ◌<◌, ◌≤◌, length, get_or}
use Rattle.basics.specs.Lists.{All}
use Rattle.heads.specs.Move.{PlacedIn}
use Rattle.queue.specs.declared.Ring.{Ring}
use Rattle.queue.specs.Ring.{Cells, Fair, waiting}
use Rattle.admit.specs.declared.Lens.{Lens}
use Rattle.admit.specs.Right.{named}
use Rattle.least.specs.Fours.{is_ended}

-- the queue's memory has the length that l tells
abbrev pub Told : Lens → Cells → Type 0
Told l c = length c ≡ l.queue

-- "1 to 8 streams", "1 to 256 chromosomes", the queue, the answer rows, and what the run names
pub record Fits (l : Lens) (streams chroms : ℕ) (q : Ring) (ended : List ℕ) (row next from to : List ℕ) (c : Cells) : Type 0 where
  pub some : 1 ≤ streams
  pub few : streams ≤ 8
  pub any : 1 ≤ chroms
  pub listed : chroms ≤ 256
  pub lengths : l.lengths ≡ chroms
  pub fair : Fair q c
  pub answer : q.room ≤ l.answers
  pub placed : PlacedIn l.chrom l.start l.stop streams next from to
  pub heads : (k : ℕ) → k < streams → is_ended (get_or ended k 0) ≡ false → named streams from to k (get_or row k 0) ≡ true
  pub slots : All (λ r. named streams from to r.stream.0 r.row ≡ true) (waiting q c)
