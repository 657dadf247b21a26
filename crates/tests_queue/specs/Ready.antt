-- What holds of the ring from step to step.
use Rattle.std.specs.Prelude.{ℕ, ◌≡◌, ◌≤◌, List, length}
use Rattle.queue.specs.declared.Ring.{Ring}
use Rattle.queue.specs.Ring.{Cells, Fair}

-- A ring that can be driven on: fair, with answer rows for all that can wait.
pub record Ready (q : Ring) (c : Cells) (l : List (List ℕ)) : Type 0 where
  pub fair : Fair q c
  pub answers : q.room ≤ length l

-- A ring that goes on from another: fair, with as much room.
abbrev pub GoesOn : Ring → Ring → Cells → Type 0
GoesOn old new c = Fair new c × (new.room ≡ old.room)
