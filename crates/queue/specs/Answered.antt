-- What the queue answers where there may be nothing.
use Rattle.std.specs.Prelude.{Option, ℕ}
use Rattle.queue.specs.declared.Ring.{Ring}

-- where the first that waits starts, if any does
abbrev pub Front : Type 0
Front = Option ℕ

-- the ring with one more, where there is room
abbrev pub Pushed : Type 0
Pushed = Option Ring
