-- `read_text`: what stands ahead of the place is what the input gave. Assumes nothing.
use Rattle.std.proofs.Common.{◌≡◌, ◌-◌, ◌≤◌, length, take}
use Rattle.std.specs.Io.KnownBytes.{Consumes}
use Rattle.tests_shared.proofs.reader.read_text.Given as goal

abbrev pub invariant-loop-done : goal.invariant-loop-done
invariant-loop-done g l = (length l.memory ≡ length l.initial.memory) × (l.done ≤ length l.memory) × Consumes (g.R.Read.remaining l.initial.input) (g.R.Read.remaining l.input) (take l.done l.memory)

abbrev pub decreases-loop-done : goal.decreases-loop-done
decreases-loop-done g l = length l.memory - l.done
