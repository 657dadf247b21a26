-- `drive`: the ring stays ready at each turn.
use mathlib.Core.Path.{◌≡◌}
use lib.ListN.{length}
use Rattle.tests_queue.specs.Ready.{Ready}
use Rattle.tests_queue.proofs.drive.Given as goal

abbrev pub invariant-loop-step : goal.invariant-loop-step
invariant-loop-step g l = Ready l.ring l.queue l.answers × (l.ring.room ≡ length l.initial.queue) × (length l.answers ≡ length l.initial.answers)
