-- `base_step`: clearing leaves what a scan asks, and a scan writes no more rows than wait.
use native.Mathlib.Omega.{arith}
use Rattle.queue.proofs.Calls.{cleared_live}
use Rattle.tests_queue.proofs.base_step.Goals as goal

pub scan-n-requires : goal.scan-n-requires
scan-n-requires g c =
    record { fair = c.clear-after.ensures.fair; cleared = cleared_live c.args.b c.clear-after.ensures; answers = omega (arith, c.clear-after.ensures.room, c.requires.answers) }
