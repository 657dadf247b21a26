-- `give` meets its contract: it is the call for many bases, of one.
use Rattle.std.proofs.Common.{refl, arith}
use Rattle.sweep.proofs.Single.{single_unstopped, single_stopped}
use Rattle.sweep.proofs.give.Goals as goal

pub returns-in-None : goal.returns-in-None
returns-in-None c =
    single_unstopped refl (record { starts = refl; stops = refl; counts = omega arith }) c.give_all-p.ensures c.in-None.is

pub returns-in-Some : goal.returns-in-Some
returns-in-Some c =
    single_stopped refl (record { starts = refl; stops = refl; counts = omega arith }) c.give_all-p.ensures c.in-Some.answer c.in-Some.is
