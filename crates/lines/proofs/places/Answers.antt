-- `lines::places` meets its contract: the digits are counted by the powers of 10 below the number. Assumes nothing.
use native.Mathlib.Omega.{arith}
use Rattle.lines.proofs.Decimal.{places_one, places_power}
use Rattle.lines.proofs.places.Goals as goal

pub returns-in-0-to-9 : goal.returns-in-0-to-9
returns-in-0-to-9 c = omega (arith, places_one c.args.n (omega arith))

pub returns-in-10-to-99 : goal.returns-in-10-to-99
returns-in-10-to-99 c = omega (arith, places_power 1 c.args.n (omega arith) (omega arith))

pub returns-in-100-to-999 : goal.returns-in-100-to-999
returns-in-100-to-999 c = omega (arith, places_power 2 c.args.n (omega arith) (omega arith))

pub returns-in-1000-to-9999 : goal.returns-in-1000-to-9999
returns-in-1000-to-9999 c = omega (arith, places_power 3 c.args.n (omega arith) (omega arith))

pub returns-in_default : goal.returns-in_default
returns-in_default c =
    let e = c.ilog10.ensures in
    omega (arith, e.bound, places_power c.ilog10.result c.args.n e.power_le e.next_power_gt)
