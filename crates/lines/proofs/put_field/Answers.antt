-- `lines::put_field` meets its contract: the tab, and then the digits. Assumes nothing.
use native.Mathlib.Omega.{arith}
use Rattle.lines.proofs.Laying.{wrote_append}
use Rattle.lines.proofs.put_field.Goals as goal

pub returns : goal.returns
returns c = wrote_append c.put_bytes-tab.ensures (omega arith) c.put_decimal.ensures
