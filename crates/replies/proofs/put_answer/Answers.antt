-- `replies::put_answer` meets its contract, by the answer. Assumes nothing.
use native.Mathlib.Omega.{arith}
use Rattle.lines.proofs.LaidLaws.{lays_past, lays_only}
use Rattle.replies.proofs.put_answer.Goals as goal

pub returns-then-out-at : goal.returns-then-out-at
returns-then-out-at c = lays_past _ _ _ (omega arith)

pub returns-in-Refused : goal.returns-in-Refused
returns-in-Refused c =
    rw (c.in-Refused.is, c.ok_or.ensures.value) (lays_only _ (omega arith) (rw c.number.ensures at c.put_x.ensures))

pub returns-in-Ended : goal.returns-in-Ended
returns-in-Ended c = rw (c.in-Ended.is, c.ok_or-in-Ended.ensures.value) (lays_only _ (omega arith) c.put_end.ensures)
