-- `chroms::read_list` meets its contract: the loop fills three columns, line by line. Assumes nothing.
use Rattle.std.proofs.Common.{arith}
use Rattle.fields.proofs.Tables.{fill_pass, fill_put, fill_bad, fill_full, fill_end}
use Rattle.chroms.proofs.Entries.{list_read}
use Rattle.chroms.proofs.read_list.Goals as goal

pub loop-at-preserved-then-at-behind : goal.loop-at-preserved-then-at-behind
loop-at-preserved-then-at-behind c = fill_pass c.loop-at.invariant c.past-behind.ensures c.if-at-behind.true

pub returns-in_default : goal.returns-in_default
returns-in_default c =
    fill_bad c.loop-at.invariant _ (list_read _ _ _ _ c.if-to-room.false c.if-len-room.false) c.past-behind.ensures c.if-at-behind.false c.in_default.ensures.line

pub returns-then-n-room : goal.returns-then-n-room
returns-then-n-room c =
    fill_full c.loop-at.invariant _ (list_read _ _ _ _ c.if-to-room.false c.if-len-room.false) c.past-behind.ensures c.if-at-behind.false _ c.in-Some.ensures.line c.if-n-room.true

pub loop-at-preserved : goal.loop-at-preserved
loop-at-preserved c =
    fill_put c.loop-at.invariant c.past-behind.ensures c.if-at-behind.false c.in-Some.ensures.next _ c.in-Some.ensures.line (omega arith)

pub returns : goal.returns
returns c = fill_end c.loop-at.invariant _ (list_read _ _ _ _ c.if-to-room.false c.if-len-room.false) c.loop-at-test.false
