-- `rows::read_rows` meets its contract: the loop fills three columns, line by line, and knows the name it saw last. Assumes nothing.
use Rattle.std.proofs.Common.{arith}
use Rattle.fields.proofs.Tables.{fill_start, fill_none, fill_pass, fill_put, fill_bad, fill_full, fill_end}
use Rattle.rows.specs.Row.{chrom_of, start_of, stop_of}
use Rattle.rows.proofs.Seeing.{knows_none, knows_next}
use Rattle.rows.proofs.Filled.{rows_uneven, rows_outside, rows_read}
use Rattle.rows.proofs.read_rows.Goals as goal

pub returns-then-start-room : goal.returns-then-start-room
returns-then-start-room c = fill_none chrom_of start_of stop_of _ _ _ _ (rows_uneven _ _ _ _ c.args.list (λ p q. omega (arith, p, q)))

pub returns-in_default : goal.returns-in_default
returns-in_default c = fill_none chrom_of start_of stop_of _ _ _ _ (rows_outside _ _ _ _ c.args.list c.in_default.ensures)

pub loop-at-init : goal.loop-at-init
loop-at-init c = record {
  filling = fill_start _ chrom_of start_of stop_of _ _ _ _ c.if-start-room.false c.if-stop-room.false;
  knows = knows_none _ _ _ c.unseen-seen.ensures.0 c.unseen-seen.ensures.1 c.unseen-seen.ensures.2;
}

pub loop-at-preserved-then-at-behind : goal.loop-at-preserved-then-at-behind
loop-at-preserved-then-at-behind c = record { filling = fill_pass c.loop-at.invariant.filling c.past-behind.ensures c.if-at-behind.true; knows = c.loop-at.invariant.knows }

pub returns-in_default-row_at : goal.returns-in_default-row_at
returns-in_default-row_at c =
    fill_bad c.loop-at.invariant.filling _ (rows_read _ _ _ _ _ _ c.in-Some.ensures.0 c.if-start-room.false c.if-stop-room.false c.in-Some.ensures.1) c.past-behind.ensures c.if-at-behind.false c.in_default-row_at.ensures.line

pub returns-then-n-room : goal.returns-then-n-room
returns-then-n-room c =
    fill_full c.loop-at.invariant.filling _ (rows_read _ _ _ _ _ _ c.in-Some.ensures.0 c.if-start-room.false c.if-stop-room.false c.in-Some.ensures.1) c.past-behind.ensures c.if-at-behind.false _ c.in-Some-row_at.ensures.line c.if-n-room.true

pub loop-at-preserved : goal.loop-at-preserved
loop-at-preserved c = record {
  filling = fill_put c.loop-at.invariant.filling c.past-behind.ensures c.if-at-behind.false c.in-Some-row_at.ensures.goes.next _ c.in-Some-row_at.ensures.line (omega arith);
  knows = knows_next c.in-Some-row_at.ensures.goes.name;
}

pub returns : goal.returns
returns c = fill_end c.loop-at.invariant.filling _ (rows_read _ _ _ _ _ _ c.in-Some.ensures.0 c.if-start-room.false c.if-stop-room.false c.in-Some.ensures.1) c.loop-at-test.false
