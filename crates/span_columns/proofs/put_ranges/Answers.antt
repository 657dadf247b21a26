-- `span_columns::put_ranges` meets its contract: what is left to write are the ranges of the records that are left. Assumes nothing.
use mathlib.Core.List.{[], ◌∷◌}
use Rattle.layouts.proofs.Rows.{owned_at, owned_end}
use Rattle.span_columns.proofs.Writing.{filling_step, filling_end}
use Rattle.spans.proofs.Columns.{count_of}
use Rattle.layouts.specs.Layout.{owned}
use Rattle.layouts.specs.Given.{given}
use Rattle.spans.specs.Records.{rest}
use Rattle.spans.specs.Spans.{span}
use lib.ListN.{length}
use native.Mathlib.Omega.{arith}
use mathlib.Core.Path.{ap}
use Prim.Native.Nat.{◌+◌}
use Rattle.span_columns.proofs.put_ranges.Goals as goal

pub overflow_add-next : goal.overflow_add-next
overflow_add-next c =
    omega (arith, c.loop-r.invariant.0, c.piece_count.ensures.1, ap length c.in-Some.ensures.steps, count_of c.args.records, c.ranges.records)

pub put_span-done-requires : goal.put_span-done-requires
put_span-done-requires c =
    let i = c.loop-r.invariant in
    omega (arith, i.1, ap length c.in-Some.ensures.steps, c.requires.starts_fit, c.requires.stops_fit, i.2.long_starts, i.2.long_stops)

pub loop-r-preserved : goal.loop-r-preserved
loop-r-preserved c =
    let l = c.loop-r in
    let i = l.invariant in
    let e = c.in-Some.ensures.steps in
    let f = given c.args.giving c.args.base in
    let n = c.piece_count.ensures.0 in
    let next = l.at + length (f c.in-Some.r) in (
      omega (arith, i.0, c.piece_count.ensures.1, ap length e),
      omega (arith, i.1, c.put_span-done.ensures.after, ap length e),
      rw n (filling_step _ _ _ _ _ _ (span l.at next ∷ []) (owned f next (rest c.next.new.self)) (owned_at e f l.at) i.2 (rw n at c.put_span-done.ensures)),
    )

pub returns : goal.returns
returns c =
    let l = c.loop-r in
    filling_end _ _ _ _ _ _ (owned_end c.in-None.ensures.steps.0 (given c.args.giving c.args.base) l.at) l.invariant.2
