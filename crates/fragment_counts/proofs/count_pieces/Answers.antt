-- `fragment_counts::count_pieces` meets its contract: the pieces counted and those of the records that are left are all pieces. Assumes nothing.
use Rattle.layouts.proofs.Rows.{given_at, given_end}
use Rattle.layouts.specs.Given.{given, all_given}
use Rattle.spans.proofs.Columns.{count_of}
use Rattle.spans.specs.Records.{rest}
use lib.ListN.{length, length-append}
use native.Mathlib.Omega.{arith}
use mathlib.Core.Path.{ap}
use Rattle.fragment_counts.proofs.count_pieces.Goals as goal

pub overflow_add-n : goal.overflow_add-n
overflow_add-n c =
    omega (arith, c.loop-r.invariant.0, c.piece_count-n.ensures.1, ap length c.in-Some.ensures.steps, count_of c.args.records, c.ranges.records)

pub loop-r-preserved : goal.loop-r-preserved
loop-r-preserved c =
    let a = c.args in
    let i = c.loop-r.invariant in
    let e = c.in-Some.ensures.steps in (
      omega (arith, i.0, c.piece_count-n.ensures.1, ap length e),
      omega (
        arith,
        i.1,
        c.piece_count-n.ensures.0,
        ap length (given_at e a.giving a.base),
        length-append (given a.giving a.base c.in-Some.r) (all_given a.giving a.base (rest c.next.new.self)),
      ),
    )

pub returns : goal.returns
returns c =
    omega (arith, c.loop-r.invariant.1, ap length (given_end c.in-None.ensures.steps.0 c.args.giving c.args.base))
