-- `parts::fragments` meets its contract: where nothing is refused, `lay` wrote the layout, which reads back as the fragments. Assumes nothing.
use Rattle.parts.proofs.Answers.{sized, written}
use Rattle.layouts.specs.Columns.{columns}
use Rattle.parts.proofs.fragments.Goals as goal

pub returns : goal.returns
returns c =
    let a = c.args in
    let cs = columns a.present.now a.bstart.now a.bstop.now a.from.now a.to.now a.pstart.now a.pstop.now in
    let lent = c.in-Some.ensures.lent in
    let even = rw (lent.0, lent.1) at c.in-Some.records.even in
    let s = sized a.starts.now a.stops.now cs even c.if-bstart-slots.false c.if-bstop-slots.false c.if-from-slots.false c.if-to-slots.false c.if-pstop-room.false in
    written a.a a.b a.base a.starts.now a.stops.now cs s c.rule_of-rule.ensures.rule (rw (lent.0, lent.1) at c.judge.ensures) c.in_ok-counts.was
    (rw (lent.0, lent.1) at c.lay.ensures)
