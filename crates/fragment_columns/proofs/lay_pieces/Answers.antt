-- `fragment_columns::lay_pieces` meets its contract: the pieces of all records, or none where there is no fragment. Assumes nothing.
use Rattle.layouts.proofs.Bases.{pieces_all}
use Rattle.span_columns.proofs.Writing.{fits_front, fronts}
use Rattle.layouts.specs.Given.{bases, all_given}
use Rattle.spans.specs.Records.{spans_of}
use lib.ListN.{length}
use mathlib.Core.Path.{ap, ◌∙◌}
use Rattle.fragment_columns.proofs.lay_pieces.Goals as goal

pub returns : goal.returns
returns c =
    let a = c.args in
    let h = c.requires in
    let ps = all_given a.rule.1 a.base (spans_of a.records) in
    let e = pieces_all (bases a.rule.0 a.base (spans_of a.records)) ps (λ z. c.if-n-eq0.false (h.0 ∙ z)) in
    rw e (fronts c.put_all.ensures (fits_front ps a.pstart.now a.pstop.now (ap length e) h.1 h.2))
