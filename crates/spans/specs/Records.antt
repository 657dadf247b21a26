-- The records that two lent columns hold.
use Rattle.std.specs.Prelude.{List}
use Rattle.spans.specs.declared.Span.{Span}
use Rattle.spans.specs.declared.records.Records.{Records}
use Rattle.spans.specs.declared.records.Rows.{Rows}
use Rattle.spans.specs.Spans.{spans}

abbrev pub spans_of : Records → List Span
spans_of r = spans r.starts.now r.stops.now

-- those that are left to go over
abbrev pub rest : Rows → List Span
rest r = spans_of r.left
