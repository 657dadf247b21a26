-- "The records are one stream's answer to the base."
use Rattle.std.specs.Prelude.{List, map, ℕ, eqb}
use Rattle.basics.specs.Lists.{filter}
use Rattle.rules.specs.declared.Base.{Base}
use Rattle.rules.specs.Rows.{Record}
use Rattle.rules.specs.Overlap.{overlaps}
use Rattle.rules.specs.Job.{Job, merged_of}
use Rattle.spans.specs.declared.Span.{Span}
use Rattle.spans.specs.Spans.{span}

abbrev pub base_span : Base → Span
base_span b = span b.start b.stop

abbrev pub record_span : Record → Span
record_span r = span r.it.start r.it.stop

-- of the records that a base gets, those of stream i, in order, as the parts are given them
abbrev pub stream_answer : Job → Base → ℕ → List Span
stream_answer j b i = map record_span (filter (λ r. eqb r.stream.0 i) (filter (overlaps b) (merged_of j)))
