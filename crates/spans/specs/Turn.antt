-- One turn of the walk over a base's gaps.
use Rattle.std.specs.Prelude.{ℕ}
use Rattle.spans.specs.declared.Span.{Span}

-- one turn of the walk: "where a record starts after the walk's place, the stretch between is a gap; the place becomes that record's stop"
abbrev pub gap_end : ℕ → Span → ℕ
gap_end place r = r.start

abbrev pub next_place : ℕ → Span → ℕ
next_place place r = r.stop
