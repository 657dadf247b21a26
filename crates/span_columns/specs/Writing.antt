-- Spans written to two columns, from a place on or in front.
use Rattle.std.specs.Prelude.{ℕ, ◌+◌, ◌≤◌, ◌≡◌, List, length}
use Rattle.std.proofs.lemmas.List.Edits.{sets}
use Rattle.spans.specs.declared.Span.{Span}
use Rattle.layouts.specs.Columns.{starts_of, stops_of, over}

-- there is room for spans from a place on
pub record Fits (xs : List Span) (at : ℕ) (starts stops : List ℕ) : Type 0 where
  pub starts_fit : at + length xs ≤ length starts
  pub stops_fit : at + length xs ≤ length stops

-- spans are stored from a place on, and the next place is the answer
pub record Puts (xs : List Span) (at : ℕ) (starts stops : List ℕ) (next : ℕ) (starts' stops' : List ℕ) : Type 0 where
  pub after : next ≡ at + length xs
  pub starts_are : starts' ≡ sets starts at (starts_of xs)
  pub stops_are : stops' ≡ sets stops at (stops_of xs)

-- values in front of two columns
pub record Fronts (vs ws starts stops starts' stops' : List ℕ) : Type 0 where
  pub starts_are : starts' ≡ over vs starts
  pub stops_are : stops' ≡ over ws stops
