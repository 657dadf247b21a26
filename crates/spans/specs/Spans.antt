-- Spans: the stretch between two places, a span clipped to another and its parts outside, columns of starts and stops side by side.
use Rattle.std.specs.Prelude.{ℕ, min, max, Bool, true, false, ltb}
use mathlib.Core.List.{List, [], ◌∷◌, zip_with}
use Rattle.spans.specs.declared.Span.{Span}

abbrev pub span : ℕ → ℕ → Span
span a e = record { start = a; stop = e }

abbrev pub only_if : {A : Type 0} → Bool → A → List A
only_if true x = x ∷ []
only_if false x = []

-- "the stretch between", "where not empty": from one place up to another, nothing where the second is not above the first
abbrev pub stretch : ℕ → ℕ → List Span
stretch a e = only_if (ltb a e) (span a e)

-- "larger start, smaller stop"
abbrev pub clipped : Span → Span → Span
clipped base r = span (max base.start r.start) (min base.stop r.stop)

-- "what lies before base start", "what lies after base stop", "where not empty"
abbrev pub before : Span → Span → List Span
before base r = stretch r.start (min r.stop base.start)

abbrev pub after : Span → Span → List Span
after base r = stretch (max r.start base.stop) r.stop

-- the spans of a column of starts and a column of stops, side by side
abbrev pub spans : List ℕ → List ℕ → List Span
spans starts stops = zip_with span starts stops
