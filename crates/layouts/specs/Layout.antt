-- How a rule lays fragments out: a fragment names its base part and the range of the pieces that are its own, so that fragments with the same pieces share them.
use Rattle.std.specs.Prelude.{ℕ, ◌+◌, Bool, true, false, length, ltb}
use mathlib.Core.List.{List, [], ◌∷◌, map, zip_with}
use Rattle.std.proofs.Math.Option.{Option}
use Rattle.std.proofs.Math.Seq.{slice}
use Rattle.spans.specs.declared.Span.{Span}
use Rattle.fragment_rules.specs.declared.Parting.{Parting}
use Rattle.fragment_rules.specs.declared.Parting.TheVariants.{Bare, Single, EachRecord, EachClip, EachGap}
use Rattle.fragment_rules.specs.declared.Giving.{Giving}
use Rattle.fragment_rules.specs.declared.Rule.{Rule}
use Rattle.spans.specs.Spans.{span}
use Rattle.layouts.specs.Fragments.{Fragment, fragment}
use Rattle.layouts.specs.Given.{given, all_given, bases}

-- the fragments' base parts, the range of places of each one's pieces (from, and up to but not including), and the pieces
pub record Layout : Type 0 where
  pub bases : List (Option Span)
  pub ranges : List Span
  pub pieces : List Span

-- each fragment has all k pieces
abbrev pub shared : ℕ → List (Option Span) → List Span
shared k bs = map (λ (b : Option Span). span 0 k) bs

-- each record's fragment has that record's pieces, which stand behind those of the records ahead
unfoldable pub owned : (Span → List Span) → ℕ → List Span → List Span
owned f at [] = []
owned f at (r ∷ rs) = span at (at + length (f r)) ∷ owned f (at + length (f r)) rs

-- whether each of the fragments has the pieces of its own record alone, with n records: "one fragment a record, with that record's B"
abbrev pub owning : Parting → ℕ → Bool
owning Bare n = false
owning Single n = false
owning EachRecord n = ltb 0 n
owning EachClip n = false
owning EachGap n = false

abbrev pub pick_spans : Bool → List Span → List Span → List Span
pick_spans true xs ys = xs
pick_spans false xs ys = ys

-- the range of each fragment
abbrev pub ranges : Parting → Giving → Span → List Span → List Span
ranges p g base rs = pick_spans (owning p (length rs)) (owned (given g base) 0 rs) (shared (length (all_given g base rs)) (bases p base rs))

-- pieces that no fragment has are not there
abbrev pub if_any : List (Option Span) → List Span → List Span
if_any [] ps = []
if_any (b ∷ bs) ps = ps

-- what a rule lays out
abbrev pub layout : Rule → Span → List Span → Layout
layout rule base rs =
    record {
      bases = bases rule.0 base rs;
      ranges = ranges rule.0 rule.1 base rs;
      pieces = if_any (bases rule.0 base rs) (all_given rule.1 base rs);
    }

-- the fragments that a layout holds: each with the pieces of its range
abbrev pub held : List (Option Span) → List Span → List Span → List Fragment
held bs xs ps = zip_with (λ (b : Option Span) (x : Span). fragment b (slice x.start x.stop ps)) bs xs
