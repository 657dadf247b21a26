-- `fragment_counts::fragment_count` meets its contract: one fragment a record, or one for none. Assumes nothing.
use Rattle.layouts.proofs.Bases.{count_none, count_records, count_clips}
use Rattle.spans.proofs.Columns.{count_of}
use Rattle.spans.specs.Records.{spans_of}
use Rattle.spans.specs.declared.Span.{Span}
use Rattle.fragment_rules.specs.declared.Parting.TheVariants.{EachRecord}
use Rattle.layouts.specs.Given.{bases}
use lib.ListN.{length}
use mathlib.Core.List.{List, [], ◌∷◌}
use mathlib.Core.Path.{◌≡◌, refl, sym, ◌∙◌}
use native.Mathlib.Omega.{arith}
use Prim.Native.Nat.{max}
use Rattle.fragment_counts.proofs.fragment_count.Goals as goal

each : (base : Span) (rs : List Span) → max (length rs) 1 ≡ length (bases EachRecord base rs)
each base [] = count_none base [] refl
each base (r ∷ rs) = omega (arith, count_records base (r ∷ rs) (λ h. omega arith))

pub returns-in-EachRecord : goal.returns-in-EachRecord
returns-in-EachRecord c =
    let s = c.args.records in
    rw (c.in-EachRecord.is, c.max.ensures, c.len.ensures, ← count_of s) (each c.args.base (spans_of s))

pub returns-in-EachClip : goal.returns-in-EachClip
returns-in-EachClip c =
    let s = c.args.records in
    rw c.in-EachClip.is (c.len-in-EachClip.ensures ∙ sym (count_of s) ∙ count_clips c.args.base (spans_of s))
