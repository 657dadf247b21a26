-- `fragment_columns::lay_parts` meets its contract: a case for each way to part. Assumes nothing.
use Rattle.fragment_columns.proofs.Parts.{same_single, same_records, clips_stand, gaps_stand}
use Rattle.span_columns.proofs.Writing.{fits_front, fronts, fronts_as, fronts_alike}
use Rattle.layouts.specs.Columns.{part_start, part_stop}
use Rattle.layouts.specs.Given.{bases, all_given}
use Rattle.layouts.specs.Fragments.{gaps}
use Rattle.spans.specs.Records.{spans_of}
use Rattle.spans.specs.declared.Span.{Span}
use Rattle.fragment_rules.specs.declared.Giving.TheVariants.{Clip}
use Rattle.fragment_rules.specs.declared.Parting.{Parting}
use Rattle.fragment_rules.specs.declared.Parting.TheVariants.{Single, EachRecord}
use lib.ListN.{length, replicate}
use mathlib.Core.List.{List, map}
use mathlib.Core.Logic.{◌⊎◌}
use mathlib.Core.Logic.◌⊎◌.{inl, inr}
use mathlib.Core.Option.{Option, some}
use mathlib.Core.Path.{◌≡◌, ◌∙◌}
use Prim.Native.Nat.{ℕ}
use Rattle.fragment_columns.proofs.lay_parts.Goals as goal

pub put_all-requires : goal.put_all-requires
put_all-requires c =
    let a = c.args in
    let h = c.requires in
    let s = clips_stand a.parting a.base (spans_of a.records) c.in-EachClip.is in
    fits_front (all_given Clip a.base (spans_of a.records)) a.bstart.now a.bstop.now (h.0 ∙ s.count) h.1 h.2

-- one value in a column of base parts that are all the base
same : (f : Option Span → ℕ) (p : Parting) (base : Span) (rs : List Span) → (p ≡ Single) ⊎ (p ≡ EachRecord) → replicate (length (bases p base rs)) (f (some base)) ≡ map f (bases p base rs)
same f p base rs (inl e) = same_single f p base rs e
same f p base rs (inr e) = same_records f p base rs e

pub returns-in-Single : goal.returns-in-Single
returns-in-Single c =
    let a = c.args in
    let rs = spans_of a.records in
    fronts_alike a.base.start a.base.stop c.requires.0 (same part_start a.parting a.base rs c.in-Single.is) (same part_stop a.parting a.base rs c.in-Single.is) c.fill_both-in-Single.ensures

pub returns-in-EachClip : goal.returns-in-EachClip
returns-in-EachClip c =
    let a = c.args in
    let h = c.requires in
    let s = clips_stand a.parting a.base (spans_of a.records) c.in-EachClip.is in
    fronts_as s.starts s.stops (fronts c.put_all.ensures (fits_front (all_given Clip a.base (spans_of a.records)) a.bstart.now a.bstop.now (h.0 ∙ s.count) h.1 h.2))

pub returns-in-EachGap : goal.returns-in-EachGap
returns-in-EachGap c =
    let a = c.args in
    let h = c.requires in
    let s = gaps_stand a.parting a.base (spans_of a.records) c.in-EachGap.is in
    fronts_as s.starts s.stops (fronts c.put_gaps.ensures (fits_front (gaps a.base (spans_of a.records)) a.bstart.now a.bstop.now (h.0 ∙ s.count) h.1 h.2))
