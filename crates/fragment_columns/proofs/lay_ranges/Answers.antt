-- `fragment_columns::lay_ranges` meets its contract: own ranges, or one range for all. Assumes nothing.
use Rattle.fragment_columns.proofs.Parts.{owning_count, shared_starts, shared_stops}
use Rattle.layouts.proofs.Bases.{length_owned}
use Rattle.span_columns.proofs.Writing.{fits_front, fronts, fronts_alike}
use Rattle.spans.proofs.Columns.{count_of}
use Rattle.layouts.specs.Layout.{owning, owned}
use Rattle.layouts.specs.Given.{bases, given, all_given}
use Rattle.spans.specs.Records.{spans_of}
use Rattle.spans.specs.declared.records.Records.{Records}
use Rattle.fragment_rules.specs.declared.Parting.{Parting}
use lib.ListN.{length, replicate}
use mathlib.Core.Bool.{Bool}
use mathlib.Core.Path.{◌≡◌, sym, ap, ◌∙◌}
use Prim.Native.Nat.{ℕ}
use Rattle.fragment_columns.proofs.lay_ranges.Goals as goal

-- the test of the code, by how many records there are
owning_by : (p : Parting) (s : Records) {n : ℕ} {t : Bool} → n ≡ length s.starts.now → t ≡ owning p n → owning p (length (spans_of s)) ≡ t
owning_by p s e o = ap (owning p) (count_of s ∙ sym e) ∙ sym o

pub put_ranges-requires : goal.put_ranges-requires
put_ranges-requires c =
    let a = c.args in
    let h = c.requires in
    let rs = spans_of a.records in
    let o = owning_by a.rule.0 a.records c.len.ensures c.is_owning.ensures ∙ c.if-is_owning.true in
    fits_front rs a.from.now a.to.now (h.0 ∙ owning_count a.rule.0 a.base rs o) h.2 h.3

pub returns-then-is_owning : goal.returns-then-is_owning
returns-then-is_owning c =
    let a = c.args in
    let h = c.requires in
    let rs = spans_of a.records in
    let f = given a.rule.1 a.base in
    let o = owning_by a.rule.0 a.records c.len.ensures c.is_owning.ensures ∙ c.if-is_owning.true in
    rw o (fronts c.put_ranges.ensures (fits_front (owned f 0 rs) a.from.now a.to.now (h.0 ∙ owning_count a.rule.0 a.base rs o ∙ sym (length_owned f 0 rs)) h.2 h.3))

pub returns : goal.returns
returns c =
    let a = c.args in
    let h = c.requires in
    let rs = spans_of a.records in
    let bs = bases a.rule.0 a.base rs in
    let ps = all_given a.rule.1 a.base rs in
    let o = owning_by a.rule.0 a.records c.len.ensures c.is_owning.ensures ∙ c.if-is_owning.false in
    rw o (fronts_alike 0 a.counts.pieces h.0 (shared_starts (length ps) bs) (ap (replicate (length bs)) h.1 ∙ shared_stops ps bs) c.fill_both.ensures)
