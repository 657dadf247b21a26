-- `fragment_columns::lay` meets its contract: each group of columns by its own function. Assumes nothing.
use Rattle.fragment_columns.proofs.Parts.{laid, marks}
use Rattle.span_columns.proofs.Writing.{over_replicate}
use Rattle.layouts.specs.Layout.{layout}
use Rattle.layouts.specs.Columns.{columns, over}
use Rattle.layouts.specs.Given.{mark_of}
use Rattle.spans.specs.Records.{spans_of}
use lib.ListN.{replicate, drop}
use borrow.Author.Rules.{rules}
use mathlib.Core.List.{List, ◌++◌}
use mathlib.Core.Path.{◌≡◌, ap, ◌∙◌}
use Prim.Native.Nat.{ℕ}
use Rattle.fragment_columns.proofs.lay.Goals as goal

pub returns : goal.returns
returns c =
    let a = c.args in
    let n = a.counts.fragments in
    let h = c.requires in
    let rs = spans_of a.records in
    let marked : c.fill.new.self ≡ replicate n c.mark_of.result = search rules in
    laid (layout a.rule a.base rs)
    (columns a.present.now a.bstart.now a.bstop.now a.from.now a.to.now a.pstart.now a.pstop.now)
    (ap (λ (l : List ℕ). l ++ drop n a.present.now) marked ∙ over_replicate n c.mark_of.result a.present.now
    ∙ ap (λ (l : List ℕ). over l a.present.now) (ap (replicate n) c.mark_of.ensures ∙ ap (λ (k : ℕ). replicate k (mark_of a.rule.0)) h.fragments ∙ marks a.rule.0 a.base rs))
    c.lay_parts.ensures c.lay_ranges.ensures c.lay_pieces.ensures
