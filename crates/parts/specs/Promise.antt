-- What a call of `fragments` promises, for all that it may be given.
use Rattle.std.specs.Prelude.{ℕ, ◌≡◌, List, length, Result, Ok, Err}
use Rattle.spans.specs.declared.Span.{Span}
use Rattle.fragment_rules.specs.declared.Choice.{Choice}
use Rattle.layouts.specs.declared.Refusal.{Refusal}
use Rattle.layouts.specs.declared.Refusal.TheVariants.{Sizes}
use Rattle.layouts.specs.declared.Written.{Written}
use Rattle.spans.specs.Spans.{spans}
use Rattle.layouts.specs.Fragments.{fragments}
use Rattle.fragment_rules.specs.Rules.{rule_of}
use Rattle.layouts.specs.Layout.{Layout, layout}
use Rattle.layouts.specs.Columns.{Columns, holding, read_back}
use Rattle.parts.specs.Valid.{sized_of}
use Rattle.layouts.specs.Judged.{unless, wrote, judged}

-- "1 is first; a base with start > stop is 6; then 13, then 14."
abbrev pub answered : Choice → Choice → Span → List ℕ → List ℕ → Columns → Result Written Refusal
answered a b base starts stops c =
    unless (sized_of starts stops c) Sizes (judged (rule_of a b) base (spans starts stops) (length c.present) (length c.pstart))

-- the columns afterwards: the layout in front where it is written, and unchanged at a refusal, "nothing written"
abbrev pub left_by : Result Written Refusal → Layout → Columns → Columns
left_by (Ok w) l c = holding l c
left_by (Err x) l c = c

-- the answer and the columns are these, and what a caller reads back are the fragments of the scope document
pub record Parted (a b : Choice) (base : Span) (starts stops : List ℕ) (c : Columns) (r : Result Written Refusal) (c' : Columns) : Type 0 where
  pub answer_is : r ≡ answered a b base starts stops c
  pub columns_are : c' ≡ left_by r (layout (rule_of a b) base (spans starts stops)) c
  pub reads_back : (n m : ℕ) → r ≡ Ok (wrote n m) → read_back n c' ≡ fragments a b base (spans starts stops)
