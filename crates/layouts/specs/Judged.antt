-- Which calls with columns of one length are refused, in the order of the scope document: 6, then 13, then 14.
use Rattle.std.specs.Prelude.{ℕ, List, [], ◌∷◌, Bool, true, false, ◌&&◌, length, leb, Result, Ok, Err}
use Rattle.spans.specs.declared.Span.{Span}
use Rattle.fragment_rules.specs.declared.Rule.{Rule}
use Rattle.layouts.specs.declared.Refusal.{Refusal}
use Rattle.layouts.specs.declared.Refusal.TheVariants.{Backwards, Records, Room}
use Rattle.layouts.specs.declared.Written.{Written}
use Rattle.spans.specs.Fitting.{fitting}
use Rattle.layouts.specs.Layout.{layout}

-- every record fits the base and the record ahead of it
unfoldable pub all_fitting : Span → ℕ → List Span → Bool
all_fitting base ahead [] = true
all_fitting base ahead (r ∷ rs) = fitting base ahead r && all_fitting base r.start rs

-- so many fragments and so many pieces
abbrev pub wrote : ℕ → ℕ → Written
wrote n m = record { fragments = n; pieces = m }

abbrev pub unless : Bool → Refusal → Result Written Refusal → Result Written Refusal
unless true x a = a
unless false x a = Err x

-- the answer at a rule, a base and records, with so many fragment slots and piece slots lent; nothing starts before 0
abbrev pub judged : Rule → Span → List Span → ℕ → ℕ → Result Written Refusal
judged rule base rs slots room =
    unless (leb base.start base.stop) Backwards
    (unless (all_fitting base 0 rs) Records
    (unless (leb (length (layout rule base rs).bases) slots && leb (length (layout rule base rs).pieces) room) Room
    (Ok (wrote (length (layout rule base rs).bases) (length (layout rule base rs).pieces)))))
