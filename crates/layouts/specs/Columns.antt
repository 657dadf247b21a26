-- How a layout stands in the lent columns, and how a caller reads the fragments back.
use Rattle.std.specs.Prelude.{ℕ, zero, suc, length, take, drop}
use mathlib.Core.List.{List, ◌++◌, map, zip_with}
use Rattle.std.proofs.Math.Option.{Option, none, some}
use Rattle.spans.specs.declared.Span.{Span}
use Rattle.spans.specs.Spans.{spans}
use Rattle.layouts.specs.Fragments.{Fragment}
use Rattle.layouts.specs.Layout.{Layout, held}

-- the starts of spans, and their stops
abbrev pub starts_of : List Span → List ℕ
starts_of xs = map (λ (x : Span). x.start) xs

abbrev pub stops_of : List Span → List ℕ
stops_of xs = map (λ (x : Span). x.stop) xs

-- values in front, and behind them what stood there
abbrev pub over : List ℕ → List ℕ → List ℕ
over vs old = vs ++ drop (length vs) old

-- a base part in its three columns: 1 and its start and stop where it is present, three times 0 where it is absent
abbrev pub mark : Option Span → ℕ
mark none = 0
mark (some x) = 1

abbrev pub part_start : Option Span → ℕ
part_start none = 0
part_start (some x) = x.start

abbrev pub part_stop : Option Span → ℕ
part_stop none = 0
part_stop (some x) = x.stop

abbrev pub part : ℕ → Span → Option Span
part zero x = none
part (suc k) x = some x

-- the seven columns that are written: of the fragments, and of the pieces
pub record Columns : Type 0 where
  pub present : List ℕ
  pub bstart : List ℕ
  pub bstop : List ℕ
  pub from : List ℕ
  pub to : List ℕ
  pub pstart : List ℕ
  pub pstop : List ℕ

-- a layout in the columns, and behind it what stood there
abbrev pub holding : Layout → Columns → Columns
holding l c =
    record {
      present = over (map mark l.bases) c.present;
      bstart = over (map part_start l.bases) c.bstart;
      bstop = over (map part_stop l.bases) c.bstop;
      from = over (starts_of l.ranges) c.from;
      to = over (stops_of l.ranges) c.to;
      pstart = over (starts_of l.pieces) c.pstart;
      pstop = over (stops_of l.pieces) c.pstop;
    }

-- how a caller reads the first n fragments back from the columns
abbrev pub read_back : ℕ → Columns → List Fragment
read_back n c = take n (held (zip_with part c.present (spans c.bstart c.bstop)) (spans c.from c.to) (spans c.pstart c.pstop))

abbrev pub columns : List ℕ → List ℕ → List ℕ → List ℕ → List ℕ → List ℕ → List ℕ → Columns
columns present bstart bstop from to pstart pstop =
    record { present = present; bstart = bstart; bstop = bstop; from = from; to = to; pstart = pstart; pstop = pstop }
