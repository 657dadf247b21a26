-- The lines of the answer rows, one after the other: those that are left give the same.
use Prim.Native.Nat.{ℕ, ◌+◌, ◌-◌, ◌≤◌, ◌<◌}
use mathlib.Core.Path.{◌≡◌, ◌∙◌}
use mathlib.Core.List.{List}
use native.Mathlib.Omega.{arith}
use lib.ListN.{length, get_or}
use Rattle.basics.specs.Build.{build}
use Rattle.basics.proofs.BuildLaws.{build_front, build_none}
use Rattle.std.specs.Prelude.{Option, Some, Result, Ok, Err, ok_or}
use Rattle.lines.specs.declared.Cut.{Cut}
use Rattle.lines.specs.Lines.{line_r}
use Rattle.lines.specs.Put.{Puts}
use Rattle.lines.specs.Laid.{Lays}
use Rattle.lines.proofs.Putting.{puts_length, puts_inside}
use Rattle.lines.proofs.LaidLaws.{lays_none, lays_more, put_fits, lays_cut}
use Rattle.replies.specs.Lines.{row_line}
use Rattle.replies.specs.Source.{Source, line_at, row_lines}

-- a record's line, by the values that were read
pub record_put : {old new : List ℕ} {at first begins ends : ℕ} {r : Option ℕ} (start stop from : List ℕ) (stream row : ℕ) → first ≡ get_or from stream 0 → begins ≡ get_or start (first + row) 0 → ends ≡ get_or stop (first + row) 0
    → Puts old at (line_r stream row begins ends) r new → Puts old at (row_line start stop from stream row) r new
record_put start stop from stream row f b e p = rw (← f, ← b, ← e) p

-- i lines stand, and the next goes to a place
pub record Writing (t : Source) (n : ℕ) (old : List ℕ) (at : ℕ) (out : List ℕ) (place i : ℕ) : Type 0 where
  pub few : i ≤ n
  pub kept : length out ≡ length old
  pub inside : place ≤ length out
  pub left : {r : Result ℕ Cut} {new : List ℕ} → Lays out place (build (line_at t) (n - i) i) r new → Lays old at (row_lines t n) r new

module _ {t : Source} {n : ℕ} {old : List ℕ} {at : ℕ} {out : List ℕ} {place i : ℕ} (w : Writing t n old at out place i) where
  pub writing_line : {p : ℕ} (c : Cut) {put : Option ℕ} {new : List ℕ} → i < n → Puts out place (line_at t i) put new → ok_or put c ≡ Ok p → Writing t n old at new p (i + 1)
  writing_line {p} c {put} {new} h v e =
      let fits : Puts out place (line_at t i) (Some p) new = rw (put_fits put c e) at v in
      record {
        few = omega arith;
        kept = puts_length (Some p) fits ∙ w.kept;
        inside = puts_inside fits;
        left = λ u. w.left (rw (build_front (line_at t) n i h) (lays_more (build (line_at t) (n - (i + 1)) (i + 1)) fits u));
      }

  -- one that doesn't fit
  pub writing_full : {c : Cut} {put : Option ℕ} {new : List ℕ} → i < n → Puts out place (line_at t i) put new → ok_or put (record { 0 = place }) ≡ Err c → Lays old at (row_lines t n) (Err c) new
  writing_full {c} {put} h v e =
      w.left (rw (build_front (line_at t) n i h) (lays_cut put (build (line_at t) (n - (i + 1)) (i + 1)) w.inside v e))

  pub writing_done : n ≤ i → Lays old at (row_lines t n) (Ok place) out
  writing_done h = w.left (rw (build_none (line_at t) n i h) (lays_none out place w.inside))
