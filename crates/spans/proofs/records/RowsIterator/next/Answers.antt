-- `Rows::next` gives the first of the records that are left. Assumes nothing.
use Rattle.spans.specs.Spans.{spans}
use lib.ListN.{length}
use mathlib.Core.List.{List, [], ◌∷◌, zip_with}
use mathlib.Core.Path.{◌≡◌, refl, ap}
use native.Mathlib.Omega.{arith}
use borrow.Author.Rules.{rules}
use Prim.Native.Nat.{ℕ}
use Rattle.spans.proofs.records.RowsIterator.next.Goals as goal

none_left : (ss es : List ℕ) → length ss ≡ 0 → spans ss es ≡ []
unfolding zip_with
none_left [] es h = refl
none_left (s ∷ ss) es h = absurd (omega arith)

pub returns-in_err-start-clause-steps : goal.returns-in_err-start-clause-steps
returns-in_err-start-clause-steps c =
    let s = c.args.self.now.left in
    let none = none_left s.starts.now s.stops.now c.in_err-start.ensures.cases in
    rw c.from_residual.ensures (none, none)

pub returns-clause-steps : goal.returns-clause-steps
unfolding zip_with
returns-clause-steps c = rw (c.in_ok-start.ensures.cases.0, c.in_ok-stop.ensures.cases.0)

pub returns-clause-goes : goal.returns-clause-goes
returns-clause-goes c =
    let e = ap length (returns-clause-steps c) in
    search rules
