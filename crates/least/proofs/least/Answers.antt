-- `least` meets its contract: the head of the stream that was chosen.
use Rattle.std.proofs.Common.{sym, ◌∙◌, ap, arith}
use Rattle.std.specs.Prelude.{Some}
use Rattle.least.proofs.LeastLaws.{LeastAt, least_at, least_none}
use Rattle.least.proofs.least.Goals as goal

pub returns-in_err-k : goal.returns-in_err-k
returns-in_err-k c = c.from_residual.ensures ∙ least_none c.args.fours.now c.args.ended.now c.args.n (sym c.in_err-k.was ∙ c.choose.ensures)

pub offset_bounds-fours-at : goal.offset_bounds-fours-at
offset_bounds-fours-at c =
    let w : LeastAt c.args.fours.now c.args.ended.now c.args.n c.in_ok-k.k = least_at c.args.fours.now c.args.ended.now c.args.n c.in_ok-k.k c.in_ok-k.ensures in
    omega (arith, w.inside)

pub bounds-fours-at : goal.bounds-fours-at
bounds-fours-at c =
    let w : LeastAt c.args.fours.now c.args.ended.now c.args.n c.in_ok-k.k = least_at c.args.fours.now c.args.ended.now c.args.n c.in_ok-k.k c.in_ok-k.ensures in
    w.inside

pub returns : goal.returns
returns c =
    let w : LeastAt c.args.fours.now c.args.ended.now c.args.n c.in_ok-k.k = least_at c.args.fours.now c.args.ended.now c.args.n c.in_ok-k.k c.in_ok-k.ensures in
    ap Some c.best_at.ensures ∙ w.is
