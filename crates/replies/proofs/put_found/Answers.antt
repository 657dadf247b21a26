-- `replies::put_found` meets its contract: one line, and the records' behind it. Assumes nothing.
use mathlib.Core.Path.{sym, ◌∙◌}
use Rattle.std.proofs.lemmas.Result.{err_from_is_err_and}
use Rattle.lines.proofs.LaidLaws.{lays_more, put_fits, lays_cut}
use Rattle.replies.proofs.put_found.Goals as goal

pub returns : goal.returns
returns c =
    lays_more _ (rw (put_fits c.put_b-put.result _ (sym c.ok_or.ensures.value ∙ c.in_ok-ok_or.was)) at c.put_b-put.ensures) c.put_records.ensures

pub returns-in_err-ok_or : goal.returns-in_err-ok_or
returns-in_err-ok_or c =
    let p = err_from_is_err_and c.from_residual.result c.from_residual.ensures.1 in
    rw (p.1, p.2) (lays_cut c.put_b-put.result _ c.requires.0 c.put_b-put.ensures (sym c.ok_or.ensures.value ∙ c.in_err-ok_or.was))
