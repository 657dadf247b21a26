-- `rows::stop_at` meets its contract: the line is a row. Assumes nothing.
use Rattle.std.proofs.Common.{sym, ◌∙◌, refl}
use Rattle.rows.proofs.Fields.{row_whole}
use Rattle.rows.proofs.stop_at.Goals as goal

pub returns : goal.returns
returns c =
    row_whole (λ _. c.args.name.chrom) c.requires.0 c.requires.1 c.requires.2 c.requires.3 (sym c.number_at.ensures ∙ c.in_ok-stop.was) _ c.next_line.ensures.0 refl
