-- `rows::row_at` meets its contract: only the number of its own name counts. Assumes nothing.
use Rattle.rows.proofs.Fields.{row_named_lem}
use Rattle.rows.proofs.row_at.Goals as goal

pub returns-in-Some-eq9 : goal.returns-in-Some-eq9
returns-in-Some-eq9 c = row_named_lem _ _ c.name_at-name.ensures c.start_at.ensures
