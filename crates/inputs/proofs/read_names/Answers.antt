-- `inputs::read_names` meets its contract: it reads the list and checks its names. Assumes nothing.
use Rattle.inputs.proofs.Naming.{from_long, to_long, len_long, names_got}
use Rattle.inputs.proofs.read_names.Goals as goal

pub returns : goal.returns
returns c =
    (names_got _ _ _ _ _ _ _ _ c.requires.0 c.requires.1 c.requires.2 c.read_list-r.ensures c.rows_ahead-count.ensures c.check_verdict-checked.ensures c.verdict_at.ensures c.and.ensures, from_long _ _ _ _ _ _ _ _ c.requires.0 c.requires.1 c.requires.2 c.read_list-r.ensures, to_long _ _ _ _ _ _ _ _ c.requires.0 c.requires.1 c.requires.2 c.read_list-r.ensures, len_long _ _ _ _ _ _ _ _ c.requires.0 c.requires.1 c.requires.2 c.read_list-r.ensures)
