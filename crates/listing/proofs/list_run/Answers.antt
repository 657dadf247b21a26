-- `listing::list_run` meets its contract: the run begins, and its bases are listed. Assumes nothing.
use mathlib.Core.Path.{refl}
use native.Mathlib.Omega.{arith}
use Rattle.walk.proofs.FineLaws.{stands_bases, stands_from, stands_to}
use Rattle.listing.proofs.Listed.{tables_come, tables_listed}
use Rattle.listing.proofs.list_run.Goals as goal

pub begin-run-requires : goal.begin-run-requires
begin-run-requires c =
    let t = c.tables-tables.ensures in
    (omega (arith, stands_from c.requires t), omega (arith, stands_to c.requires t))

pub list_bases-requires : goal.list_bases-requires
list_bases-requires c =
    let t = c.tables-tables.ensures in
    (stands_bases c.requires t, tables_come c.args.texts.bytes.now c.args.texts.ends.now c.requires t c.begin-run.ensures _ refl, refl)

pub returns : goal.returns
returns c =
    tables_listed c.args.texts.bytes.now c.args.texts.ends.now c.requires c.tables-tables.ensures c.begin-run.ensures _ c.list_bases.ensures
