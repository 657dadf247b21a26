-- `fields::field_end` meets its contract: the first tab or LF from the place on ends the field. Assumes nothing.
use Rattle.fields.proofs.Scan.{field_found, field_whole}
use Rattle.fields.proofs.field_end.Goals as goal

pub returns-in-Some : goal.returns-in-Some
returns-in-Some c = field_found c.args.text.now c.args.from c.requires c.in-Some.i c.in-Some.ensures

pub returns-in-None : goal.returns-in-None
returns-in-None c = field_whole c.args.text.now c.args.from c.requires c.in-None.ensures
