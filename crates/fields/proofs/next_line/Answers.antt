-- `fields::next_line` meets its contract: the first LF from the place on ends the line. Assumes nothing.
use Rattle.fields.proofs.Scan.{line_found, line_whole}
use Rattle.fields.proofs.next_line.Goals as goal

pub returns-in-Some : goal.returns-in-Some
returns-in-Some c = line_found c.args.text.now c.args.from c.requires c.in-Some.i c.in-Some.ensures

pub returns-in-None : goal.returns-in-None
returns-in-None c = line_whole c.args.text.now c.args.from c.requires c.in-None.ensures
