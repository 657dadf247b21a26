-- `Names::find_from` meets its contract: the names before the first one found are others. Assumes nothing.
use Rattle.std.proofs.Common.{◌∙◌}
use Rattle.fields.proofs.Naming.{sought_or}
use Rattle.fields.proofs.lists.Names.find_from.Goals as goal

pub returns : goal.returns
returns c = rw c.count.ensures at c.unwrap_or.ensures ∙ sought_or c.args.self.list c.args.first c.args.name.now c.args.self.inside c.requires c.found_from.result c.found_from.ensures
