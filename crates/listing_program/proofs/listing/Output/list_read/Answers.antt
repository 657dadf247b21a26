-- `listing_program::listing::list_read` meets its contract: the tables hold what its calls ask for. Assumes nothing.
use Rattle.walk.proofs.FineLaws.{stands_bases}
use Rattle.listing_program.proofs.listing.Output.list_read.Goals as goal

pub list_bases-requires : goal.list_bases-requires
list_bases-requires g c = stands_bases c.requires c.tables-tables.ensures
