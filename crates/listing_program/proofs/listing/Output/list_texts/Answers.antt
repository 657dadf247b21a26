-- `listing_program::listing::list_texts` meets its contract: nothing is wrong where the answer says so. Assumes nothing.
use Rattle.walk.proofs.FineLaws.{fine_read}
use Rattle.listing_program.proofs.listing.Output.list_texts.Goals as goal

pub list_read-requires : goal.list_read-requires
list_read-requires g c = fine_read c.in-Ok.ensures
