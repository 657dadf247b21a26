-- `listing::cedarlash_list` meets its contract. Assumes nothing.
use Rattle.listing.proofs.Written.{told_written}
use Rattle.listing.proofs.cedarlash_list.Goals as goal

pub returns : goal.returns
returns c = told_written c.list_texts.ensures c.into.ensures
