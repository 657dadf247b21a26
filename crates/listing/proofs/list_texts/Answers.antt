-- `listing::list_texts` meets its contract: the texts are read, and a fault or the bases are listed. Assumes nothing.
use Rattle.walk.proofs.FineLaws.{fine_read}
use Rattle.listing.proofs.Written.{reads_fault}
use Rattle.listing.proofs.list_texts.Goals as goal

pub list_run-requires : goal.list_run-requires
list_run-requires c = fine_read c.in-Ok.ensures

pub returns-in-Err : goal.returns-in-Err
returns-in-Err c = reads_fault c.in-Err.ensures c.number.ensures c.text.ensures c.ahead.ensures c.put_fault.ensures c.ok_or.ensures.value
