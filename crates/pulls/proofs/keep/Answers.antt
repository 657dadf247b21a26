-- `keep` meets its contract: a record is dropped or queued.
use borrow.Author.Tests.{not-false}
use Rattle.pulls.proofs.Keeping.{keeps_queued}
use Rattle.pulls.proofs.keep.Goals as goal

pub returns : goal.returns
returns c = keeps_queued _ _ _ _ _ (not-false _ c.if-not-t.false) c.push.ensures
