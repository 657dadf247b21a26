-- `replies::list_base` meets its contract: what the call of the sweep left gives the lines of the reply. Assumes nothing.
use Rattle.replies.proofs.Replying.{reply_lists}
use Rattle.replies.proofs.list_base.Goals as goal

pub returns : goal.returns
returns c =
    reply_lists c.give-given.ensures c.args.entry.name.now c.args.entry.row c.args.out.now c.args.at _ c.put_answer.ensures
