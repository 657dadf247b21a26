-- `settle` meets its contract, from what the clearing and the pull say.
use Rattle.heads.specs.View.{cols_of, heads_in}
use Rattle.pulls.specs.Pulls.{lent}
use Rattle.pulls.proofs.Clearing.{drawable, settles_so}
use Rattle.pulls.proofs.settle.Goals as goal

pub draw-requires : goal.draw-requires
draw-requires c =
    drawable (cols_of c.args.s) c.args.chroms (heads_in c.args.heads.now) c.args.b c.args.ring (lent c.args.queue.now c.args.answers.now) c.requires _ _ c.clear-live.ensures

pub returns : goal.returns
returns c =
    record { settled = settles_so (cols_of c.args.s) c.args.chroms (heads_in c.args.heads.now) c.args.b c.args.ring (lent c.args.queue.now c.args.answers.now) c.requires _ _ c.clear-live.ensures _ _ _ c.draw.ensures.drawn; ranges = c.draw.ensures.ranges }
