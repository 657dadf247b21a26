use Rattle.heads.specs.View.{cols_of, heads_in}
use Rattle.pulls.specs.Pulls.{lent}
use Rattle.pulls.proofs.Pulling.{Pulling, rows_left}
use Rattle.pulls.proofs.draw.Given as goal

abbrev pub invariant-loop-least : goal.invariant-loop-least
invariant-loop-least l =
    Pulling (cols_of l.s) l.chroms (heads_in l.initial.heads) l.b l.initial.q (lent l.initial.queue l.initial.answers) (heads_in l.heads) l.q (lent l.queue l.answers)

abbrev pub decreases-loop-least : goal.decreases-loop-least
decreases-loop-least l =
    rows_left (cols_of l.s) l.chroms (heads_in l.initial.heads) l.b l.initial.q (lent l.initial.queue l.initial.answers) (heads_in l.heads)
