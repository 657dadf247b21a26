use Rattle.listing.proofs.Telling.{Telling, Lengths}
use Rattle.listing.specs.Run.{lines_from}
use Rattle.pulls.specs.Pulls.{lent}
use Rattle.heads.specs.View.{cols_of}
use Rattle.fields.specs.Names.{listed}
use Rattle.listing.proofs.list_bases.Given as goal

abbrev pub invariant-loop-i : goal.invariant-loop-i
invariant-loop-i l = Telling (listed l.tables.names) l.tables.lengths.now (cols_of l.tables.bases) (cols_of l.tables.rows) l.n (lines_from (listed l.tables.names) l.tables.lengths.now (cols_of l.tables.bases) (cols_of l.tables.rows) l.n 0 l.initial.run l.initial.queue) l.initial.out l.i l.at l.run (lent l.queue l.answers) l.out × Lengths (lent l.initial.queue l.initial.answers) l.initial.out (lent l.queue l.answers) l.out
