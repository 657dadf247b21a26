use Rattle.heads.specs.View.{cols_of, heads_in}
use Rattle.heads.proofs.LoadLaws.{Loading}
use Rattle.heads.proofs.Heads.load.Given as goal

abbrev pub invariant-loop-k : goal.invariant-loop-k
invariant-loop-k l = Loading (cols_of l.s) l.n (heads_in l.initial.self) (heads_in l.self) l.k
