-- `begin` meets its contract: no row, a row at fault, or a first head.
use Rattle.std.proofs.Common.{refl, sym, subst}
use Rattle.std.specs.Prelude.{Ok}
use Rattle.heads.specs.View.{Cols, Heads, cols_of, heads_in}
use Rattle.heads.specs.Load.{BeginsAs}
use Rattle.heads.proofs.LoadLaws.{begun_ends, begun_goes}
use Rattle.heads.proofs.Heads.begin.Goals as goal

pub returns-then-self-k : goal.returns-then-self-k
returns-then-self-k c =
    let sc : Cols = cols_of c.args.s in
    let hd : Heads = heads_in c.args.self.now in
    record {
      begun = subst (λ (g : Heads). BeginsAs sc c.args.n hd c.args.k (Ok tt) g) (sym c.go_on.ensures) (begun_ends sc c.args.n hd c.args.k c.if-self-k.true);
      ranges = rw c.go_on.ensures (record { streams = refl; from = refl; to = refl });
    }

pub returns : goal.returns
returns c =
    let sc : Cols = cols_of c.args.s in
    let hd : Heads = heads_in c.args.self.now in
    record {
      begun = subst (λ (g : Heads). BeginsAs sc c.args.n hd c.args.k (Ok tt) g) (sym c.go_on-2.ensures) (begun_goes sc c.args.n hd c.args.k c.if-self-k.false c.row-x.result c.check_first.result c.row-x.ensures c.check_first.ensures c.in_ok-check_first.was);
      ranges = rw c.go_on-2.ensures (record { streams = refl; from = refl; to = refl });
    }
