-- `load` meets its contract. The loop's invariant: the heads are those of the streams passed, and none of these is at fault.
use Rattle.std.proofs.Common.{refl}
use Rattle.std.proofs.lemmas.Result.{err_from_is_err_and}
use Rattle.heads.specs.View.{cols_of, heads_in}
use Rattle.heads.proofs.LoadLaws.{Upto, load_starts, load_placed, load_stops, load_goes, load_ends, ranges_stay}
use Rattle.heads.proofs.Heads.load.Goals as goal

pub loop-k-init : goal.loop-k-init
loop-k-init c = load_starts (cols_of c.args.s) (heads_in c.args.self.now) c.requires.shaped c.requires.placed c.args.n

pub begin-requires : goal.begin-requires
begin-requires c =
    let u : Upto (cols_of c.args.s) (heads_in c.args.self.now) (heads_in c.loop-k.self) c.loop-k.k = load_placed (cols_of c.args.s) (heads_in c.args.self.now) c.requires.shaped c.requires.placed c.args.n _ _ c.loop-k.invariant in
    (u.placed, rw u.streams c.loop-k-test.true)

pub returns-in_err-begin : goal.returns-in_err-begin
returns-in_err-begin c =
    let p = err_from_is_err_and c.from_residual.result c.from_residual.ensures.1 in
    record {
      loaded = rw (p.1, p.2) (load_stops (cols_of c.args.s) (heads_in c.args.self.now) c.requires.shaped c.requires.placed c.args.n _ _ c.loop-k.invariant c.loop-k-test.true _ _ c.begin.ensures.begun _ _ c.in_err-begin.was);
      ranges = ranges_stay (cols_of c.args.s) (heads_in c.args.self.now) c.requires.shaped c.requires.placed c.args.n _ _ _ c.loop-k.invariant c.begin.ensures.ranges;
    }

pub loop-k-preserved : goal.loop-k-preserved
loop-k-preserved c =
    load_goes (cols_of c.args.s) (heads_in c.args.self.now) c.requires.shaped c.requires.placed c.args.n _ _ c.loop-k.invariant c.loop-k-test.true _ _ c.begin.ensures.begun c.in_ok-begin.was

pub returns : goal.returns
returns c =
    record {
      loaded = load_ends (cols_of c.args.s) (heads_in c.args.self.now) c.requires.shaped c.requires.placed c.args.n _ _ c.loop-k.invariant c.loop-k-test.false;
      ranges = ranges_stay (cols_of c.args.s) (heads_in c.args.self.now) c.requires.shaped c.requires.placed c.args.n _ _ _ c.loop-k.invariant (record { streams = refl; from = refl; to = refl });
    }
