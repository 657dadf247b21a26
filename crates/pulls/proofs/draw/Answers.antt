-- `draw` meets its contract. The loop's invariant: what is left and what waits give the same pull as at its start; each turn leaves one row less.
use Rattle.std.proofs.Common.{◌≡◌, refl}
use Rattle.std.specs.Prelude.{Ok, Err}
use Rattle.heads.specs.declared.Move.TheVariants.{Stay, Takes}
use Rattle.pulls.proofs.Pulling.{stay_out, wrong_out, takes_full, takes_stay, takes_place, takes_less, takes_again}
use Rattle.pulls.proofs.draw.Goals as goal

pub returns-in-Ok-Stay : goal.returns-in-Ok-Stay
returns-in-Ok-Stay c =
    let e : c.decide.result ≡ Ok (Stay c.in-Ok-Stay.least) = cc in
    record { drawn = stay_out _ _ _ _ _ _ _ _ _ c.loop-least.invariant _ c.decide.ensures _ e _ _ c.report-answer.ensures; ranges = c.loop-least.invariant.ranges }

pub returns-in-Err : goal.returns-in-Err
returns-in-Err c =
    let e : c.decide.result ≡ Err c.in-Err.e = cc in
    record { drawn = wrong_out _ _ _ _ _ _ _ _ _ c.loop-least.invariant _ c.decide.ensures _ e; ranges = c.loop-least.invariant.ranges }

pub go_on-requires : goal.go_on-requires
go_on-requires c =
    let e : c.decide.result ≡ Ok (Takes c.in-Ok-Takes.t c.in-Ok-Takes.next) = cc in
    takes_place _ _ _ _ _ _ _ _ _ c.loop-least.invariant _ c.decide.ensures _ _ e _ refl

pub returns-in_default : goal.returns-in_default
returns-in_default c =
    let e : c.decide.result ≡ Ok (Takes c.in-Ok-Takes.t c.in-Ok-Takes.next) = cc in
    record {
      drawn = takes_full _ _ _ _ _ _ _ _ _ c.loop-least.invariant _ c.decide.ensures _ _ e _ (c.keep.ensures.full c.in_default.is);
      ranges = takes_stay _ _ _ _ _ _ _ _ _ c.loop-least.invariant _ c.decide.ensures _ _ e _ refl _ c.go_on.ensures;
    }

pub loop-least-smaller : goal.loop-least-smaller
loop-least-smaller c =
    let e : c.decide.result ≡ Ok (Takes c.in-Ok-Takes.t c.in-Ok-Takes.next) = cc in
    takes_less _ _ _ _ _ _ _ _ _ c.loop-least.invariant _ c.decide.ensures _ _ e _ refl _ c.go_on.ensures

pub loop-least-preserved : goal.loop-least-preserved
loop-least-preserved c =
    let e : c.decide.result ≡ Ok (Takes c.in-Ok-Takes.t c.in-Ok-Takes.next) = cc in
    takes_again _ _ _ _ _ _ _ _ _ c.loop-least.invariant _ c.decide.ensures _ _ e _ refl _ c.go_on.ensures _ _ (c.keep.ensures.done _ c.in-Some.is)
