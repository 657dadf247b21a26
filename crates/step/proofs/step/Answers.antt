-- `step` meets its contract, from what the judgement, the loading and the pull say.
use Rattle.std.proofs.Common.{refl, ap, ◌∙◌}
use Rattle.rules.specs.declared.Stage.{Stage}
use Rattle.rules.specs.Bases.{judge}
use Rattle.admit.specs.Gates.{lengths_of, last_of, judged_of}
use Rattle.heads.specs.View.{Cols, Heads, cols_of, heads_in}
use Rattle.heads.proofs.LoadLaws.{stays_on}
use Rattle.pulls.specs.Pulls.{Lent, lent}
use Rattle.step.proofs.Stepping.{refuses, loadable, faults, may_settle, steps_so}
use Rattle.step.proofs.step.Goals as goal

pub returns-in-Err : goal.returns-in-Err
returns-in-Err c =
    let sc : Cols = cols_of c.args.s in
    let hs : Heads = heads_in c.args.heads.now in
    let le : Lent = lent c.args.queue.now c.args.answers.now in
    record {
      steps = refuses sc c.args.lengths.now hs c.args.at c.args.b le c.requires c.judge.result (c.judge.ensures ∙ ap (λ (t : Stage). judged_of (judge (lengths_of c.args.lengths.now) (last_of t) c.args.b)) c.from-stage.ensures) _ c.in-Err.is;
      ranges = record { streams = refl; from = refl; to = refl };
    }

pub opened-requires : goal.opened-requires
opened-requires c =
    let sc : Cols = cols_of c.args.s in
    let hs : Heads = heads_in c.args.heads.now in
    let le : Lent = lent c.args.queue.now c.args.answers.now in
    loadable sc c.args.lengths.now hs c.args.at c.args.b le c.requires c.judge.result (c.judge.ensures ∙ ap (λ (t : Stage). judged_of (judge (lengths_of c.args.lengths.now) (last_of t) c.args.b)) c.from-stage.ensures) c.in_default.is

pub returns-in-Err-opened : goal.returns-in-Err-opened
returns-in-Err-opened c =
    let sc : Cols = cols_of c.args.s in
    let hs : Heads = heads_in c.args.heads.now in
    let le : Lent = lent c.args.queue.now c.args.answers.now in
    record { steps = faults sc c.args.lengths.now hs c.args.at c.args.b le c.requires c.judge.result (c.judge.ensures ∙ ap (λ (t : Stage). judged_of (judge (lengths_of c.args.lengths.now) (last_of t) c.args.b)) c.from-stage.ensures) c.in_default.is c.opened.result _ (rw c.from-stage.ensures at c.opened.ensures.opens) _ c.in-Err-opened.is; ranges = c.opened.ensures.ranges }

pub settle-requires : goal.settle-requires
settle-requires c =
    let sc : Cols = cols_of c.args.s in
    let hs : Heads = heads_in c.args.heads.now in
    let le : Lent = lent c.args.queue.now c.args.answers.now in
    may_settle sc c.args.lengths.now hs c.args.at c.args.b le c.requires c.judge.result (c.judge.ensures ∙ ap (λ (t : Stage). judged_of (judge (lengths_of c.args.lengths.now) (last_of t) c.args.b)) c.from-stage.ensures) c.in_default.is c.opened.result _ (rw c.from-stage.ensures at c.opened.ensures.opens) c.in_default-opened.is

pub returns : goal.returns
returns c =
    let sc : Cols = cols_of c.args.s in
    let hs : Heads = heads_in c.args.heads.now in
    let le : Lent = lent c.args.queue.now c.args.answers.now in
    record { steps = steps_so sc c.args.lengths.now hs c.args.at c.args.b le c.requires c.judge.result (c.judge.ensures ∙ ap (λ (t : Stage). judged_of (judge (lengths_of c.args.lengths.now) (last_of t) c.args.b)) c.from-stage.ensures) c.in_default.is c.opened.result _ (rw c.from-stage.ensures at c.opened.ensures.opens) c.in_default-opened.is _ _ _ c.settle.ensures.settled; ranges = stays_on c.opened.ensures.ranges c.settle.ensures.ranges }
