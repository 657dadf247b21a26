-- `pass` meets its contract. The loop's invariant: the bases so far were answered, each as by the call for one base, and 1 is not due at the next.
use Rattle.std.proofs.Common.{refl, arith}
use borrow.Author.Rules.{rules}
use Rattle.heads.specs.View.{cols_of}
use Rattle.heads.specs.Move.{Shaped}
use Rattle.pulls.specs.Pulls.{lent}
use Rattle.runs.specs.View.{heads_of}
use Rattle.many.proofs.Passing.{Job, begins, first_enough, none_left, too_few, over_out, refused_out, more_place, goes_on}
use Rattle.many.proofs.pass.Goals as goal
use Rattle.many.proofs.pass.Goals.{else-loop-k-test, then-loop-k-test+then-answers-free, then-loop-k-test+else-answers-free+in-Refused}

pub loop-k-init : goal.loop-k-init
loop-k-init c =
    let job : Job = record { s = cols_of c.args.s; lengths = c.args.lengths.now; t = cols_of c.args.bases; v = c.args.run; l = lent c.args.queue.now c.args.answers.now; ns = c.args.counts.now } in
    let shaped : Shaped (heads_of c.args.run) = search rules in
    record { passing = begins job c.requires shaped _ c.heads-heads.ensures.heads _ c.ring-ring.ensures; passed = refl; last = refl; first = λ e. first_enough job c.requires }

pub overflow_add-free : goal.overflow_add-free
overflow_add-free c =
    omega (arith, c.told-answers, more_place (record { passing = c.loop-k.invariant.passing; below = c.loop-k-test.true; enough = omega (arith, c.if-answers-free.false) }) c.base_at-b.ensures c.step-a.ensures.steps (omega (arith, c.step-a.auto)) (omega (arith, c.step-a.auto)) _ _ c.in-Found.is)

pub loop-k-preserved : goal.loop-k-preserved
loop-k-preserved c = record {
  passing = goes_on (record { passing = c.loop-k.invariant.passing; below = c.loop-k-test.true; enough = omega (arith, c.if-answers-free.false) }) c.base_at-b.ensures c.step-a.ensures.steps (omega (arith, c.step-a.auto)) (omega (arith, c.step-a.auto)) _ _ c.in-Found.is _ c.from-mark.ensures;
  passed = omega arith;
  last = c.loop-k.invariant.last;
  first = λ e. omega (arith, e);
}

pub returns-in-Ended : goal.returns-in-Ended
returns-in-Ended c =
    rw c.over.ensures (over_out (record { passing = c.loop-k.invariant.passing; below = c.loop-k-test.true; enough = omega (arith, c.if-answers-free.false) }) c.base_at-b.ensures c.step-a.ensures.steps _ c.in-Ended.is)

pub returns : goal.returns
returns c =
    elim c.loop-k-test.branch [
      | else-loop-k-test w ↦
          rw (c.of.ensures, w.heads-is, w.queue-is, w.answers-is, w.last-is, c.loop-k.invariant.last, c.loop-k.invariant.passed) (none_left c.loop-k.invariant.passing w.loop-k-test.false)
      | then-loop-k-test+then-answers-free w ↦
          rw (c.of.ensures, w.heads-is, w.queue-is, w.answers-is, w.last-is, c.loop-k.invariant.last, c.loop-k.invariant.passed)
          (too_few c.loop-k.invariant.passing c.loop-k.invariant.first w.loop-k-test.true (omega (arith, w.if-answers-free.true)))
      | then-loop-k-test+else-answers-free+in-Refused w ↦
          rw (c.of.ensures, w.heads-is, w.queue-is, w.answers-is, w.last-is, c.loop-k.invariant.passed)
          (refused_out (record { passing = c.loop-k.invariant.passing; below = w.loop-k-test.true; enough = omega (arith, w.if-answers-free.false) }) w.base_at-b.ensures w.step-a.ensures.steps _ w.in-Refused.is)
    ]
