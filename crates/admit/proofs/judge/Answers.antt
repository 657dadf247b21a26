-- `judge`: the length that is read is the one of the rules.
use native.Mathlib.Omega.{arith}
use lib.ListN.{length, get_or}
use borrow.Author.Tests.{lt-leb, lt-ltb, le-ltb}
use Rattle.std.proofs.lemmas.Grind.{common_steps}
use Rattle.admit.specs.Gates.{last_of}
use Rattle.admit.proofs.JudgeLaws.{judge_by}
use Rattle.admit.proofs.judge.Goals as goal

pub returns-then-length-b : goal.returns-then-length-b
returns-then-length-b c =
    let a = c.args in
    let here = c.in-Some.ensures.lookup.3 in
    rw (judge_by a.lengths.now (last_of a.stage) a.b (omega arith), lt-leb (length a.lengths.now) a.b.chrom.0 (omega (arith, here.0)), le-ltb a.b.stop a.b.start (omega arith), lt-ltb (get_or a.lengths.now a.b.chrom.0 0) a.b.stop (omega (arith, here.1 0)))

pub returns-then-not-follows : goal.returns-then-not-follows
returns-then-not-follows c = grind (arith, common_steps, judge_by, c.in-Some.ensures.lookup.3.1 0)
