-- "any two results allowed by a statement are equal": of two calls for the same bases, all that is told and all that is lent but for what docs/EXCEPTIONS.md
-- names of the run's queue, whose list of records is the same.
use Rattle.std.specs.Prelude.{◌≡◌, List, ℕ}
use Rattle.heads.specs.View.{Cols}
use Rattle.pulls.specs.Pulls.{Lent}
use Rattle.runs.specs.View.{run_of}
use Rattle.many.specs.declared.Passed.{Passed}

pub record AllAlike (s : Cols) (p : Passed) (l : Lent) (ns : List ℕ) (q : Passed) (m : Lent) (ms : List ℕ) : Type 0 where
  pub bases : p.bases ≡ q.bases
  pub records : p.records ≡ q.records
  pub offer : p.offer ≡ q.offer
  pub last : p.last ≡ q.last
  pub counts : ns ≡ ms
  pub answers : l.answers ≡ m.answers
  -- what the run and the queue's memory stand for, and the run's room
  pub run : run_of s l.cells p.run ≡ run_of s m.cells q.run
  pub room : p.run.settings.room ≡ q.run.settings.room
