-- What the calls on a run kept in place say, for all inputs.
use Rattle.std.specs.Prelude.{◌≡◌, cond, ◌&&◌, List, [], ◌∷◌, ℕ, eqb, length, get_or, Result, Ok, Err}
use Rattle.rules.specs.declared.Base.{Base}
use Rattle.rules.specs.declared.Answer.{Answer}
use Rattle.rules.specs.declared.Settings.{Settings}
use Rattle.rules.specs.Numbers.{unbegun_number}
use Rattle.rules.specs.Call.{answer_of}
use Rattle.heads.specs.View.{Cols}
use Rattle.pulls.specs.Pulls.{Lent}
use Rattle.runs.specs.declared.Run.{Run}
use Rattle.rules.specs.declared.Unbegun.{Unbegun}
use Rattle.runs.specs.Start.{Plan, plan, start_of, kept_of}
use Rattle.runs.specs.Comes.{given_of}
use Rattle.step.specs.Give.{Gives}
use Rattle.many.specs.declared.Passed.{Passed}
use Rattle.many.specs.Many.{GivesAll}
use Rattle.inplace.specs.declared.Swept.{Swept}
use Rattle.inplace.specs.Told.{swept_of, alone_of}

-- ---- a run begins

-- the first eight numbers, with 0 for those that are not there
abbrev pub eight_of : List ℕ → List ℕ
eight_of l = get_or l 0 0 ∷ get_or l 1 0 ∷ get_or l 2 0 ∷ get_or l 3 0 ∷ get_or l 4 0 ∷ get_or l 5 0 ∷ get_or l 6 0 ∷ get_or l 7 0 ∷ []

-- "a range for each stream": none where the ranges' two columns are not as long as there are streams, which is 1
abbrev pub streams_in : ℕ → ℕ → ℕ → ℕ
streams_in n from to = cond (eqb from n && eqb to n) n 0

-- what a run is begun with, its ranges in two columns
abbrev pub plan_of : Settings → List ℕ → List ℕ → List ℕ → List ℕ → List ℕ → Cols → Plan
plan_of x from to text names_from names_to s =
    plan (record { streams = streams_in x.streams (length from) (length to); chroms = x.chroms; room = x.room }) (eight_of from) (eight_of to) text names_from names_to s

-- 0, or "At a start: 1, then 2."
abbrev pub begun_number : Result Run Unbegun → ℕ
begun_number (Ok r) = 0
begun_number (Err x) = unbegun_number x

-- the answer, and what is kept then: the run that begins, or the run of no streams
pub record BeginsInPlace (p : Plan) (n : ℕ) (r' : Run) : Type 0 where
  pub number : n ≡ begun_number (start_of p)
  pub run : r' ≡ kept_of (start_of p)

-- ---- bases are given one after the other

-- as the call by value says of the run that is kept before and after: what the bases came to in numbers, the run and all that was lent
pub record GivesInPlace (s : Cols) (lengths : List ℕ) (t : Cols) (r : Run) (l : Lent) (ns : List ℕ) (a : Swept) (r' : Run) (l' : Lent) (ns' : List ℕ) : Type 0 where
  pub passed : Passed
  pub told : a ≡ swept_of passed
  pub run : r' ≡ passed.run
  pub gives : GivesAll s lengths t r l ns passed l' ns'

-- ---- a base is given alone

-- what the base b gets of the run that is kept
abbrev pub answered : Cols → List ℕ → Run → Base → Lent → Answer
answered s lengths r b l = answer_of (given_of s lengths r b l).reply

-- "one call that gives a base": its answer in numbers, and the sweep's own promise of the run before and after
pub record GivesAlone (s : Cols) (lengths : List ℕ) (r : Run) (b : Base) (l : Lent) (a : Swept) (r' : Run) (l' : Lent) : Type 0 where
  pub told : a ≡ alone_of (answered s lengths r b l)
  pub gives : Gives s lengths r b l (record { run = r'; answer = answered s lengths r b l }) l'
