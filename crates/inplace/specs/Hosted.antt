-- A host's calls on a run that it keeps in place: what it sees of them, and that this is what came of the bases one by one.
use Rattle.std.specs.Prelude.{◌≡◌, List, [], ◌∷◌, ◌++◌, map, ℕ, take}
use Rattle.basics.specs.Build.{build}
use Rattle.rules.specs.declared.Base.{Base}
use Rattle.std.specs.Prelude.{Option}
use Rattle.rules.specs.declared.Answer.{Answer}
use Rattle.heads.specs.View.{Cols}
use Rattle.queue.specs.Ring.{Cells}
use Rattle.pulls.specs.Pulls.{Lent, lent}
use Rattle.runs.specs.declared.Run.{Run}
use Rattle.demands.specs.Calls.{Came, count_in, all_rows, last_offer}
use Rattle.many.specs.Many.{base_at, Even}
use Rattle.many.specs.Chain.{Stopped}
use Rattle.inplace.specs.declared.Swept.{Swept}
use Rattle.inplace.specs.Told.{offered_of, stopped_of}
use Rattle.inplace.specs.Calls.{GivesInPlace}

-- what a host sees of a call: the bases that it gave, in columns, what it was told, and the counts and the answer rows afterwards
pub record Seen : Type 0 where
  pub bases : Cols
  pub told : Swept
  pub counts : List ℕ
  pub rows : List (List ℕ)

-- calls one after the other on a run and the queue's memory, each with answer rows and counts of its own; where the columns of the bases differ in length,
-- nothing is given
pub data Hosted (s : Cols) (lengths : List ℕ) : Run → Cells → List Seen → Run → Cells → Type 0 where
  none : {r : Run} {c : Cells} → Hosted s lengths r c [] r c
  gave : {r v : Run} {c d : Cells} {xs : List Seen} (t : Cols) (answers : List (List ℕ)) (ns : List ℕ) (a : Swept) (r' : Run) (l' : Lent) (ns' : List ℕ)
      → GivesInPlace s lengths t r (lent c answers) ns a r' l' ns' → Even t ns → Hosted s lengths r' l'.cells xs v d
      → Hosted s lengths r c (record { bases = t; told = a; counts = ns'; rows = l'.answers } ∷ xs) v d
  uneven : {r v : Run} {c d : Cells} {xs : List Seen} (t : Cols) (answers : List (List ℕ)) (ns : List ℕ) (a : Swept) (r' : Run) (l' : Lent) (ns' : List ℕ)
      → GivesInPlace s lengths t r (lent c answers) ns a r' l' ns' → (Even t ns → ⊥) → Hosted s lengths r' l'.cells xs v d
      → Hosted s lengths r c xs v d

-- what was seen of one call is what came of the bases bs: of the answered ones, whose counts, rows and last offer it shows, and of the one that stopped them,
-- if that was given
pub record Sees (x : Seen) (bs : List Base) (os : List Came) : Type 0 where
  pub answered : List Came
  pub more : List Base
  pub last : List Came
  pub answer : Option Answer
  pub bases : bs ≡ build (base_at x.bases) x.told.bases 0 ++ more
  pub came : os ≡ answered ++ last
  pub counts : take x.told.bases x.counts ≡ map (λ (o : Came). count_in o.answer) answered
  pub rows : take x.told.records x.rows ≡ all_rows answered
  pub offer : x.told.offer ≡ offered_of (last_offer answered)
  pub stopped : Stopped (base_at x.bases x.told.bases) answer more last
  pub told : x.told.last ≡ stopped_of answer

-- and of several
pub data Tells : List Seen → List Base → List Came → Type 0 where
  none : Tells [] [] []
  one : {x : Seen} {xs : List Seen} {bs cs : List Base} {os us : List Came} → Sees x bs os → Tells xs cs us → Tells (x ∷ xs) (bs ++ cs) (os ++ us)
