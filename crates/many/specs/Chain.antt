-- A call for many bases is a chain of calls for one, and what it leaves in the counts and the answer rows is what those gave.
use Rattle.std.specs.Prelude.{◌≡◌, List, [], ◌∷◌, ◌++◌, map, ℕ, take}
use Rattle.basics.specs.Build.{build}
use Rattle.rules.specs.declared.Base.{Base}
use Rattle.std.specs.Prelude.{Option, Some, None}
use Rattle.rules.specs.declared.Refusal.TheVariants.{Sizes}
use Rattle.rules.specs.declared.Answer.{Answer}
use Rattle.rules.specs.declared.Answer.TheVariants as answer
use Rattle.heads.specs.View.{Cols}
use Rattle.pulls.specs.Pulls.{Lent}
use Rattle.runs.specs.declared.Run.{Run}
use Rattle.demands.specs.Calls.{Came, came, Calls, count_in, all_rows, last_offer}
use Rattle.many.specs.declared.Passed.{Passed}
use Rattle.many.specs.Many.{base_at, Unfound}

-- what became of b, the base behind the answered ones: nothing; it was refused by 1, and "a base refused by 1 counts there as not given"; it was given, and
-- got no records
pub data Stopped (b : Base) : Option Answer → List Base → List Came → Type 0 where
  gone : Stopped b None [] []
  uncounted : Stopped b (Some (answer.Refused Sizes)) [] []
  next : (a : Answer) (old new : List (List ℕ)) → Unfound a → Stopped b (Some a) (b ∷ []) (came a old new ∷ [])

-- of the bases t: what came of those that were answered, of the one that stopped them if it was given, and the calls that gave them all; the answered
-- ones' counts stand at the front of the counts, their rows, one behind the other, at the front of the answer rows, and the offer is that of the last of them
pub record Chain (s : Cols) (lengths : List ℕ) (t : Cols) (r : Run) (l : Lent) (p : Passed) (l' : Lent) (ns' : List ℕ) : Type 0 where
  pub os : List Came
  pub more : List Base
  pub last : List Came
  pub stopped : Stopped (base_at t p.bases) p.last more last
  pub calls : Calls s lengths r l.cells (build (base_at t) p.bases 0 ++ more) (os ++ last) p.run l'.cells
  pub counts : take p.bases ns' ≡ map (λ (o : Came). count_in o.answer) os
  pub rows : take p.records l'.answers ≡ all_rows os
  pub offer : p.offer ≡ last_offer os
