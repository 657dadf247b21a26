-- The call that gives a base to a run: what it answers, the run and all that was lent after it, for all inputs.
use Rattle.std.specs.Prelude.{◌≡◌, List, ℕ}
use Rattle.rules.specs.declared.Base.{Base}
use Rattle.rules.specs.declared.End.{End}
use Rattle.rules.specs.declared.Refusal.{Refusal}
use Rattle.rules.specs.declared.Stage.{Stage}
use Rattle.rules.specs.declared.Stage.TheVariants.{Fresh, After, Over}
use Rattle.rules.specs.Call.{refused}
use Rattle.heads.specs.View.{Cols, Heads}
use Rattle.heads.specs.Load.{load_to}
use Rattle.pulls.specs.Pulls.{drawn_to, Lent}
use Rattle.runs.specs.declared.Run.{Run}
use Rattle.runs.specs.declared.Given.{Given}
use Rattle.runs.specs.View.{heads_of, stage_of}
use Rattle.runs.specs.Comes.{given_of}
use Rattle.step.specs.Settle.{Settles}

-- "Heads are loaded at the first accepted base"
abbrev pub opened_by : Stage → Cols → Heads → Heads
opened_by Fresh s h = load_to s h h.streams
opened_by (After p) s h = h
opened_by (Over e) s h = h

-- the answer, the run and all that was lent: as the rules say
pub record Gives (s : Cols) (lengths : List ℕ) (r : Run) (b : Base) (l : Lent) (g : Given) (l' : Lent) : Type 0 where
  pub settles : Settles s b (drawn_to s r.settings.chroms b (opened_by (stage_of r) s (heads_of r))) r (given_of s lengths r b l) l g l'
  -- "run unchanged", its queue too, and the answer rows
  pub still : (x : Refusal) → (given_of s lengths r b l).reply ≡ refused x → l' ≡ l
  -- "an ended run first (its old answer again)"
  pub again : (e : End) → stage_of r ≡ Over e → l' ≡ l
