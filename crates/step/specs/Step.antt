-- What the parts of a call promise one another: a base of a run whose heads lie in arrays, at which 1 is not due.
use Rattle.std.specs.Prelude.{◌≡◌, ⊤, Result, Ok, true, List, ℕ, ◌≤◌, length}
use Rattle.rules.specs.declared.Base.{Base}
use Rattle.rules.specs.declared.End.{End}
use Rattle.rules.specs.declared.Refusal.{Refusal}
use Rattle.rules.specs.Offered.{Offer}
use Rattle.rules.specs.declared.Answer.TheVariants as answer
use Rattle.rules.specs.declared.Stage.{Stage}
use Rattle.rules.specs.declared.Stage.TheVariants.{Fresh, After}
use Rattle.rules.specs.Call.{pulling}
use Rattle.heads.specs.View.{Cols, Heads}
use Rattle.heads.specs.Move.{Placed, Shaped}
use Rattle.heads.specs.Load.{LoadsAs}
use Rattle.queue.specs.Ring.{Fair}
use Rattle.pulls.specs.declared.Answered.{Answered}
use Rattle.pulls.specs.Pulls.{drawn_to, Lent}
use Rattle.runs.specs.declared.Run.{Run}
use Rattle.runs.specs.declared.Given.{Given}
use Rattle.runs.specs.Marks.{stage_in, mark_of}
use Rattle.runs.specs.View.{heads_of, ring_of, stage_of, run_in, held_of, over_of}
use Rattle.runs.specs.Comes.{right_of}
use Rattle.step.specs.declared.State.{State}
use Rattle.step.specs.Settle.{Going, Settles}
use Rattle.step.specs.Give.{Gives}

-- ---- a run whose heads are loaded is given a base that is accepted

pub record Answerable (s : Cols) (r : Run) (l : Lent) : Type 0 where
  pub going : Going (stage_of r)
  pub placed : Placed s r.settings.streams r.next r.from r.to
  pub fair : Fair (ring_of r) l.cells
  pub answers : r.settings.room ≤ length l.answers

abbrev pub AnswersAs : Cols → Run → Base → Lent → Given → Lent → Type 0
AnswersAs s r b l g l' =
    Settles s b (drawn_to s r.settings.chroms b (heads_of r)) r (pulling r.settings.chroms r.settings.room (length l.answers) (held_of s l.cells r) b) l g l'

-- ---- the heads are loaded where that is due

-- a run that has its heads keeps them
pub record KeepsHeads (h : Heads) (w : Result ⊤ End) (h' : Heads) : Type 0 where
  pub check : w ≡ Ok tt
  pub heads : h' ≡ h

-- by how the run stands: of one that has ended nothing is said
pub record OpensAs (t : Stage) (s : Cols) (n : ℕ) (h : Heads) (w : Result ⊤ End) (h' : Heads) : Type 0 where
  pub first : t ≡ Fresh → LoadsAs s n h w h'
  pub later : (p : Base) → t ≡ After p → KeepsHeads h w h'

-- ---- one base

-- the run whose heads lie in arrays and that stands so
abbrev pub run_at : Heads → State → Run
run_at h x = run_in h x.fixed.chroms x.ring x.mark

-- what a base asks: the run goes on, and 1 is not due
pub record Ready (s : Cols) (lengths : List ℕ) (h : Heads) (x : State) (l : Lent) : Type 0 where
  pub right : right_of s lengths (run_at h x) l ≡ true
  pub shaped : Shaped h
  pub going : Going (stage_in x.mark)

-- it is as given to the call for one base: what the run is then, by the answer
pub record Steps (s : Cols) (lengths : List ℕ) (h : Heads) (x : State) (b : Base) (l : Lent) (a : Answered) (h' : Heads) (l' : Lent) : Type 0 where
  pub found : (m : ℕ) (o : Offer) → a.answer ≡ answer.Found m o → Gives s lengths (run_at h x) b l (record { run = run_in h' x.fixed.chroms a.ring (mark_of (After b)); answer = answer.Found m o }) l'
  pub refused : (y : Refusal) → a.answer ≡ answer.Refused y → Gives s lengths (run_at h x) b l (record { run = run_at h' x; answer = answer.Refused y }) l'
  pub ended : (e : End) → a.answer ≡ answer.Ended e → Gives s lengths (run_at h x) b l (record { run = over_of (run_at h x) e; answer = answer.Ended e }) l'
