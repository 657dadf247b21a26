-- "runs that come back, with their columns, queue and all else lent but the answer rows, as the last call left them"
use Rattle.std.specs.Prelude.{◌≡◌, true, List, [], ◌∷◌, ◌++◌, map, ℕ, ◌≤◌, length, get_or, take, drop, Ok}
use Rattle.rules.specs.declared.Base.{Base}
use Rattle.rules.specs.declared.Refusal.TheVariants.{Sizes}
use Rattle.rules.specs.Offered.{Offer}
use Rattle.std.specs.Prelude.{None}
use Rattle.rules.specs.declared.Answer.{Answer}
use Rattle.rules.specs.declared.Answer.TheVariants as answer
use Rattle.rules.specs.Rows.{Record}
use Rattle.rules.specs.Demands.{Spot}
use Rattle.rules.specs.Job.{Job}
use Rattle.heads.specs.View.{Cols}
use Rattle.queue.specs.Ring.{Cells}
use Rattle.queue.specs.Deeds.{answer_row}
use Rattle.admit.specs.Gates.{lengths_of}
use Rattle.runs.specs.declared.Run.{Run}
use Rattle.runs.specs.declared.Given.{Given}
use Rattle.pulls.specs.Pulls.{Lent, lent}
use Rattle.step.specs.Give.{Gives}
use Rattle.runs.specs.Comes.{right_of}
use Rattle.runs.specs.Start.{Plan, streams_of, start_of}

-- "a base refused by 1 counts there as not given"
abbrev pub Unheeded : Given → Type 0
Unheeded g = g.answer ≡ answer.Refused Sizes

-- what came of a call: the answer that it returned, and the answer rows before and after it
pub record Came : Type 0 where
  pub answer : Answer
  pub before : List (List ℕ)
  pub after : List (List ℕ)

abbrev pub came : Answer → List (List ℕ) → List (List ℕ) → Came
came a old new = record { answer = a; before = old; after = new }

-- the calls of a run r whose queue's memory is c: the bases that are given, what came of each, and the run and the memory as the last call left them; any
-- answer rows are lent with each
pub data Calls (s : Cols) (lengths : List ℕ) : Run → Cells → List Base → List Came → Run → Cells → Type 0 where
  none : {r : Run} {c : Cells} → Calls s lengths r c [] [] r c
  call : {r v : Run} {c d : Cells} {b : Base} {bs : List Base} {os : List Came} (answers : List (List ℕ)) (g : Given) (l' : Lent)
      → Gives s lengths r b (lent c answers) g l' → (Unheeded g → ⊥) → Calls s lengths g.run l'.cells bs os v d
      → Calls s lengths r c (b ∷ bs) (came g.answer answers l'.answers ∷ os) v d
  unheeded : {r v : Run} {c d : Cells} {b : Base} {bs : List Base} {os : List Came} (answers : List (List ℕ)) (g : Given) (l' : Lent)
      → Gives s lengths r b (lent c answers) g l' → Unheeded g → Calls s lengths g.run l'.cells bs os v d
      → Calls s lengths r c bs os v d

-- the job that a run was begun with: the lent columns' rows, and the chromosomes' lengths
abbrev pub job_of : Plan → List ℕ → Job
job_of p lengths = record { lengths = lengths_of lengths; streams = streams_of p.cols p.settings.streams p.from p.to; room = p.settings.room }

-- the calls of a run that begins by the plan p
pub record Runs (p : Plan) (lengths : List ℕ) (bs : List Base) (os : List Came) : Type 0 where
  pub first : Run
  pub begun : start_of p ≡ Ok first
  pub cells : Cells
  pub last : Run
  pub left : Cells
  pub calls : Calls p.cols lengths first cells bs os last left

-- ---- what came out

-- of one of the bases
abbrev pub came_at : {bs : List Base} → Spot bs → List Came → Came
came_at at os = get_or os (length at.ahead) (came (answer.Refused Sizes) [] [])

-- "On success the first n answer rows hold stream and row number; the others stay.": it answered that it found the records rs, as many as there are, and
-- wrote their streams and rows, in this order, and nothing behind them
pub record Brings (rs : List Record) (o : Came) : Type 0 where
  pub offer : Offer
  pub answer : o.answer ≡ answer.Found (length rs) offer
  pub rows : o.after ≡ map answer_row rs ++ drop (length rs) o.before

-- the returned count, and the returned offer
abbrev pub count_in : Answer → ℕ
count_in (answer.Found n o) = n
count_in (answer.Refused x) = 0
count_in (answer.Ended e) = 0

abbrev pub offer_in : Answer → Offer
offer_in (answer.Found n o) = o
offer_in (answer.Refused x) = None
offer_in (answer.Ended e) = None

-- the first n answer rows, n being the returned count
abbrev pub rows_in : Came → List (List ℕ)
rows_in o = take (count_in o.answer) o.after

-- those of several calls, one behind the other
abbrev pub all_rows : List Came → List (List ℕ)
all_rows [] = []
all_rows (o ∷ os) = rows_in o ++ all_rows os

-- what the last of several calls offered
abbrev pub last_offer : List Came → Offer
last_offer [] = None
last_offer (o ∷ []) = offer_in o.answer
last_offer (o ∷ u ∷ os) = last_offer (u ∷ os)

-- two calls gave the same: the answer, its numbers and offer among it, and the rows
pub record Same (o u : Came) : Type 0 where
  pub answer : o.answer ≡ u.answer
  pub rows : rows_in o ≡ rows_in u

-- ---- "A run that comes back so is never itself the cause of 1"

-- "1 is then due only to what that call is newly given": not where there are at least as many answer rows as the room
abbrev pub Blameless : Cols → List ℕ → Run → Cells → Type 0
Blameless s lengths r c = (answers : List (List ℕ)) → r.settings.room ≤ length answers → right_of s lengths r (lent c answers) ≡ true

-- "with the sizes given at its start": the run u has those of r, and its streams' ranges
pub record SizedAs (r u : Run) : Type 0 where
  pub streams : u.settings.streams ≡ r.settings.streams
  pub chroms : u.settings.chroms ≡ r.settings.chroms
  pub room : u.settings.room ≡ r.settings.room
  pub from : u.from ≡ r.from
  pub to : u.to ≡ r.to
