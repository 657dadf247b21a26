-- One call: a base is given to a run.
use Rattle.std.specs.Prelude.{Bool, cond, List, [], ◌∷◌, ◌++◌, map, ℕ, ltb, length, drop}
use Rattle.std.proofs.Math.Option.{Option, none, some}
use Rattle.basics.specs.Lists.{filter}
use Rattle.rules.specs.declared.Row.{Row}
use Rattle.rules.specs.declared.Base.{Base}
use Rattle.rules.specs.Offered.{Offer}
use Rattle.std.specs.Prelude.{None}
use Rattle.rules.specs.declared.Refusal.{Refusal}
use Rattle.rules.specs.declared.Refusal.TheVariants.{Sizes}
use Rattle.rules.specs.declared.End.{End}
use Rattle.rules.specs.declared.End.TheVariants.{NoRoom, NoRows}
use Rattle.rules.specs.declared.Stage.{Stage}
use Rattle.rules.specs.declared.Stage.TheVariants.{Fresh, After, Over}
use Rattle.rules.specs.declared.Answer.{Answer}
use Rattle.rules.specs.declared.Answer.TheVariants as answer
use Rattle.rules.specs.Rows.{Record, numbered}
use Rattle.rules.specs.Merge.{onto, pick}
use Rattle.rules.specs.Streams.{else, check, next, ahead}
use Rattle.rules.specs.Overlap.{overlaps, taken, live}
use Rattle.rules.specs.Pull.{Pull, paused, ends, pull}
use Rattle.rules.specs.Bases.{judge}
use Rattle.rules.specs.Offer.{offer}

-- what is left of each stream, what is queued, and how the run stands
pub record Run : Type 0 where
  pub left : List (List Record)
  pub queue : List Record
  pub stage : Stage

-- what a base gets: its records and the offer; a refusal; the end of the run
pub data Reply : Type 0 where
  found : List Record → Offer → Reply
  refused : Refusal → Reply
  ended : End → Reply

-- the answer that stands for a reply: of the records, their count
abbrev pub answer_of : Reply → Answer
answer_of (found l o) = answer.Found (length l) o
answer_of (refused x) = answer.Refused x
answer_of (ended e) = answer.Ended e

-- "Refusals 1 to 10 leave the answer rows untouched and offer nothing."
abbrev pub offered : Reply → Offer
offered (found l o) = o
offered (refused x) = None
offered (ended e) = None

abbrev pub rows_of : Reply → List Record
rows_of (found l o) = l
rows_of (refused x) = []
rows_of (ended e) = []

-- "On success the first n answer rows hold stream and row number; the others stay.": an answer column after a reply, `old` ahead of it
abbrev pub column : {A : Type 0} → (Record → A) → Reply → List A → List A
column part r old = map part (rows_of r) ++ drop (length (rows_of r)) old

-- the run after a call, and what the base got
pub record Given : Type 0 where
  pub run : Run
  pub reply : Reply

-- what is lent with a base: whether 1 finds nothing wrong with it, and how many answer rows there are
pub record Lent : Type 0 where
  pub right : Bool
  pub rows : ℕ

abbrev pub fresh : List (List Row) → Run
fresh ss = record { left = numbered 0 ss; queue = []; stage = Fresh }

-- "run unchanged"
abbrev pub refuse : Run → Refusal → Given
refuse r x = record { run = r; reply = refused x }

-- "run ended": nothing is left of any stream and nothing waits
abbrev pub over : Run → End → Run
over r e = record { left = map (λ s. []) r.left; queue = []; stage = Over e }

abbrev pub end : Run → End → Given
end r e = record { run = over r e; reply = ended e }

-- "Heads are loaded at the first accepted base, stream 0 first, each checked; the first fault ends the run."
abbrev pub loading : ℕ → List (List Record) → Option End
loading n [] = none
loading n (s ∷ ss) = else (check n none s) (loading n ss)

-- the least head of what is left
abbrev pub least : List (List Record) → List Record
least left = onto (λ ts. []) (pick ahead left)

-- what is queued, and then the least head: where the offer's T is sought
abbrev pub coming : List (List Record) → List Record → List Record
coming left queue = queue ++ least left

-- 10: "more records than answer rows"; else the records of the base, and the offer
abbrev pub reporting : ℕ → Run → Base → List (List Record) → List Record → List Record → Given
reporting rows r b left queue hits =
    cond (ltb rows (length hits)) (end r NoRows)
    (record { run = record { left = left; queue = queue; stage = After b }; reply = found hits (offer (coming left queue) b) })

abbrev pub after_pull : ℕ → Run → Base → Pull Record End → Given
after_pull rows r b (ends e) = end r e
after_pull rows r b (paused left queue) = reporting rows r b left queue (filter (overlaps b) queue)

-- "Others never use up room, wherever they stand in the queue": the pull starts from the live ones
abbrev pub pulling : ℕ → ℕ → ℕ → Run → Base → Given
pulling n Q rows r b = after_pull rows r b (pull ahead (next n) NoRoom (taken b) (live b) Q r.left (filter (live b) r.queue))

-- an accepted base, where `wrong` is what its heads' loading met
abbrev pub accept : ℕ → ℕ → ℕ → Run → Base → Option End → Given
accept n Q rows r b (some e) = end r e
accept n Q rows r b none = pulling n Q rows r b

abbrev pub judged : ℕ → ℕ → ℕ → Run → Base → Option End → Option Refusal → Given
judged n Q rows r b wrong (some x) = refuse r x
judged n Q rows r b wrong none = accept n Q rows r b wrong

-- "For a base: an ended run first (its old answer again), then 1, then 4, 6, 3, 5."
abbrev pub by_stage : List (Option ℕ) → ℕ → Lent → Run → Base → Stage → Given
by_stage lengths Q lent r b (Over e) = record { run = r; reply = ended e }
by_stage lengths Q lent r b Fresh = cond lent.right (judged (length lengths) Q lent.rows r b (loading (length lengths) r.left) (judge lengths none b)) (refuse r Sizes)
by_stage lengths Q lent r b (After p) = cond lent.right (judged (length lengths) Q lent.rows r b none (judge lengths (some p) b)) (refuse r Sizes)

-- the base b is given to the run r, whose room is Q
unfoldable pub give : List (Option ℕ) → ℕ → Lent → Run → Base → Given
give lengths Q lent r b = by_stage lengths Q lent r b r.stage
