-- The lines of an answer, read from what is lent: the vocabulary of the inner functions.
use Rattle.std.specs.Prelude.{◌≡◌, List, [], ◌∷◌, ℕ, ◌≤◌, length, get_or}
use Rattle.basics.specs.Build.{build}
use Rattle.rules.specs.declared.Base.{Base}
use Rattle.rules.specs.Offered.{Offer}
use Rattle.rules.specs.declared.Answer.{Answer}
use Rattle.rules.specs.declared.Answer.TheVariants.{Found, Refused, Ended}
use Rattle.rules.specs.Numbers.{refusal_number, end_number, end_values}
use Rattle.lines.specs.Lines.{line_b, line_x, line_e}
use Rattle.replies.specs.Lines.{row_line}
use Rattle.replies.specs.declared.Rows.{Rows}

-- the lent columns, where each stream's rows begin in them, and the answer rows
pub record Source : Type 0 where
  pub start : List ℕ
  pub stop : List ℕ
  pub from : List ℕ
  pub answers : List (List ℕ)

abbrev pub source : List ℕ → List ℕ → List ℕ → List (List ℕ) → Source
source start stop from answers = record { start = start; stop = stop; from = from; answers = answers }

-- the same, of what the functions here are given
abbrev pub source_of : Rows → Source
source_of r = source r.columns.start.now r.columns.stop.now r.from.now r.answers.now

-- the line of answer row k
abbrev pub line_at : Source → ℕ → List ℕ
line_at t k = row_line t.start t.stop t.from (get_or (get_or t.answers k []) 0 0) (get_or (get_or t.answers k []) 1 0)

-- the lines of the first n answer rows
abbrev pub row_lines : Source → ℕ → List (List ℕ)
row_lines t n = build (line_at t) n 0

abbrev pub found_lines : Source → List ℕ → Base → ℕ → List (List ℕ)
found_lines t name b n = line_b name b.start b.stop n ∷ row_lines t n

abbrev pub answer_lines : Source → List ℕ → ℕ → Base → Answer → List (List ℕ)
answer_lines t name row b (Found n o) = found_lines t name b n
answer_lines t name row b (Refused x) = line_x (refusal_number x) row ∷ []
answer_lines t name row b (Ended e) = line_e (end_number e) row (end_values e) ∷ []

-- n answer rows are lent
abbrev pub Holds : Source → ℕ → Type 0
Holds t n = n ≤ length t.answers

-- as many as the answer counts
abbrev pub Backs : Source → Answer → Type 0
Backs t a = (n : ℕ) (o : Offer) → a ≡ Found n o → Holds t n
