-- Bases given to a run one after the other in one call: what it answers, the run and all that was lent after it, for all inputs.
use Rattle.std.specs.Prelude.{◌≡◌, List, ℕ, ◌+◌, ◌≤◌, ◌<◌, length, get_or, set, drop, take}
use Rattle.rules.specs.declared.Base.{Base}
use Rattle.rules.specs.Offered.{Offer}
use Rattle.std.specs.Prelude.{Option, Some, None}
use Rattle.rules.specs.declared.Refusal.TheVariants.{Sizes}
use Rattle.rules.specs.declared.Stage.{Stage}
use Rattle.rules.specs.declared.Stage.TheVariants.{Fresh, After, Over}
use Rattle.rules.specs.declared.Answer.{Answer}
use Rattle.rules.specs.declared.Answer.TheVariants as answer
use Rattle.heads.specs.View.{Cols}
use Rattle.pulls.specs.Pulls.{Lent, lent}
use Rattle.runs.specs.declared.Run.{Run}
use Rattle.runs.specs.View.{stage_of}
use Rattle.step.specs.Give.{Gives}
use Rattle.many.specs.declared.Passed.{Passed}

-- ---- what is lent

-- base number k of three columns
abbrev pub base_at : Cols → ℕ → Base
base_at t k = record { chrom = record { 0 = get_or t.chrom k 0 }; start = get_or t.start k 0; stop = get_or t.stop k 0 }

-- "On success the first n answer rows hold stream and row number; the others stay.": the next base has its rows behind those of the bases
-- ahead of it, so it is lent the answer rows from the first free one on
abbrev pub behind : ℕ → Lent → Lent
behind u l = lent l.cells (drop u l.answers)

-- the answer rows ahead of place u stay
abbrev pub Stays : ℕ → Lent → Lent → Type 0
Stays u l l' = take u l'.answers ≡ take u l.answers

-- ---- the bases that were answered

-- the first k bases were given one after the other, each as by the call for one base, and each was answered: the run, what was lent and the column of
-- counts before them are r, l and ns; behind k come the first free answer row, what was offered after the last of them, and the run, what was lent and
-- the counts after them. Each one's count stands in its place
pub data Passes (s : Cols) (lengths : List ℕ) (t : Cols) (r : Run) (l : Lent) (ns : List ℕ) : ℕ → ℕ → Offer → Run → Lent → List ℕ → Type 0 where
  none : Passes s lengths t r l ns 0 0 None r l ns
  one : {k u : ℕ} {p : Offer} {r₁ : Run} {l₁ : Lent} {ns₁ : List ℕ} (m : ℕ) (o : Offer) (r₂ : Run) (l₂ : Lent) → Passes s lengths t r l ns k u p r₁ l₁ ns₁
      → Gives s lengths r₁ (base_at t k) (behind u l₁) (record { run = r₂; answer = answer.Found m o }) (behind u l₂) → Stays u l₁ l₂
      → Passes s lengths t r l ns (k + 1) (u + m) o r₂ l₂ (set ns₁ k m)

-- an answer that is a refusal or the end of the run
abbrev pub Unfound : Answer → Type 0
Unfound (answer.Found m o) = ⊥
Unfound (answer.Refused x) = Unit {0}
Unfound (answer.Ended e) = Unit {0}

-- how it came that no more bases were answered than k: v and m are the run and what was lent after these, and the last three what is given back
pub data Ends (s : Cols) (lengths : List ℕ) (t : Cols) (k u : ℕ) (v : Run) (m : Lent) : Option Answer → Run → Lent → Type 0 where
  -- there are no more
  all : k ≡ length t.chrom → Ends s lengths t k u v m None v m
  -- there are fewer answer rows left than records can wait
  short : k < length t.chrom → 0 < k → length m.answers < u + v.settings.room → Ends s lengths t k u v m None v m
  -- the next one was given, with as many answer rows left where it is not the first, and got no records
  other : (a : Answer) (w : Run) (l' : Lent) → k < length t.chrom → (0 < k → u + v.settings.room ≤ length m.answers) → Unfound a
      → Gives s lengths v (base_at t k) (behind u m) (record { run = w; answer = a }) (behind u l') → Stays u m l' → Ends s lengths t k u v m (Some a) w l'

-- ---- the call

-- the columns of the bases are of one length, and there is a place for each one's count
pub record Even (t : Cols) (ns : List ℕ) : Type 0 where
  pub starts : length t.start ≡ length t.chrom
  pub stops : length t.stop ≡ length t.chrom
  pub counts : length t.chrom ≤ length ns

-- what was answered, and how it ended
pub record Answers (s : Cols) (lengths : List ℕ) (t : Cols) (r : Run) (l : Lent) (ns : List ℕ) (p : Passed) (l' : Lent) (ns' : List ℕ) : Type 0 where
  pub run : Run
  pub lent : Lent
  pub passes : Passes s lengths t r l ns p.bases p.records p.offer run lent ns'
  pub ends : Ends s lengths t p.bases p.records run lent p.last p.run l'

-- no base was answered
abbrev pub none_passed : Run → Option Answer → Passed
none_passed r a = record { run = r; bases = 0; records = 0; offer = None; last = a }

-- "an ended run first (its old answer again), then 1": "lent columns differ in length"
abbrev pub uneven_by : Stage → Answer
uneven_by Fresh = answer.Refused Sizes
uneven_by (After p) = answer.Refused Sizes
uneven_by (Over e) = answer.Ended e

pub record Refuses (r : Run) (l : Lent) (ns : List ℕ) (p : Passed) (l' : Lent) (ns' : List ℕ) : Type 0 where
  pub passed : p ≡ none_passed r (Some (uneven_by (stage_of r)))
  pub lent : l' ≡ l
  pub counts : ns' ≡ ns

pub record GivesAll (s : Cols) (lengths : List ℕ) (t : Cols) (r : Run) (l : Lent) (ns : List ℕ) (p : Passed) (l' : Lent) (ns' : List ℕ) : Type 0 where
  pub even : Even t ns → Answers s lengths t r l ns p l' ns'
  pub uneven : (Even t ns → ⊥) → Refuses r l ns p l' ns'
