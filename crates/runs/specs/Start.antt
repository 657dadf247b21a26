-- Beginning a run: what is refused, the run that begins, and what it stands for.
use Rattle.std.specs.Prelude.{◌≡◌, Bool, cond, ◌&&◌, List, ℕ, ◌-◌, ◌≤◌, eqb, leb, length, get_or, Result, Ok, Err}
use Rattle.std.proofs.Math.Option.{Option, none, some}
use Rattle.basics.specs.Build.{build, upto}
use Rattle.basics.specs.Lists.{all}
use Rattle.rules.specs.declared.Row.{Row}
use Rattle.rules.specs.declared.Stage.TheVariants.{Fresh}
use Rattle.rules.specs.declared.Settings.{Settings}
use Rattle.rules.specs.declared.Unbegun.{Unbegun}
use Rattle.rules.specs.declared.Unbegun.TheVariants.{Sizes}
use Rattle.rules.specs.Start.{refuses_start}
use Rattle.fields.specs.Names.{within, names}
use Rattle.heads.specs.View.{Cols}
use Rattle.runs.specs.declared.Run.{Run}
use Rattle.runs.specs.Marks.{mark_of}
use Rattle.runs.specs.View.{eight}
use Rattle.pulls.specs.Pulls.{Lent}

-- ---- what a run is begun with

-- what is fixed from the start, where each stream's rows begin and end in the columns, and the chromosomes' names: where each begins and ends in a text
pub record Plan : Type 0 where
  pub settings : Settings
  pub from : List ℕ
  pub to : List ℕ
  pub text : List ℕ
  pub names_from : List ℕ
  pub names_to : List ℕ
  pub cols : Cols

abbrev pub plan : Settings → List ℕ → List ℕ → List ℕ → List ℕ → List ℕ → Cols → Plan
plan fixed from to text names_from names_to s = record { settings = fixed; from = from; to = to; text = text; names_from = names_from; names_to = names_to; cols = s }

-- the names, in list order
abbrev pub names_of : Plan → List (List ℕ)
names_of p = names p.text p.names_from p.names_to

-- the row at place i of the columns
abbrev pub row_in : Cols → ℕ → Row
row_in s i = record { chrom = record { 0 = get_or s.chrom i 0 }; start = get_or s.start i 0; stop = get_or s.stop i 0 }

-- "columns of numbers lent, a range for each stream": the rows of each of n streams
abbrev pub streams_of : Cols → ℕ → List ℕ → List ℕ → List (List Row)
streams_of s n from to = build (λ k. build (row_in s) (get_or to k 0 - get_or from k 0) (get_or from k 0)) n 0

-- ---- 1, then 2

-- "lent columns differ in length": not so of the rows' three
abbrev pub evened : Cols → Bool
evened s = eqb (length s.start) (length s.chrom) && eqb (length s.stop) (length s.chrom)

-- "a run [..] names no lent [..] row": not so of stream k's range, where there are so many rows
abbrev pub ranged_at : ℕ → List ℕ → List ℕ → ℕ → Bool
ranged_at rows from to k = leb (get_or from k 0) (get_or to k 0) && leb (get_or to k 0) rows

-- the same of each of n streams, for which there are eight places
unfoldable pub ranged : ℕ → ℕ → List ℕ → List ℕ → Bool
ranged rows n from to = leb n 8 && all (ranged_at rows from to) (upto n)

abbrev pub in_rows : Plan → Bool
in_rows p = ranged (length p.cols.chrom) p.settings.streams p.from p.to

-- the names' two columns are of one length, too, and name what is in the text
abbrev pub in_text : Plan → Bool
in_text p = within (length p.text) p.names_from p.names_to

-- there are as many names as chromosomes
abbrev pub counted : Plan → Bool
counted p = eqb (length p.names_from) p.settings.chroms

-- 1 is not due but for the sizes: "lent columns differ in length, or a run [..] names no lent stream or row"
unfoldable pub lendable : Plan → Bool
lendable p = counted p && evened p.cols && in_rows p && in_text p

-- "At a start: 1, then 2.": what is refused, if anything
unfoldable pub refused_of : Plan → Option Unbegun
refused_of p = cond (lendable p) (refuses_start p.settings (names_of p)) (some Sizes)

-- ---- the answer

-- a run that has accepted no base: its heads are not loaded and nothing waits
abbrev pub fresh_run : Settings → List ℕ → List ℕ → Run
fresh_run fixed from to = record { chrom = eight 0; start = eight 0; stop = eight 0; row = eight 0; ended = eight 1; next = from; from = from; to = to; settings = fixed; head = 0; len = 0; place = 0; mark = mark_of Fresh }

-- the run of no streams
abbrev pub none_run : Run
none_run = fresh_run (record { streams = 0; chroms = 0; room = 0 }) (eight 0) (eight 0)

abbrev pub started : Option Unbegun → Plan → Result Run Unbegun
started none p = Ok (fresh_run p.settings p.from p.to)
started (some x) p = Err x

-- what a start gives, of any values
abbrev pub start_of : Plan → Result Run Unbegun
start_of p = started (refused_of p) p

-- "no run begins": the run of no streams is kept
abbrev pub kept_of : Result Run Unbegun → Run
kept_of (Ok r) = r
kept_of (Err x) = none_run

-- ---- what is lent with a base

-- as much as the sizes given at the start ask: a length for each chromosome, the room's slots, and "Answer rows lent: at least Q"
pub record Lends (p : Plan) (lengths : List ℕ) (l : Lent) : Type 0 where
  pub listed : length lengths ≡ p.settings.chroms
  pub slots : length l.cells ≡ p.settings.room
  pub answer : p.settings.room ≤ length l.answers
