-- What reading the texts gives: what is wrong before the run, and the columns of names, bases and rows.
use Rattle.std.specs.Prelude.{◌≡◌, true, List, [], ◌∷◌, ℕ, ◌+◌, ◌*◌, ◌≤◌, ◌<◌, length, get_or, take, Result, Ok, Err}
use Rattle.std.proofs.Math.Option.{Option, none, some}
use Rattle.basics.specs.Build.{build}
use Rattle.rules.specs.declared.Base.{Base}
use Rattle.fields.specs.declared.ReadError.{ReadError}
use Rattle.fields.specs.declared.ReadError.TheVariants as read
use Rattle.fields.specs.Names.{within, names}
use Rattle.fields.specs.Table.{answer}
use Rattle.rows.specs.declared.Row.{Row}
use Rattle.rules.specs.declared.Unbegun.{Unbegun}
use Rattle.rules.specs.declared.Unbegun.TheVariants as unbegun
use Rattle.heads.specs.View.{Cols}
use Rattle.runs.specs.Start.{streams_of}
use Rattle.inputs.specs.Texts.{Texts, Fault, fault, rows_most, names_in, lens_in, rows_in, bases_of, streams_in, list_fault, streams_fault, fault_of, sizes_fault}
use Rattle.inputs.specs.Parted.{sized_by}
use Rattle.inputs.specs.declared.InputError.{InputError}
use Rattle.inputs.specs.declared.InputError.TheVariants.{Sizes, Names, Malformed, Full}
use Rattle.inputs.specs.declared.ListRead.{ListRead}
use Rattle.inputs.specs.declared.Streams.{Streams}
use Rattle.inputs.specs.declared.Read.{Read}
use Rattle.inputs.specs.declared.Misread.{Misread}

-- ---- what is wrong

-- an error as the document's fault
abbrev pub told : InputError → Fault
told Sizes = fault 1 0 0
told Names = fault 2 0 0
told (Malformed text ahead) = fault 11 text ahead
told (Full text ahead) = fault 12 text ahead

abbrev pub fault_by : {A : Type 0} → Result A InputError → Option Fault
fault_by (Ok x) = none
fault_by (Err e) = some (told e)

-- 11 and 12 of a text, by how its reading ended
abbrev pub verdict_at : ℕ → Result ℕ ReadError → Result (Unit {0}) InputError
verdict_at k (Ok n) = Ok tt
verdict_at k (Err (read.Malformed n)) = Err (Malformed k n)
verdict_at k (Err (read.Full n)) = Err (Full k n)
verdict_at k (Err read.Refused) = Err Sizes

-- 1 and 2 of the list
abbrev pub error_by : Unbegun → InputError
error_by unbegun.Sizes = Sizes
error_by unbegun.Names = Names

abbrev pub check_verdict : Result (Unit {0}) Unbegun → Result (Unit {0}) InputError
check_verdict (Ok u) = Ok tt
check_verdict (Err x) = Err (error_by x)

-- ---- the columns

-- the names' columns hold those of the list
pub record Named (list : List ℕ) (n : ℕ) (from to len : List ℕ) : Type 0 where
  pub few : n ≤ rows_most
  pub inside : within (length list) (take n from) (take n to) ≡ true
  pub named : names list (take n from) (take n to) ≡ names_in list
  pub lengths : take n len ≡ lens_in list

pub record NamesRead (list : List ℕ) (r : ListRead) (from to len : List ℕ) : Type 0 where
  pub verdict : (k : ℕ) → 1 ≤ k → k ≤ 8 → fault_by r.verdict ≡ list_fault k list
  pub columns : Named list r.count from to len

-- the row at place i of three columns, as a base
abbrev pub base_in : Cols → ℕ → Base
base_in b i = record { chrom = record { 0 = get_or b.chrom i 0 }; start = get_or b.start i 0; stop = get_or b.stop i 0 }

-- where each stream's rows begin in the columns: each has its own part
abbrev pub places : List ℕ
places = 0 ∷ 1024 ∷ 2048 ∷ 3072 ∷ 4096 ∷ 5120 ∷ 6144 ∷ 7168 ∷ []

-- the row at place i of the columns, as a reader gives it
abbrev pub read_in : Cols → ℕ → Row
read_in s i = record { chrom = get_or s.chrom i 0; start = get_or s.start i 0; stop = get_or s.stop i 0 }

-- from place p on there are slots for all that a text may have, and the names stand in the list's text
pub record Slots (list from to : List ℕ) (p : ℕ) (s : Cols) : Type 0 where
  pub inside : within (length list) from to ≡ true
  pub starts : length s.start ≡ length s.chrom
  pub stops : length s.stop ≡ length s.chrom
  pub room : p + rows_most ≤ length s.chrom

pub record Kept (s s' : Cols) : Type 0 where
  pub chrom : length s'.chrom ≡ length s.chrom
  pub start : length s'.start ≡ length s.start
  pub stop : length s'.stop ≡ length s.stop

-- the rows of a text, of these names, stand in the columns from place p on; those ahead of it are as they were
pub record PartRead (ns : List (List ℕ)) (text : List ℕ) (p : ℕ) (s : Cols) (r : Result ℕ ReadError) (s' : Cols) : Type 0 where
  pub answered : r ≡ answer (rows_in ns text).end (length (rows_in ns text).rows)
  pub few : length (rows_in ns text).rows ≤ rows_most
  pub rows : build (read_in s') (length (rows_in ns text).rows) p ≡ (rows_in ns text).rows
  pub below : (i : ℕ) → i < p → read_in s' i ≡ read_in s i
  pub kept : Kept s s'

-- one to eight streams stand in the bytes behind the bases, there is a part of the columns for each, and the names stand in the list's text
pub record Readable (bytes ends list from to : List ℕ) (s : Cols) : Type 0 where
  pub sized : sized_by (length bytes) ends ≡ true
  pub inside : within (length list) from to ≡ true
  pub chrom : length s.chrom ≡ 8 * rows_most
  pub start : length s.start ≡ 8 * rows_most
  pub stop : length s.stop ≡ 8 * rows_most

-- the columns hold the rows of each stream's text, of these names
pub record StreamsRead (ns ss : List (List ℕ)) (r : Streams) (s : Cols) : Type 0 where
  pub verdict : fault_by r.verdict ≡ streams_fault ns 2 ss
  pub rows : streams_of s (length ss) places r.to ≡ streams_in ns ss
  pub eight : length r.to ≡ 8
  pub low : (k : ℕ) → k < length ss → k * rows_most ≤ get_or r.to k 0
  pub high : (k : ℕ) → k < length ss → get_or r.to k 0 ≤ k * rows_most + rows_most
  pub chrom : length s.chrom ≡ 8 * rows_most
  pub start : length s.start ≡ 8 * rows_most
  pub stop : length s.stop ≡ 8 * rows_most

-- the columns of texts whose sizes are right: the names', the bases' and the streams'
pub record Columns (t : Texts) (r : Read) (from to len : List ℕ) (b s : Cols) : Type 0 where
  pub names : Named t.list r.names from to len
  pub few : r.bases ≤ rows_most
  pub bases : build (base_in b) r.bases 0 ≡ bases_of t
  pub streams : r.streams ≡ length t.streams
  pub rows : streams_of s (length t.streams) places r.to ≡ streams_in (names_in t.list) t.streams
  pub low : (k : ℕ) → k < length t.streams → k * rows_most ≤ get_or r.to k 0
  pub high : (k : ℕ) → k < length t.streams → get_or r.to k 0 ≤ k * rows_most + rows_most

-- the columns are as long as all that a text may have, those of the streams eight times so
pub record Rooms (from to len : List ℕ) (b s : Cols) : Type 0 where
  pub names_from : length from ≡ rows_most
  pub names_to : length to ≡ rows_most
  pub lengths : length len ≡ rows_most
  pub base_chrom : length b.chrom ≡ rows_most
  pub base_start : length b.start ≡ rows_most
  pub base_stop : length b.stop ≡ rows_most
  pub chrom : length s.chrom ≡ 8 * rows_most
  pub start : length s.start ≡ 8 * rows_most
  pub stop : length s.stop ≡ 8 * rows_most

-- how much was read, also where something is wrong; and what is wrong
abbrev pub read_by : Result Read Misread → Read
read_by (Ok r) = r
read_by (Err x) = x.read

abbrev pub wrong_by : Result Read Misread → Option Fault
wrong_by (Ok r) = none
wrong_by (Err x) = some (told x.error)

pub record Reads (t : Texts) (r : Result Read Misread) (from to len : List ℕ) (b s : Cols) : Type 0 where
  pub fault : wrong_by r ≡ fault_of t
  pub eight : length (read_by r).to ≡ 8
  pub rooms : Rooms from to len b s
  pub columns : sizes_fault t ≡ none → Columns t (read_by r) from to len b s
