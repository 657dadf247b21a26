-- The texts of a listing: what is judged before the run, in its order, and the job that they give.
use Rattle.std.specs.Prelude.{cond, ◌&&◌, List, [], ◌∷◌, map, ℕ, suc, leb, length}
use Rattle.std.proofs.Math.Option.{Option, none, some}
use Rattle.basics.specs.Lists.{total}
use Rattle.rules.specs.declared.Row.{Row}
use Rattle.rules.specs.declared.Base.{Base}
use Rattle.rules.specs.declared.Settings.{Settings}
use Rattle.rules.specs.declared.Unbegun.{Unbegun}
use Rattle.rules.specs.Numbers.{unbegun_number}
use Rattle.rules.specs.Streams.{else}
use Rattle.rules.specs.Start.{within, refuses_start}
use Rattle.rules.specs.Job.{Job}
use Rattle.fields.specs.Table.{Found, End, whole, malformed, full, refused, read_text}
use Rattle.fields.specs.Names.{part, number_in}
use Rattle.chroms.specs.declared.Entry.{Entry}
use Rattle.chroms.specs.Entry.{entry_of}
use Rattle.rows.specs.declared.Row as rows
use Rattle.rows.specs.Row.{row_of}
use Rattle.admit.specs.Gates.{lengths_of}

-- "files to text": the chromosome list, the bases, and each stream
pub record Texts : Type 0 where
  pub list : List ℕ
  pub bases : List ℕ
  pub streams : List (List ℕ)

-- "The program uses Q = 1,024, at most 65,536 bytes of text in all (else 1) and 1,024 rows a text (else 12)."
abbrev pub room : ℕ
room = 1024

abbrev pub rows_most : ℕ
rows_most = 1024

abbrev pub bytes_most : ℕ
bytes_most = 65536

-- ---- what each text gives

-- the entries of a chromosome list, and their names
abbrev pub entries_in : List ℕ → Found Entry
entries_in list = read_text entry_of rows_most list

abbrev pub names_in : List ℕ → List (List ℕ)
names_in list = map (λ e. part e.from e.to list) (entries_in list).rows

abbrev pub lens_in : List ℕ → List ℕ
lens_in list = map (λ e. e.len) (entries_in list).rows

abbrev pub names_of : Texts → List (List ℕ)
names_of t = names_in t.list

-- the rows of a text, of these names: "a name not on the list is kept as the number after the last"
abbrev pub rows_in : List (List ℕ) → List ℕ → Found rows.Row
rows_in ns text = read_text (row_of (number_in ns)) rows_most text

abbrev pub row_from : rows.Row → Row
row_from r = record { chrom = record { 0 = r.chrom }; start = r.start; stop = r.stop }

abbrev pub base_from : rows.Row → Base
base_from r = record { chrom = record { 0 = r.chrom }; start = r.start; stop = r.stop }

-- the bases, and the rows of each stream
abbrev pub bases_of : Texts → List Base
bases_of t = map base_from (rows_in (names_of t) t.bases).rows

abbrev pub streams_in : List (List ℕ) → List (List ℕ) → List (List Row)
streams_in ns ss = map (λ s. map row_from (rows_in ns s).rows) ss

-- the job
abbrev pub job_of : Texts → Job
job_of t = record { lengths = lengths_of (lens_in t.list); streams = streams_in (names_of t) t.streams; room = room }

-- ---- what is judged before the run

-- "X, number, text (0 list, 1 bases, 2 and up streams, judged in that order), rows ahead; for 1 and 2 both are 0"
pub record Fault : Type 0 where
  pub number : ℕ
  pub text : ℕ
  pub ahead : ℕ

abbrev pub fault : ℕ → ℕ → ℕ → Fault
fault number text ahead = record { number = number; text = text; ahead = ahead }

-- 11 and 12 of a text, with the rows ahead
abbrev pub end_fault : ℕ → End → ℕ → Option Fault
end_fault text whole ahead = none
end_fault text malformed ahead = some (fault 11 text ahead)
end_fault text full ahead = some (fault 12 text ahead)
end_fault text refused ahead = some (fault 1 0 0)

abbrev pub found_fault : {A : Type 0} → ℕ → Found A → Option Fault
found_fault text f = end_fault text f.end (length f.rows)

-- "First 1 for text size or stream count"
abbrev pub bytes_of : Texts → ℕ
bytes_of t = total (t.list ∷ t.bases ∷ t.streams)

abbrev pub sizes_fault : Texts → Option Fault
sizes_fault t = cond (leb (bytes_of t) bytes_most && within 1 8 (length t.streams)) none (some (fault 1 0 0))

-- "1 for its count of names, then 2"
abbrev pub unbegun_fault : Option Unbegun → Option Fault
unbegun_fault none = none
unbegun_fault (some x) = some (fault (unbegun_number x) 0 0)

-- what is fixed from the start of the run, where there are k streams and these names
abbrev pub settings_in : ℕ → List (List ℕ) → Settings
settings_in k ns = record { streams = k; chroms = length ns; room = room }

-- the list's own: its 11 and 12, then its count and its names, where there are k streams
abbrev pub list_fault : ℕ → List ℕ → Option Fault
list_fault k list = else (found_fault 0 (entries_in list)) (unbegun_fault (refuses_start (settings_in k (names_in list)) (names_in list)))

-- the texts of streams from text number k on
abbrev pub streams_fault : List (List ℕ) → ℕ → List (List ℕ) → Option Fault
streams_fault ns k [] = none
streams_fault ns k (s ∷ ss) = else (found_fault k (rows_in ns s)) (streams_fault ns (suc k) ss)

-- "First 1 for text size or stream count; after the list's 11 and 12, 1 for its count of names, then 2.": then the bases, then the streams
unfoldable pub fault_of : Texts → Option Fault
fault_of t =
    else (sizes_fault t)
    (else (list_fault (length t.streams) t.list)
    (else (found_fault 1 (rows_in (names_of t) t.bases))
    (streams_fault (names_of t) 2 t.streams)))
