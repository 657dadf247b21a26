-- What the arrays of a run and the lent columns stand for: what is left of each stream. Total on every value of the arrays.
use Rattle.std.specs.Prelude.{List, [], ◌∷◌, map, ℕ, ◌-◌, get_or}
use Rattle.basics.specs.Build.{build}
use Rattle.rules.specs.Rows.{Record}
use Rattle.least.specs.Fours.{record_of, is_ended, unless_ended}
use Rattle.heads.specs.declared.Columns.{Columns}
use Rattle.heads.specs.declared.Heads as arrays

-- the lent columns: all streams' rows, one after the other
pub record Cols : Type 0 where
  pub chrom : List ℕ
  pub start : List ℕ
  pub stop : List ℕ

abbrev pub cols : List ℕ → List ℕ → List ℕ → Cols
cols c a e = record { chrom = c; start = a; stop = e }

abbrev pub cols_of : Columns → Cols
cols_of s = cols s.chrom.now s.start.now s.stop.now

-- the record at place p of the columns, in stream k, whose rows begin at `from`
abbrev pub row_at : Cols → ℕ → ℕ → ℕ → Record
row_at s from k p = record_of k (get_or s.chrom p 0) (get_or s.start p 0) (get_or s.stop p 0) (p - from)

-- the rows of stream k from place `next` on
abbrev pub rows_from : Cols → ℕ → ℕ → ℕ → ℕ → List Record
rows_from s from to k next = build (row_at s from k) (to - next) next

-- ---- the heads

-- "A run carries the heads of its eight streams", in flat arrays: of each stream its head's chromosome, start, stop and row, its mark, the place of
-- the row behind its head, and where its rows begin and end; and the number of streams
pub record Heads : Type 0 where
  pub chrom : List ℕ
  pub start : List ℕ
  pub stop : List ℕ
  pub row : List ℕ
  pub ended : List ℕ
  pub next : List ℕ
  pub from : List ℕ
  pub to : List ℕ
  pub streams : ℕ

-- "An array of eight four-number arrays, built from the run's flat arrays"
abbrev pub four_at : List ℕ → List ℕ → List ℕ → List ℕ → ℕ → List ℕ
four_at c a e row k = get_or c k 0 ∷ get_or a k 0 ∷ get_or e k 0 ∷ get_or row k 0 ∷ []

abbrev pub fours_of : List ℕ → List ℕ → List ℕ → List ℕ → List (List ℕ)
fours_of c a e row = four_at c a e row 0 ∷ four_at c a e row 1 ∷ four_at c a e row 2 ∷ four_at c a e row 3 ∷ four_at c a e row 4 ∷ four_at c a e row 5 ∷ four_at c a e row 6 ∷ four_at c a e row 7 ∷ []

-- number i of each four: the flat array again
abbrev pub column_in : ℕ → List (List ℕ) → List ℕ
column_in i q = map (λ (x : List ℕ). get_or x i 0) q

-- heads that lie in eight four-number arrays, with the marks and the streams' places beside them
abbrev pub heads_by : List (List ℕ) → List ℕ → List ℕ → List ℕ → List ℕ → ℕ → Heads
heads_by q ended next from to n = record { chrom = column_in 0 q; start = column_in 1 q; stop = column_in 2 q; row = column_in 3 q; ended = ended; next = next; from = from; to = to; streams = n }

abbrev pub heads_in : arrays.Heads → Heads
heads_in h = heads_by h.fours h.ended h.next h.from h.to h.streams

-- ---- what is left

-- the rows behind stream k's head
abbrev pub behind_at : Cols → Heads → ℕ → List Record
behind_at s h k = rows_from s (get_or h.from k 0) (get_or h.to k 0) k (get_or h.next k 0)

abbrev pub head_at : Heads → ℕ → Record
head_at h k = record_of k (get_or h.chrom k 0) (get_or h.start k 0) (get_or h.stop k 0) (get_or h.row k 0)

-- what is left of stream k: the head that the run carries, whatever its values, and the rows behind it; nothing where it has ended
abbrev pub rest_at : Cols → Heads → ℕ → List Record
rest_at s h k = unless_ended (is_ended (get_or h.ended k 0)) (head_at h k ∷ behind_at s h k)

-- what is left of each stream
unfoldable pub rests_of : Cols → Heads → List (List Record)
rests_of s h = build (rest_at s h) h.streams 0

-- the rows of each stream before its first head is loaded
unfoldable pub fresh_of : Cols → Heads → List (List Record)
fresh_of s h = build (behind_at s h) h.streams 0
