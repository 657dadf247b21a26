-- Rows and records, the order of a stream, and what is wrong with a row (refusals 7 and 8).
use Rattle.std.specs.Prelude.{Bool, true, cond, ◌&&◌, List, [], ◌∷◌, ℕ, suc, ltb, leb}
use Rattle.std.proofs.Math.Option.{Option, none, some}
use Rattle.basics.specs.Lex.{lex}
use Rattle.rules.specs.declared.Stream.{Stream}
use Rattle.rules.specs.declared.Row.{Row}
use Rattle.rules.specs.declared.End.{End}
use Rattle.rules.specs.declared.End.TheVariants.{Faulty, Unsorted}

-- "`Arc<Mutex<Position>>`: stream and row number": a row, and where it stands
pub record Record : Type 0 where
  pub stream : Stream
  pub row : ℕ
  pub it : Row

-- the rows of stream i from number k on
abbrev pub number : ℕ → ℕ → List Row → List Record
number i k [] = []
number i k (r ∷ l) = record { stream = record { 0 = i }; row = k; it = r } ∷ number i (suc k) l

-- the rows of each stream from stream i on: streams and rows are counted from 0
abbrev pub numbered : ℕ → List (List Row) → List (List Record)
numbered i [] = []
numbered i (s ∷ ss) = number i 0 s ∷ numbered (suc i) ss

-- 7: not so where "chromosome not on the list, or start > stop", of n chromosomes
abbrev pub good : ℕ → Row → Bool
good n r = ltb r.chrom.0 n && leb r.start r.stop

-- "Stream order: chromosome number must not fall; on one chromosome start must not fall; stop is free."
abbrev pub follows : Row → Row → Bool
follows p r = lex p.chrom.0 r.chrom.0 (leb p.start r.start)

-- the first row of a stream follows nothing
abbrev pub behind : Option Row → Row → Bool
behind none r = true
behind (some p) r = follows p r

-- "Numbers 7 and 8 name stream and row; 7 is tested before 8.": what is wrong with a record behind the row p
abbrev pub fault : ℕ → Option Row → Record → Option End
fault n p x = cond (good n x.it) (cond (behind p x.it) none (some (Unsorted x.stream x.row))) (some (Faulty x.stream x.row))
