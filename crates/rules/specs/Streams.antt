-- Streams: the rows ahead of a stream's first fault, and the merged list of several streams.
use Rattle.std.specs.Prelude.{Bool, not, List, [], ◌∷◌, map, ℕ, leb}
use Rattle.std.proofs.Math.Option.{Option, none, some}
use Rattle.basics.specs.Lists.{is_some}
use Rattle.basics.specs.Lex.{lex}
use Rattle.rules.specs.declared.Row.{Row}
use Rattle.rules.specs.declared.End.{End}
use Rattle.rules.specs.Rows.{Record, numbered, fault}
use Rattle.rules.specs.Merge.{merge}

-- what is wrong, or else the next
abbrev pub else : {A : Type 0} → Option A → Option A → Option A
else none o = o
else (some a) o = some a

-- a list, unless something is wrong
abbrev pub unless : {A E : Type 0} → Option E → List A → List A
unless none l = l
unless (some e) l = []

-- "its successor is read and checked (7, 8)": what is wrong with the first of the records behind the row p
abbrev pub check : ℕ → Option Row → List Record → Option End
check n p [] = none
check n p (x ∷ l) = fault n p x

-- the first fault of a stream, from the rows behind p on
abbrev pub first_fault : ℕ → Option Row → List Record → Option End
first_fault n p [] = none
first_fault n p (x ∷ l) = else (fault n p x) (first_fault n (some x.it) l)

-- "For faulty streams, only the rows ahead of each stream's first fault count."
abbrev pub sound : ℕ → Option Row → List Record → List Record
sound n p [] = []
sound n p (x ∷ l) = unless (fault n p x) (x ∷ sound n (some x.it) l)

-- a stream is valid on n chromosomes: no row of it is at fault
abbrev pub valid : ℕ → List Record → Bool
valid n l = not (is_some (first_fault n none l))

-- "the least head by chromosome, start, stop, stream number"
abbrev pub ahead : Record → Record → Bool
ahead a b =
    lex a.it.chrom.0 b.it.chrom.0
    (lex a.it.start b.it.start
    (lex a.it.stop b.it.stop
    (leb a.stream.0 b.stream.0)))

-- "The merged list comes from taking, again and again, the least head"
unfoldable pub merged : ℕ → List (List Row) → List Record
merged n ss = merge ahead (map (sound n none) (numbered 0 ss))

-- a head that is taken: the record, and what is wrong with its successor
pub record Head (R E : Type 0) : Type 0 where
  pub it : R
  pub fault : Option E

-- the heads that a list gives, up to one whose successor is at fault; `flaw a l` is what is wrong with the first of l behind a
abbrev pub heads : {R E : Type 0} → (R → List R → Option E) → List R → List (Head R E)
heads flaw [] = []
heads flaw (a ∷ l) = record { it = a; fault = flaw a l } ∷ unless (flaw a l) (heads flaw l)

-- what is wrong behind a record of a stream
abbrev pub next : ℕ → Record → List Record → Option End
next n a l = check n (some a.it) l

-- the heads of several streams in the order in which they are taken, each with what is wrong with its successor
unfoldable pub taking : ℕ → List (List Record) → List (Head Record End)
taking n ss = merge (λ x y. ahead x.it y.it) (map (heads (next n)) ss)
