-- "each with chromosome, start, stop and row": the heads as eight four-number arrays, and what is left of each stream. Of any values.
use Rattle.std.specs.Prelude.{Bool, true, false, not, List, [], ◌∷◌, ℕ, eqb, get_or}
use Rattle.rules.specs.declared.Stream.{Stream}
use Rattle.rules.specs.declared.Chrom.{Chrom}
use Rattle.rules.specs.Rows.{Record}

-- a record of a stream, from its chromosome, start, stop and row; and from plain numbers
abbrev pub record_in : Stream → Chrom → ℕ → ℕ → ℕ → Record
record_in stream c a e row = record { stream = stream; row = row; it = record { chrom = c; start = a; stop = e } }

abbrev pub record_of : ℕ → ℕ → ℕ → ℕ → ℕ → Record
record_of stream c a e row = record_in (record { 0 = stream }) (record { 0 = c }) a e row

-- the four numbers of a head, as a record of stream k
abbrev pub record_from : ℕ → List ℕ → Record
record_from k x = record_of k (get_or x 0 0) (get_or x 1 0) (get_or x 2 0) (get_or x 3 0)

-- a stream's mark, any number: 0, it goes on; else it has ended
abbrev pub is_ended : ℕ → Bool
is_ended mark = not (eqb mark 0)

-- nothing where a stream has ended
abbrev pub unless_ended : Bool → List Record → List Record
unless_ended true l = []
unless_ended false l = l

-- what is left of stream k, where q are the heads, e the streams' marks and `behind` the rows behind each head
abbrev pub left_at : List (List ℕ) → List ℕ → (ℕ → List Record) → ℕ → List Record
left_at q e behind k = unless_ended (is_ended (get_or e k 0)) (record_from k (get_or q k []) ∷ behind k)
