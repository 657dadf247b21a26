-- The least head, as the code finds it: from the last stream back, the earlier stream's unless the other is before it.
use Rattle.std.specs.Prelude.{Bool, cond, List, [], ℕ, zero, suc, ltb, leb, get_or, Option, Some, None}
use Rattle.basics.specs.Lex.{lex}
use Rattle.rules.specs.declared.Stream.{Stream}
use Rattle.rules.specs.Rows.{Record}
use Rattle.rules.specs.Merge.{Pick, none, one}
use Rattle.least.specs.declared.Best.{Best}
use Rattle.least.specs.Fours.{is_ended}

-- a record as a head
abbrev pub head_of : Record → Best
head_of a = record { stream = a.stream; chrom = a.it.chrom; start = a.it.start; stop = a.it.stop; row = a.row }

abbrev pub best_of : Pick Record → Option Best
best_of none = None
best_of (one a rest ts) = Some (head_of a)

-- by chromosome, start and stop
unfoldable pub sooner : Best → List ℕ → Bool
sooner b x = lex b.chrom.0 (get_or x 0 0) (lex b.start (get_or x 1 0) (ltb b.stop (get_or x 2 0)))

abbrev pub best_at : Stream → List ℕ → Best
best_at k x = record { stream = k; chrom = record { 0 = get_or x 0 0 }; start = get_or x 1 0; stop = get_or x 2 0; row = get_or x 3 0 }

-- four numbers as stream k's head, against the best of the later streams, if any
abbrev pub earlier : Stream → List ℕ → Option Best → Best
earlier k x None = best_at k x
earlier k x (Some b) = cond (sooner b x) b (best_at k x)

-- of n streams: the head x of stream k, which may have ended, against the best of the later ones
unfoldable pub better_of : Stream → ℕ → List ℕ → Bool → Option Best → Option Best
better_of k n x dead b = cond (leb n k.0) b (cond dead b (Some (earlier k x b)))

-- the best of the streams i, i + 1, .., k of them
abbrev pub best_from : List (List ℕ) → List ℕ → ℕ → ℕ → ℕ → Option Best
best_from q ended n zero i = None
best_from q ended n (suc k) i = better_of (record { 0 = i }) n (get_or q i []) (is_ended (get_or ended i 0)) (best_from q ended n k (suc i))

-- of all eight places, of which the first n are streams
abbrev pub least_in : List (List ℕ) → List ℕ → ℕ → Option Best
least_in q ended n = best_from q ended n 8 0

-- the stream of a head
abbrev pub stream_of : Option Best → Option Stream
stream_of None = None
stream_of (Some b) = Some b.stream
