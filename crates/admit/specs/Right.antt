-- What 1 asks: "a size above (other than a name's) is broken, lent columns differ in length, or a run or its queue names no lent stream or row".
use Rattle.std.specs.Prelude.{Bool, ◌&&◌, ◌||◌, List, ℕ, ◌-◌, eqb, leb, ltb, get_or}
use Rattle.basics.specs.Build.{upto}
use Rattle.basics.specs.Lists.{all}
use Rattle.rules.specs.Start.{sized}
use Rattle.least.specs.Fours.{is_ended}
use Rattle.queue.specs.declared.Ring.{Ring}
use Rattle.queue.specs.Ring.{Cells, waiting}
use Rattle.admit.specs.declared.Lens.{Lens}

-- ---- sizes and columns

-- "lent columns differ in length": not so where the streams' three are of one length, and there is one length a chromosome
abbrev pub evenly : ℕ → Lens → Bool
evenly chroms l = eqb l.start l.chrom && (eqb l.stop l.chrom && eqb l.lengths chroms)

-- "lent columns differ in length": not so where the queue has as many slots as there is room for records, and "Answer rows lent: at least Q."
abbrev pub slotted : ℕ → Lens → Bool
slotted room l = eqb l.queue room && leb room l.answers

-- "a ring in lent memory": its head is one of its slots, and no more wait than there are slots
abbrev pub inside : Ring → Bool
inside q = ltb q.head q.room && leb q.len q.room

-- "a size above (other than a name's) is broken, lent columns differ in length": not so
unfoldable pub measured : Lens → ℕ → ℕ → Ring → Bool
measured l streams chroms q = sized (record { streams = streams; chroms = chroms; room = q.room }) && (evenly chroms l && (slotted q.room l && inside q))

-- ---- what is named

-- "a range for each stream": of n streams, whose rows stand in `rows` lent ones, each range ends among these, and its next place is not ahead of
-- its first
abbrev pub placed_at : ℕ → List ℕ → List ℕ → List ℕ → ℕ → Bool
placed_at rows next from to k = leb (get_or from k 0) (get_or next k 0) && leb (get_or to k 0) rows

unfoldable pub placed : ℕ → ℕ → List ℕ → List ℕ → List ℕ → Bool
placed rows n next from to = all (placed_at rows next from to) (upto n)

-- "names no lent stream or row": not so where s is one of n streams, and `row` one of its rows
unfoldable pub named : ℕ → List ℕ → List ℕ → ℕ → ℕ → Bool
named n from to s row = ltb s n && ltb row (get_or to s 0 - get_or from s 0)

-- "a run [..] names": by the head of each stream that has not ended
abbrev pub head_named : ℕ → List ℕ → List ℕ → List ℕ → List ℕ → ℕ → Bool
head_named n ended row from to k = is_ended (get_or ended k 0) || named n from to k (get_or row k 0)

unfoldable pub heads_named : ℕ → List ℕ → List ℕ → List ℕ → List ℕ → Bool
heads_named n ended row from to = all (head_named n ended row from to) (upto n)

-- "or its queue names": by each record that waits
unfoldable pub slots_named : ℕ → List ℕ → List ℕ → Ring → Cells → Bool
slots_named n from to q c = all (λ r. named n from to r.stream.0 r.row) (waiting q c)

-- ---- all of it

-- 1 is not due: of the lengths of what is lent, the numbers of streams and chromosomes, the ring, of each stream whether it has ended, its head's
-- row, its next place and where its rows begin and end, and of the queue's memory
unfoldable pub right : Lens → ℕ → ℕ → Ring → List ℕ → List ℕ → List ℕ → List ℕ → List ℕ → Cells → Bool
right l streams chroms q ended row next from to c =
    measured l streams chroms q
    && (placed l.chrom streams next from to
    && (heads_named streams ended row from to
    && slots_named streams from to q c))
