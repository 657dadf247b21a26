-- One pull, for any tests of what a base takes and what is live for it.
use Rattle.std.specs.Prelude.{Bool, cond, List, [], ◌∷◌, ◌++◌, ℕ, zero, suc, leb, length}
use Rattle.std.proofs.Math.Option.{Option, none, some}
use Rattle.basics.specs.Lists.{total}
use Rattle.rules.specs.Merge.{Pick, pick}

-- where a pull stops: what is left of each stream and what is queued; or why the run has ended
pub data Pull (R E : Type 0) : Type 0 where
  paused : List (List R) → List R → Pull R E
  ends : E → Pull R E

-- what is wrong ends the run
abbrev pub unless_wrong : {R E : Type 0} → Option E → Pull R E → Pull R E
unless_wrong none p = p
unless_wrong (some e) p = ends e

-- ahead: which head is the least; flaw: what is wrong behind a head; full: the end by no room
module _ {R E : Type 0} (ahead : R → R → Bool) (flaw : R → List R → Option E) (full : E) where
  -- taken and live: of the base; Q: the room
  module _ (taken live : R → Bool) (Q : ℕ) where
    -- "For each one taken, its successor is read and checked (7, 8). Then, if it is on b's chromosome and ends after b.start,
    -- it is queued (9 if Q live records are queued already); otherwise it is dropped."
    abbrev pub turn : (List (List R) → List R → Pull R E) → List (List R) → List R → Pick R → Pull R E
    turn on ss queue Pick.none = paused ss queue
    turn on ss queue (Pick.one a rest ts) =
        cond (taken a)
        (unless_wrong (flaw a rest) (cond (live a) (cond (leb Q (length queue)) (ends full) (on ts (queue ++ a ∷ []))) (on ts queue)))
        (paused ss queue)

    -- at most n turns
    unfoldable pub turns : ℕ → List (List R) → List R → Pull R E
    turns zero ss queue = paused ss queue
    turns (suc n) ss queue = turn (turns n) ss queue (pick ahead ss)

    -- "At base b, heads are taken while" they are to be taken: a turn for each row that is left, at most
    unfoldable pub pull : List (List R) → List R → Pull R E
    pull ss queue = turns (total ss) ss queue
