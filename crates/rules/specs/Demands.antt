-- The demands, as what any way to answer jobs has to satisfy.
use Rattle.std.specs.Prelude.{◌≡◌, Bool, true, false, cond, ◌⊎◌, List, [], ◌∷◌, ◌++◌, map, ℕ, ◌≤◌, eqb, ltb, length, get_or}
use Rattle.std.proofs.Math.Option.{Option, none}
use Rattle.basics.specs.Lists.{is_some, filter, first_one, All, Pairs}
use Rattle.rules.specs.declared.Base.{Base}
use Rattle.std.specs.Prelude.{None}
use Rattle.rules.specs.declared.Refusal.TheVariants.{Sizes}
use Rattle.rules.specs.declared.End.TheVariants.{NoRoom}
use Rattle.rules.specs.Numbers.{number_of}
use Rattle.rules.specs.Rows.{Record, number, numbered}
use Rattle.rules.specs.Streams.{valid}
use Rattle.rules.specs.Overlap.{overlaps}
use Rattle.rules.specs.Bases.{judge}
use Rattle.rules.specs.Offer.{offer}
use Rattle.rules.specs.Call.{Reply, refused, ended, answer_of, offered, rows_of}
use Rattle.rules.specs.Job.{Job, merged_of}
use Rattle.rules.specs.Promise.{crowd}
use Rattle.rules.specs.Skip.{Mark, every, given, missed, heard, lawful}

-- any way to answer jobs: a reply for each base
abbrev pub Sweep : Type 0
Sweep = Job → List Base → List Reply

-- "valid streams"
abbrev pub ValidStreams : Job → Type 0
ValidStreams j = All (λ s. valid (length j.lengths) s ≡ true) (numbered 0 j.streams)

-- the accepted ones of the bases `bs`, behind `hs`, the last first: those that 4, 6, 3 and 5 let pass
abbrev pub accepted : List (Option ℕ) → List Base → List Base → List Base
accepted lengths hs [] = hs
accepted lengths hs (b ∷ bs) = cond (is_some (judge lengths (first_one hs) b)) (accepted lengths hs bs) (accepted lengths (b ∷ hs) bs)

-- one of the bases, with those ahead of it and those after it
pub record Spot (bs : List Base) : Type 0 where
  pub ahead : List Base
  pub base : Base
  pub later : List Base
  pub whole : bs ≡ ahead ++ base ∷ later

module _ (j : Job) {bs : List Base} (at : Spot bs) where
  -- the accepted bases ahead of it, the last first
  abbrev pub sofar : List Base
  sofar = accepted j.lengths [] at.ahead

  -- it is accepted
  abbrev pub Accepted : Type 0
  Accepted = judge j.lengths (first_one sofar) at.base ≡ none

  -- the records that 9 counts at it
  abbrev pub crowd_at : List Record
  crowd_at = crowd (merged_of j) sofar at.base

-- its reply
abbrev pub reply_at : {bs : List Base} → Spot bs → List Reply → Reply
reply_at at rs = get_or rs (length at.ahead) (refused Sizes)

-- "room enough": for each accepted base
abbrev pub RoomEnough : Job → List Base → Type 0
RoomEnough j bs = (at : Spot bs) → Accepted j at → length (crowd_at j at) ≤ j.room

-- more than Q records need room at an accepted base among `bs`, behind the accepted ones `hs`
abbrev pub overfull : Job → List Base → List Base → Bool
overfull j hs [] = false
overfull j hs (b ∷ bs) =
    cond (is_some (judge j.lengths (first_one hs) b))
    (overfull j hs bs)
    (cond (ltb j.room (length (crowd (merged_of j) hs b))) true (overfull j (b ∷ hs) bs))

-- more than Q records overlap an accepted base among `bs`, behind the accepted ones `hs`
abbrev pub crowded : Job → List Base → List Base → Bool
crowded j hs [] = false
crowded j hs (b ∷ bs) =
    cond (is_some (judge j.lengths (first_one hs) b))
    (crowded j hs bs)
    (cond (ltb j.room (length (filter (overlaps b) (merged_of j)))) true (crowded j (b ∷ hs) bs))

-- the reply is 9
abbrev pub is_no_room : Reply → Bool
is_no_room r = eqb (number_of (answer_of r)) 9

-- the same job with another room
abbrev pub with_room : Job → ℕ → Job
with_room j Q = record { lengths = j.lengths; streams = j.streams; room = Q }

-- Demand 2: "With room enough and valid streams, each accepted base gets exactly the records of its chromosome with start < base stop
-- and stop > base start, once each, in the merged order of 01."
pub record Demand2 (sweep : Sweep) : Type 0 where
  pub exact : (j : Job) (bs : List Base) → ValidStreams j → RoomEnough j bs → (at : Spot bs) → Accepted j at
      → rows_of (reply_at at (sweep j bs)) ≡ filter (overlaps at.base) (merged_of j)
  -- it is answered, and not refused
  pub answered : (j : Job) (bs : List Base) → ValidStreams j → RoomEnough j bs → (at : Spot bs) → Accepted j at
      → number_of (answer_of (reply_at at (sweep j bs))) ≡ 0
  -- "once each": the merged list has each record of each stream once, in the stream's order
  pub once : (j : Job) → ValidStreams j → (i : ℕ) → filter (λ r. eqb r.stream.0 i) (merged_of j) ≡ number i 0 (get_or j.streams i [])

-- Demand 3
pub record Demand3 (sweep : Sweep) : Type 0 where
  -- "The offer is made exactly as 01 says."
  pub offers : (j : Job) (bs : List Base) → ValidStreams j → (at : Spot bs) → number_of (answer_of (reply_at at (sweep j bs))) ≡ 0
      → offered (reply_at at (sweep j bs)) ≡ offer (merged_of j) at.base
  -- ""No room" comes at a base exactly if more than Q records of its chromosome end after its start and begin before the largest stop
  -- given on that chromosome so far, or the run has ended so."
  pub room : (j : Job) (bs : List Base) → ValidStreams j → (at : Spot bs) → is_no_room (reply_at at (sweep j bs)) ≡ overfull j [] (at.ahead ++ at.base ∷ [])
  -- that is: 9 comes at the first accepted base that more than Q records overlap, and to every base behind it
  pub when : (j : Job) (bs : List Base) → ValidStreams j → (at : Spot bs) → is_no_room (reply_at at (sweep j bs)) ≡ crowded j [] (at.ahead ++ at.base ∷ [])
  -- "A larger Q agrees until a smaller one refuses."
  pub larger : (j : Job) (Q : ℕ) (bs : List Base) → j.room ≤ Q → Pairs (λ r s. (r ≡ ended NoRoom) ⊎ (r ≡ s)) (sweep j bs) (sweep (with_room j Q) bs)
  -- "Take valid streams and bases whose rows are all valid and in order. A base source may leave out any bases that the last offered
  -- place permits. Every base given is then answered or refused as in the full run, and every base left out has no record there."
  pub skips : (j : Job) → ValidStreams j → (l : List (Mark Base)) → ((at : Spot (every l)) → Accepted j at)
      → lawful None l (map offered (sweep j (given l))) ≡ true
      → (sweep j (given l) ≡ heard l (sweep j (every l))) × All (λ c. filter (overlaps c) (merged_of j) ≡ []) (missed l)
