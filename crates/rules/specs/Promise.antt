-- What a job is promised, with no run: each base by the merged list, the bases accepted ahead of it, and the room.
use Rattle.std.specs.Prelude.{Bool, cond, not, ◌&&◌, List, [], ◌∷◌, map, ℕ, max, eqb, ltb, length}
use Rattle.std.proofs.Math.Option.{Option, none, some}
use Rattle.basics.specs.Lists.{is_some, filter, front, back, first_one}
use Rattle.rules.specs.declared.Base.{Base}
use Rattle.rules.specs.declared.Refusal.{Refusal}
use Rattle.rules.specs.declared.End.{End}
use Rattle.rules.specs.declared.End.TheVariants.{NoRoom}
use Rattle.rules.specs.Rows.{Record, numbered}
use Rattle.rules.specs.Streams.{else, Head, taking}
use Rattle.rules.specs.Overlap.{meets, overlaps, taken}
use Rattle.rules.specs.Bases.{judge}
use Rattle.rules.specs.Offer.{offer}
use Rattle.rules.specs.Call.{Reply, found, refused, ended, loading}
use Rattle.rules.specs.Job.{Job, merged_of}

-- "the largest stop given on that chromosome so far": of n and the bases on chromosome c
abbrev pub top : ℕ → ℕ → List Base → ℕ
top c n [] = n
top c n (p ∷ ps) = cond (eqb p.chrom.0 c) (max p.stop (top c n ps)) (top c n ps)

-- "end after its start and begin before" t, on its chromosome
abbrev pub crowds : Base → ℕ → Record → Bool
crowds b t r = eqb r.it.chrom.0 b.chrom.0 && meets b.start t r.it.start r.it.stop

-- the records that 9 counts at b, behind the bases `hs`, the last first
abbrev pub crowd : List Record → List Base → Base → List Record
crowd M hs b = filter (crowds b (top b.chrom.0 b.stop hs)) M

-- the heads ahead of the first whose successor is at fault, and those from it on
abbrev pub clear : {R E : Type 0} → List (Head R E) → List (Head R E)
clear hs = front (λ h. not (is_some h.fault)) hs

abbrev pub wall : {R E : Type 0} → List (Head R E) → List (Head R E)
wall hs = back (λ h. not (is_some h.fault)) hs

abbrev pub records : {R E : Type 0} → List (Head R E) → List R
records hs = map (λ h. h.it) hs

-- 7 or 8: what is wrong behind the first of the heads, if it is taken
abbrev pub struck : {R E : Type 0} → (R → Bool) → List (Head R E) → Option E
struck taken [] = none
struck taken (y ∷ hs) = cond (taken y.it) y.fault none

-- what ends the run at b, if anything: a fault at the loading; 9 by its count of the records ahead of a fault; the fault
abbrev pub ending : ℕ → ℕ → List (List Record) → List Base → Base → Option End
ending n Q ss hs b =
    else (loading n ss)
    (cond (ltb Q (length (crowd (records (clear (taking n ss))) hs b))) (some NoRoom) (struck (taken b) (wall (taking n ss))))

-- the replies where the run ends, and where it goes on
abbrev pub unless_ended : Option End → List Base → List Reply → List Reply
unless_ended none bs rs = rs
unless_ended (some e) bs rs = map (λ b. ended e) bs

abbrev pub unless_refused : Option Refusal → List Reply → List Reply → List Reply
unless_refused none same rs = rs
unless_refused (some x) same rs = refused x ∷ same

-- the replies to the bases `bs`, behind the accepted bases `hs`, the last first
unfoldable pub said : Job → List Base → List Base → List Reply
said j hs [] = []
said j hs (b ∷ bs) =
    unless_refused (judge j.lengths (first_one hs) b)
    (said j hs bs)
    (unless_ended (ending (length j.lengths) j.room (numbered 0 j.streams) hs b) (b ∷ bs)
    (found (filter (overlaps b) (merged_of j)) (offer (merged_of j) b) ∷ said j (b ∷ hs) bs))

-- the replies that the bases of a job are promised
abbrev pub promised : Job → List Base → List Reply
promised j bs = said j [] bs
