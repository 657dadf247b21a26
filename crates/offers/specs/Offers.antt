-- What a base gets from what waits and the least head: its records, and the offer.
use Rattle.std.specs.Prelude.{◌≡◌, cond, List, ℕ, ltb, length}
use Rattle.std.specs.Prelude.{None, Some}
use Rattle.std.specs.Prelude as std
use Rattle.std.proofs.Math.Option.{Option, none, some}
use Rattle.basics.specs.Lists.{filter, first_one}
use Rattle.rules.specs.declared.Base.{Base}
use Rattle.rules.specs.declared.Chrom.{Chrom}
use Rattle.rules.specs.Offered.{Offer}
use Rattle.rules.specs.declared.Answer.{Answer}
use Rattle.rules.specs.declared.Answer.TheVariants as answer
use Rattle.rules.specs.Rows.{Record}
use Rattle.rules.specs.Overlap.{awaited, overlaps}
use Rattle.rules.specs.Offer.{place_for}
use Rattle.least.specs.declared.Best.{Best}
use Rattle.heads.specs.Move.{best_record}
use Rattle.queue.specs.Answered.{Front}
use Rattle.queue.specs.declared.Ring.{Ring}
use Rattle.queue.specs.Ring.{Cells, waiting}
use Rattle.queue.specs.Deeds.{written, answer_row, front_of}

-- a record of which chromosome and start are known: the place depends on no more
abbrev pub start_at : Chrom → ℕ → Record
start_at c a = record { stream = record { 0 = 0 }; row = 0; it = record { chrom = c; start = a; stop = a } }

-- "let T be the first record of the merged list that lies on a later chromosome, or on p's and ends after p.start": the first that waits,
-- which is live, or else the least head, if there is one
abbrev pub target_by : Base → Front → std.Option Best → Option Record
target_by b (Some a) h = some (start_at b.chrom a)
target_by b None None = none
target_by b None (Some h) = cond (awaited b (best_record h)) (some (start_at h.chrom h.start)) none

-- "After an accepted base p with start < stop"
unfoldable pub offer_by : Base → Front → std.Option Best → Offer
offer_by b f h = cond (ltb b.start b.stop) (place_for b (target_by b f h)) None

-- the answer to a base, and the answer rows after it: "exactly the records of its chromosome with start < base stop and stop > base start"
pub record Reports (q : Ring) (c : Cells) (h : std.Option Best) (b : Base) (l : List (List ℕ)) (a : Answer) (l' : List (List ℕ)) : Type 0 where
  pub answer : a ≡ answer.Found (length (filter (overlaps b) (waiting q c))) (offer_by b (front_of (first_one (waiting q c))) h)
  pub answers : l' ≡ written answer_row (filter (overlaps b) (waiting q c)) l
