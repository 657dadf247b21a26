-- What a caller cites: from what one operation says to what the next one asks, and the rule for room over a clearing and a push.
use mathlib.Core.Path.{◌≡◌, refl, ◌∙◌}
use mathlib.Core.Bool.{true, cond}
use mathlib.Core.Option.{none, some}
use mathlib.Core.List.{List, [], ◌∷◌, ◌++◌}
use Prim.Native.Nat.{ℕ, ◌≤◌, ◌<◌}
use native.Mathlib.Omega.{arith}
use native.Mathlib.Nat.{zero-add}
use lib.ListN.{length}
use lib.Dec.{leb}
use borrow.Author.Tests.{eq-eqb}
use Rattle.basics.specs.Lists.{filter, All, nil, cons}
use Rattle.basics.proofs.ListLaws.{all_append, filter_passes, length_filter}
use Rattle.basics.proofs.EdgeLaws.{all_build, all_built}
use Rattle.rules.specs.declared.Base.{Base}
use Rattle.rules.specs.declared.Chrom.{Chrom}
use Rattle.rules.specs.Rows.{Record}
use Rattle.rules.specs.Overlap.{lasts, live, overlaps}
use Rattle.queue.specs.declared.Ring.{Ring}
use Rattle.queue.specs.declared.Slot.{Slot}
use Rattle.queue.specs.Answered.{Pushed}
use Rattle.queue.specs.Ring.{Cells, Fair, record_of, nth, waiting}
use Rattle.queue.specs.Deeds.{Clears, Queues, Pushes, Scans, held}
use Rattle.queue.proofs.Waiting.{length_waiting, nothing_waits}
use Rattle.queue.proofs.Alike.{push_held}

-- ---- a fresh ring

-- as `Ring::empty` gives it
abbrev pub fresh : ℕ → Chrom → Ring
fresh room chrom = record { head = 0; len = 0; room = room; chrom = chrom }

pub fresh_fair : (room : ℕ) (chrom : Chrom) (c : Cells) → 0 < room → room ≤ 65536 → length c ≡ room → Fair (fresh room chrom) c
fresh_fair room chrom c h k e = record { sound = record { inside = h; fits = omega arith; small = k }; slots = e }

pub fresh_none : (room : ℕ) (chrom : Chrom) (c : Cells) → waiting (fresh room chrom) c ≡ []
fresh_none room chrom c = nothing_waits (fresh room chrom) c refl

-- ---- a fact of all that waits, number by number

module _ {P : Record → Type 0} (q : Ring) (c : Cells) where
  pub all_waiting : ((k : ℕ) → k < q.len → P (nth q c k)) → All P (waiting q c)
  unfolding waiting
  all_waiting h = all_build (nth q c) q.len 0 (λ k a b. h k (omega arith))

  pub waiting_all : All P (waiting q c) → (k : ℕ) → k < q.len → P (nth q c k)
  unfolding waiting
  waiting_all h k b = rw zero-add at (all_built (nth q c) q.len 0 k b h)

-- ---- all that waits stays live

-- a slot that ends after the base's start is live on the base's chromosome
pub slot_live : (b : Base) (q : Ring) (x : Slot) → q.chrom ≡ b.chrom → lasts b.start x.stop ≡ true → live b (record_of q.chrom x) ≡ true
slot_live b q x e h = rw (e, eq-eqb b.chrom.0 b.chrom.0 refl) h

module _ {q : Ring} {c : Cells} (b : Base) where
  pub cleared_live : {q' : Ring} {c' : Cells} → Clears q c b q' c' → All (λ r. live b r ≡ true) (waiting q' c')
  cleared_live h = rw h.left (filter_passes (live b) (waiting q c))

  pub queued_live : {x : Slot} {q' : Ring} {c' : Cells} → Queues q c x q' c' → All (λ r. live b r ≡ true) (waiting q c) → live b (record_of q.chrom x) ≡ true → All (λ r. live b r ≡ true) (waiting q' c')
  queued_live h all new = rw h.more (all_append all (cons new nil))

-- ---- how many rows a scan writes

pub scan_few : (q : Ring) (c : Cells) (b : Base) {l l' : List (List ℕ)} {n : ℕ} → Scans (filter (overlaps b) (waiting q c)) l n l' → n ≤ q.len
scan_few q c b h = omega (arith, h.count, length_filter (overlaps b) (waiting q c), length_waiting q c)

-- ---- room

-- "9 if Q live records are queued already", "Others never use up room, wherever they stand in the queue.": a clearing and then a push
pub room_live : (q : Ring) (c : Cells) (b : Base) (q' : Ring) (c' : Cells) (x : Slot) (p : Pushed) (c'' : Cells) → Clears q c b q' c' → Pushes q' c' x p c'' →
    held p c'' ≡ cond (leb q.room (length (filter (live b) (waiting q c)))) none (some (filter (live b) (waiting q c) ++ (record_of b.chrom x ∷ [])))
room_live q c b q' c' x p c'' h k = push_held q' c' x p c'' k ∙ rw (h.left, h.room, h.chrom)
