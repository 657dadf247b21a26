-- One more at the end of a ring.
use mathlib.Core.Path.{◌≡◌, refl, ◌∙◌}
use mathlib.Core.List.{[], ◌∷◌, ◌++◌}
use Prim.Native.Nat.{ℕ, ◌+◌, ◌≤◌, ◌<◌}
use native.Mathlib.Omega.{arith}
use native.Mathlib.Nat.{zero-add}
use native.Mathlib.Numerals.{add-one}
use lib.ListN.{set}
use Rattle.basics.proofs.BuildLaws.{build_snoc}
use Rattle.queue.specs.declared.Ring.{Ring}
use Rattle.queue.specs.declared.Slot.{Slot}
use Rattle.std.specs.Prelude.{None, Some}
use Rattle.queue.specs.Ring.{Cells, Fair, numbers_of, place, nth, oldest, waiting}
use Rattle.queue.specs.Deeds.{Queues, Pushes}
use Rattle.queue.proofs.Places.{nth_put, oldest_put, fair_put}
use Rattle.queue.proofs.Waiting.{length_waiting, moved}

-- the first of a ring, and one more
pub oldest_more : (q : Ring) (c : Cells) (k : ℕ) → oldest (k + 1) q c ≡ oldest k q c ++ (nth q c k ∷ [])
oldest_more q c k = rw (add-one k, build_snoc (nth q c) k 0, zero-add k)

-- fewer, or more up to the room
pub fair_len : (q : Ring) (c : Cells) (m : ℕ) → Fair q c → m ≤ q.room → Fair (moved q q.head m) c
fair_len q c m f h = record { sound = record { inside = f.sound.inside; fits = h; small = f.sound.small }; slots = f.slots }

module _ (q : Ring) (c : Cells) (x : Slot) (f : Fair q c) where
  pub push_done : (at : ℕ) → (q.len ≡ q.room → ⊥) → at ≡ place q.head q.room q.len → Pushes q c x (Some (moved q q.head (q.len + 1))) (set c at (numbers_of x))
  unfolding waiting
  push_done at left here = record { done = λ q' e. rw (← same q' e) queues; full = λ e. never e }
    where
      less : q.len < q.room
      less = omega arith

      queues : Queues q c x (moved q q.head (q.len + 1)) (set c at (numbers_of x))
      queues = record {
        fair = fair_len q (set c at (numbers_of x)) (q.len + 1) (fair_put q c at (numbers_of x) f) (omega arith);
        room = refl;
        chrom = refl;
        fewer = rw (length_waiting q c) less;
        more =
            oldest_more q (set c at (numbers_of x)) q.len
            ∙ rw (oldest_put q c f q.len at less here (numbers_of x) q.len (omega arith), nth_put q c f q.len at less here (numbers_of x));
      }

      same : (q' : Ring) → Some (moved q q.head (q.len + 1)) ≡ Some q' → moved q q.head (q.len + 1) ≡ q'
      same q' e = cc

      never : {P : Type 0} → Some (moved q q.head (q.len + 1)) ≡ None → P
      never e = let z : ◌≡◌ {A = ℕ} 0 1 = cc in absurd (omega arith)

  pub push_full : q.len ≡ q.room → Pushes q c x None c
  push_full e = record { done = λ q' h. never q' h; full = λ h. record { full = length_waiting q c ∙ e; same = refl } }
    where
      never : (q' : Ring) {P : Type 0} → None ≡ Some q' → P
      never q' h = let z : ◌≡◌ {A = ℕ} 0 1 = cc in absurd (omega arith)
