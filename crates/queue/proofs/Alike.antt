-- Nothing in the list view depends on where the ring's head is: rings with the same records waiting answer alike, and the same records wait in
-- them afterwards. Each law takes what the two calls say.
use mathlib.Core.Path.{◌≡◌, refl, sym, ◌∙◌}
use mathlib.Core.Bool.{cond}
use mathlib.Core.Option.{none, some}
use mathlib.Core.List.{List, [], ◌∷◌, ◌++◌}
use Prim.Native.Nat.{ℕ}
use native.Mathlib.Omega.{arith}
use lib.ListN.{length}
use lib.Dec.{leb}
use borrow.Author.Tests.{le-leb, lt-leb}
use Rattle.basics.specs.Lists.{filter, first_one}
use Rattle.rules.specs.declared.Base.{Base}
use Rattle.rules.specs.Overlap.{overlaps}
use Rattle.queue.specs.declared.Ring.{Ring}
use Rattle.queue.specs.declared.Slot.{Slot}
use Rattle.std.specs.Prelude.{None, Some}
use Rattle.queue.specs.Answered.{Front, Pushed}
use Rattle.queue.specs.Ring.{Cells, record_of, waiting}
use Rattle.queue.specs.Deeds.{Clears, Pushes, Scans, front_of, held}

-- "it is queued (9 if Q live records are queued already)", as one equation on what waits
pub push_held : (q : Ring) (c : Cells) (x : Slot) (p : Pushed) (c' : Cells) → Pushes q c x p c' →
    held p c' ≡ cond (leb q.room (length (waiting q c))) none (some (waiting q c ++ (record_of q.chrom x ∷ [])))
push_held q c x (Some q') c' h =
    let d = h.done q' refl in
    rw (lt-leb q.room (length (waiting q c)) d.fewer, d.more)
push_held q c x None c' h = rw (le-leb q.room (length (waiting q c)) (omega (arith, (h.full refl).full)))

-- two rings over memory of their own, in which the same records wait
module _ (q p : Ring) (c d : Cells) (same : waiting q c ≡ waiting p d) where
  pub push_alike : (x : Slot) (r s : Pushed) (c' d' : Cells) → q.room ≡ p.room → q.chrom ≡ p.chrom → Pushes q c x r c' → Pushes p d x s d' → held r c' ≡ held s d'
  push_alike x r s c' d' rooms chroms h k = push_held q c x r c' h ∙ rw (same, rooms, chroms) (sym (push_held p d x s d' k))

  pub clear_alike : (b : Base) (q' p' : Ring) (c' d' : Cells) → Clears q c b q' c' → Clears p d b p' d' → waiting q' c' ≡ waiting p' d'
  clear_alike b q' p' c' d' h k = h.left ∙ rw same (sym k.left)

  pub scan_alike : (b : Base) (l l₁ l₂ : List (List ℕ)) (m n : ℕ) →
      Scans (filter (overlaps b) (waiting q c)) l m l₁ → Scans (filter (overlaps b) (waiting p d)) l n l₂ → (m ≡ n) × (l₁ ≡ l₂)
  scan_alike b l l₁ l₂ m n h k = (h.count ∙ rw same (sym k.count), h.answers ∙ rw same (sym k.answers))

  pub front_alike : (r s : Front) → r ≡ front_of (first_one (waiting q c)) → s ≡ front_of (first_one (waiting p d)) → r ≡ s
  front_alike r s h k = h ∙ rw same (sym k)
