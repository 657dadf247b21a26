-- What waits in a ring: how many, the first and the rest, and which of it is live.
use mathlib.Core.Path.{◌≡◌, refl, sym, ap}
use mathlib.Core.List.{List, [], ◌∷◌}
use Prim.Native.Nat.{ℕ, suc, ◌-◌}
use native.Mathlib.Omega.{arith}
use lib.ListN.{length}
use borrow.Author.Tests.{eq-eqb, ne_eqb}
use Rattle.basics.specs.Build.{build}
use Rattle.basics.specs.Lists.{filter}
use Rattle.basics.proofs.BuildLaws.{build_length}
use Rattle.basics.proofs.ListLaws.{filter_cong, filter_none}
use Rattle.basics.proofs.EdgeLaws.{build_shift, all_build}
use Rattle.rules.specs.declared.Base.{Base}
use Rattle.rules.specs.Rows.{Record}
use Rattle.rules.specs.Overlap.{live}
use Rattle.queue.specs.declared.Ring.{Ring}
use Rattle.std.specs.Prelude.{None, Some}
use Rattle.queue.specs.Ring.{Cells, Sound, record_of, slot_at, place, nth, waiting}
use Rattle.queue.specs.Deeds.{ends, Fronts}
use Rattle.queue.proofs.Places.{place_next}

pub length_waiting : (q : Ring) (c : Cells) → length (waiting q c) ≡ q.len
unfolding waiting
length_waiting q c = build_length (nth q c) q.len 0

-- a ring's room and chromosome, with another head and another number of records
abbrev pub moved : Ring → ℕ → ℕ → Ring
moved q head len = record { head = head; len = len; room = q.room; chrom = q.chrom }

pub nothing_waits : (q : Ring) (c : Cells) → q.len ≡ 0 → waiting q c ≡ []
unfolding waiting build
nothing_waits q c e = rw e

-- the first, and then the ring from one place on
pub waiting_cons : (q : Ring) (c : Cells) (m next : ℕ) → Sound q → q.len ≡ suc m → next ≡ place q.head q.room 1 → waiting q c ≡ nth q c 0 ∷ waiting (moved q next m) c
unfolding waiting build
waiting_cons q c m next s e n =
    rw (e, n) (ap (λ (l : List Record). nth q c 0 ∷ l)
    (sym (build_shift (nth q c) (nth (moved q (place q.head q.room 1) m) c) m 0
    (λ j a b. ap (λ (p : ℕ). record_of q.chrom (slot_at c p)) (place_next q.head q.room s.inside j (omega arith))))))

-- on the base's own chromosome only the stop counts; on another none is live
module _ (q : Ring) (c : Cells) (b : Base) where
  pub live_own : q.chrom.0 ≡ b.chrom.0 → filter (live b) (waiting q c) ≡ filter (ends b.start) (waiting q c)
  unfolding waiting
  live_own e = filter_cong (all_build (nth q c) q.len 0 (λ j i l. rw (eq-eqb q.chrom.0 b.chrom.0 e)))

  pub live_other : (q.chrom.0 ≡ b.chrom.0 → ⊥) → filter (live b) (waiting q c) ≡ []
  unfolding waiting
  live_other e = filter_none (all_build (nth q c) q.len 0 (λ j i l. rw (ne_eqb q.chrom.0 b.chrom.0 e)))

-- where the first that waits starts
module _ (q : Ring) (c : Cells) where
  pub front_none : q.len ≡ 0 → Fronts q c None
  front_none h = record { first = rw (nothing_waits q c h) }

  pub front_first : Sound q → (q.len ≡ 0 → ⊥) → Fronts q c (Some (slot_at c (place q.head q.room 0)).start)
  front_first s h =
      let more : q.len ≡ suc (q.len - 1) = omega arith in
      record { first = rw (waiting_cons q c (q.len - 1) _ s more refl) }
