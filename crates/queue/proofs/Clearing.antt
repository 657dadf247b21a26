-- Clearing: past what is dead at the front, how many stay where they are, and the rest moved up.
use mathlib.Core.Path.{◌≡◌, refl, sym, ap, ◌∙◌}
use mathlib.Core.Bool.{true, false, not}
use mathlib.Core.List.{[]}
use Prim.Native.Nat.{ℕ, suc, ◌+◌, ◌-◌, ◌≤◌, ◌<◌}
use native.Mathlib.Omega.{arith}
use native.Mathlib.Nat.{zero-add}
use lib.ListN.{get_or, set}
use Rattle.basics.specs.Build.{build}
use Rattle.basics.specs.Lists.{filter, back, All}
use Rattle.basics.proofs.ListLaws.{filter_all, front_all, front_whole}
use Rattle.basics.proofs.EdgeLaws.{build_append, all_build, filter_keeps, filter_drops, filter_back, front_stops}
use Rattle.rules.specs.declared.Base.{Base}
use Rattle.rules.specs.declared.Chrom.{Chrom}
use Rattle.rules.specs.Overlap.{lasts}
use Rattle.queue.specs.declared.Ring.{Ring}
use Rattle.queue.specs.declared.Slot.{Slot}
use Rattle.queue.specs.Ring.{Cells, Sound, Fair, slot_at, place, nth, oldest, waiting}
use Rattle.queue.specs.Deeds.{Clears, Skips, Leads, Packs, Packable, ends}
use Rattle.queue.proofs.Places.{nth_put, nth_other, oldest_put, fair_put}
use Rattle.queue.proofs.Waiting.{moved, nothing_waits, waiting_cons, live_own, live_other}
use Rattle.queue.proofs.Pushing.{oldest_more, fair_len}

-- ---- past what is dead at the front

-- the ring q, on the way from q₀: what is to be found behind the dead ones is the same
pub record Skipping (q₀ q : Ring) (c : Cells) (from : ℕ) : Type 0 where
  pub sound : Sound q
  pub room : q.room ≡ q₀.room
  pub chrom : q.chrom ≡ q₀.chrom
  pub same : back (λ r. not (ends from r)) (waiting q c) ≡ back (λ r. not (ends from r)) (waiting q₀ c)

module _ (q₀ q : Ring) (c : Cells) (from : ℕ) (v : Skipping q₀ q c from) where
  pub skipping_end : q.len ≡ 0 → Skips q₀ c from q
  skipping_end h = record {
    sound = v.sound;
    room = v.room;
    chrom = v.chrom;
    left = nothing_waits q c h ∙ sym (sym v.same ∙ rw (nothing_waits q c h));
  }

  -- the test at the head is one of the first that waits
  module _ (x : Slot) (more : 0 < q.len) (here : x ≡ slot_at c (place q.head q.room 0)) where
    first : ends from (nth q c 0) ≡ lasts from x.stop
    first = rw here

    pub skipping_stop : lasts from x.stop ≡ true → Skips q₀ c from q
    skipping_stop h = record {
      sound = v.sound;
      room = v.room;
      chrom = v.chrom;
      left = sym (sym v.same ∙ rw (waiting_cons q c (q.len - 1) _ v.sound (omega arith) refl, first, h));
    }

    pub skipping_next : (next : ℕ) → next ≡ place q.head q.room 1 → lasts from x.stop ≡ false → next < q.room → Skipping q₀ (moved q next (q.len - 1)) c from
    skipping_next next on h l = record {
      sound = record { inside = l; fits = omega arith; small = v.sound.small };
      room = v.room;
      chrom = v.chrom;
      same = sym (sym v.same ∙ rw (waiting_cons q c (q.len - 1) next v.sound (omega arith) on, first, h));
    }

-- ---- how many stay where they are

module _ (q : Ring) (c : Cells) (from k : ℕ) (v : (j : ℕ) → j < k → ends from (nth q c j) ≡ true) where
  leads : All (λ r. ends from r ≡ true) (oldest k q c)
  leads = all_build (nth q c) k 0 (λ j i l. v j (omega arith))

  -- the one behind them is not live
  pub leads_stop : k < q.len → ends from (nth q c k) ≡ false → Leads q c from k
  unfolding waiting build
  leads_stop more h =
      let m : ℕ = q.len - suc k in
      let n : q.len ≡ k + suc m = omega arith in
      record {
        few = omega arith;
        ahead = sym (rw (n, build_append (nth q c) k (suc m) 0, zero-add k) (front_stops (nth q c k) (build (nth q c) m (suc k)) leads h));
      }

-- all are live
pub leads_all : (q : Ring) (c : Cells) (from : ℕ) → ((j : ℕ) → j < q.len → ends from (nth q c j) ≡ true) → Leads q c from q.len
unfolding waiting
leads_all q c from v = record { few = omega arith; ahead = sym (front_whole (leads q c from q.len v)) }

-- ---- the rest, moved up

-- the first k were gone through, and kept of them stay; behind them all is as it was
pub record Packing (q : Ring) (from : ℕ) (c₀ c : Cells) (kept k : ℕ) : Type 0 where
  pub few : kept ≤ k
  pub fair : Fair q c
  pub ahead : oldest kept q c ≡ filter (ends from) (oldest k q c₀)
  pub behind : (j : ℕ) → k ≤ j → j < q.len → nth q c j ≡ nth q c₀ j

pub packing_start : (q : Ring) (from : ℕ) (c : Cells) (n : ℕ) → Packable q c from n → Packing q from c c n n
packing_start q from c n p = record {
  few = omega arith;
  fair = p.fair;
  ahead = sym (filter_all p.ahead);
  behind = λ j a b. refl;
}

module _ (q : Ring) (from : ℕ) (c₀ c : Cells) (kept k : ℕ) (v : Packing q from c₀ c kept k) where
  -- one slot more, which stands at `at`
  module _ (at : ℕ) (more : k < q.len) (here : at ≡ place q.head q.room k) where
    seen : ends from (nth q c₀ k) ≡ lasts from (slot_at c at).stop
    seen = sym (rw here (ap (ends from) (v.behind k (omega arith) more)))

    pub packing_drop : lasts from (slot_at c at).stop ≡ false → Packing q from c₀ c kept (k + 1)
    packing_drop h = record {
      few = omega arith;
      fair = v.fair;
      ahead = v.ahead ∙ sym (rw (oldest_more q c₀ k) (filter_drops (ends from) (oldest k q c₀) (nth q c₀ k) (seen ∙ h)));
      behind = λ j a b. v.behind j (omega arith) b;
    }

    pub packing_keep : (to : ℕ) → to ≡ place q.head q.room kept → lasts from (slot_at c at).stop ≡ true → Packing q from c₀ (set c to (get_or c at [])) (kept + 1) (k + 1)
    packing_keep to there h = record {
      few = omega arith;
      fair = fair_put q c to (get_or c at []) v.fair;
      ahead =
          oldest_more q (set c to (get_or c at [])) kept
          ∙ rw (oldest_put q c v.fair kept to (omega arith) there (get_or c at []) kept (omega arith), nth_put q c v.fair kept to (omega arith) there (get_or c at []), v.ahead, here, v.behind k (omega arith) more)
          (sym (rw (oldest_more q c₀ k) (filter_keeps (ends from) (oldest k q c₀) (nth q c₀ k) (seen ∙ h))));
      behind = λ j a b. nth_other q c v.fair kept to (omega arith) there (get_or c at []) j (omega arith) (λ e. omega arith) ∙ v.behind j (omega arith) b;
    }

  pub packing_end : k ≡ q.len → Packs q c₀ from (moved q q.head kept) c
  unfolding waiting
  packing_end e = record { fair = fair_len q c kept v.fair (omega arith); room = refl; chrom = refl; left = v.ahead ∙ rw e }

-- ---- the three together

-- a chromosome by its number
abbrev named : ℕ → Chrom
named n = record { 0 = n }

module _ (q : Ring) (c : Cells) (b : Base) (f : Fair q c) where
  pub clears_other : (q.chrom.0 ≡ b.chrom.0 → ⊥) → Clears q c b (record { head = 0; len = 0; room = q.room; chrom = b.chrom }) c
  clears_other e = record {
    fair = record { sound = record { inside = omega arith; fits = omega arith; small = f.sound.small }; slots = f.slots };
    room = refl;
    chrom = refl;
    left = nothing_waits _ c refl ∙ sym (live_other q c b e);
  }

  module _ (led : Ring) (s : Skips q c b.start led) where
    pub fair_led : Fair led c
    fair_led = record { sound = s.sound; slots = f.slots ∙ sym s.room }

    pub packable_led : (n : ℕ) → Leads led c b.start n → Packable led c b.start n
    packable_led n l = record { fair = fair_led; few = l.few; ahead = rw l.ahead (front_all (ends b.start) (waiting led c)) }

    pub clears_own : (q' : Ring) (c' : Cells) → q.chrom.0 ≡ b.chrom.0 → Packs led c b.start q' c' → Clears q c b q' c'
    clears_own q' c' e p = record {
      fair = p.fair;
      room = p.room ∙ s.room;
      chrom = p.chrom ∙ s.chrom ∙ ap named e;
      left = p.left ∙ rw s.left (filter_back (ends b.start) (waiting q c)) ∙ sym (live_own q c b e);
    }
