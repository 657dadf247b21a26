-- The records of a base, written to the answer rows.
use mathlib.Core.Path.{◌≡◌, refl, sym, ◌∙◌}
use mathlib.Core.Bool.{Bool, true, false}
use mathlib.Core.List.{List, [], ◌∷◌, ◌++◌, append_assoc, map, map-append}
use Prim.Native.Nat.{ℕ, suc, ◌+◌, ◌≤◌, ◌<◌}
use native.Mathlib.Omega.{arith}
use lib.ListN.{length, get_or, set, drop, length-append, length-map}
use lib.Seq.{set_at, drop-cons}
use lib.Dec.{eqb, ltb}
use Rattle.basics.specs.Build.{build}
use Rattle.basics.specs.Lists.{filter, All}
use Rattle.basics.proofs.BoolLaws.{and_comm, and_left, and_also}
use Rattle.basics.proofs.ListLaws.{filter_cong, all_map}
use Rattle.basics.proofs.EdgeLaws.{filter_keeps, filter_drops}
use Rattle.rules.specs.declared.Base.{Base}
use Rattle.rules.specs.Rows.{Record}
use Rattle.rules.specs.Overlap.{reaches, live, overlaps}
use Rattle.queue.specs.declared.Ring.{Ring}
use Rattle.queue.specs.declared.Slot.{Slot}
use Rattle.queue.specs.Ring.{Cells, slot_at, place, nth, oldest, waiting}
use Rattle.queue.specs.Deeds.{Scans, written, answer_row}
use Rattle.queue.proofs.Pushing.{oldest_more}

-- a record that is written
abbrev pub reached : ℕ → Record → Bool
reached until r = reaches until r.it.start

-- of a record that is live for a base, only the start is to be tested
overlaps_live : (b : Base) (r : Record) → live b r ≡ true → overlaps b r ≡ reached b.stop r
overlaps_live b r h =
    let own : eqb r.it.chrom.0 b.chrom.0 ≡ true = and_left (eqb r.it.chrom.0 b.chrom.0) (ltb b.start r.it.stop) h in
    let late : ltb b.start r.it.stop ≡ true = and_also (eqb r.it.chrom.0 b.chrom.0) (ltb b.start r.it.stop) h in
    rw (own, late) (and_comm (ltb r.it.start b.stop) true)

-- one more answer behind those that were written
written_more : {A : Type 0} (part : Record → A) (d : A) (hits : List Record) (x : Record) (old out : List A) (n : ℕ) → n ≡ length hits → n < length old → out ≡ written part hits old →
    set out n (part x) ≡ written part (hits ++ (x ∷ [])) old
written_more part d hits x old out n e h o =
    let m : length (hits ++ (x ∷ [])) ≡ suc n = length-append hits (x ∷ []) ∙ omega arith in
    rw (o, m, ← e, drop-cons old n d h, set_at (map part hits) (get_or old n d) (drop (suc n) old) (part x) n (length-map hits part ∙ sym e), map-append, append_assoc)

-- the first k were gone through, and n of them were written
pub record Scanning (q : Ring) (c : Cells) (until : ℕ) (l₀ l : List (List ℕ)) (n k : ℕ) : Type 0 where
  pub few : n ≤ k
  pub scans : Scans (filter (reached until) (oldest k q c)) l₀ n l

pub scanning_start : (q : Ring) (c : Cells) (until : ℕ) (l : List (List ℕ)) → Scanning q c until l l 0 0
unfolding build
scanning_start q c until l = record { few = omega arith; scans = record { count = refl; answers = refl } }

-- one slot more
module _ (q : Ring) (c : Cells) (until : ℕ) (l₀ l : List (List ℕ)) (n k : ℕ) (v : Scanning q c until l₀ l n k) (x : Slot) (here : x ≡ slot_at c (place q.head q.room k)) where
  pub scanning_pass : reaches until x.start ≡ false → Scanning q c until l₀ l n (k + 1)
  scanning_pass h = record {
    few = omega arith;
    scans = rw (oldest_more q c k, filter_drops (reached until) (oldest k q c) (nth q c k) (rw here at h)) v.scans;
  }

  pub scanning_put : reaches until x.start ≡ true → n < length l₀ → Scanning q c until l₀ (set l n (x.stream.0 ∷ x.row ∷ [])) (n + 1) (k + 1)
  scanning_put h few = record {
    few = omega arith;
    scans =
        let hits = filter (reached until) (oldest k q c) in
        rw (oldest_more q c k, filter_keeps (reached until) (oldest k q c) (nth q c k) (rw here at h), here) (record {
          count = rw (length-append hits (nth q c k ∷ [])) (omega arith);
          answers = written_more answer_row [] hits (nth q c k) l₀ l n v.scans.count few v.scans.answers;
        });
  }

pub scanning_end : (q : Ring) (c : Cells) (b : Base) (l₀ l : List (List ℕ)) (n k : ℕ) → Scanning q c b.stop l₀ l n k → k ≡ q.len →
    All (λ r. live b r ≡ true) (waiting q c) → Scans (filter (overlaps b) (waiting q c)) l₀ n l
unfolding waiting
scanning_end q c b l₀ l n k v e all =
    rw (filter_cong {p = overlaps b} {q = reached b.stop} (all_map (overlaps_live b) all), ← e) v.scans
