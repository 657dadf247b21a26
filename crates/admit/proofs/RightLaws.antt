-- 1's test decides `Fits`: its parts one by one, and what a caller cites.
use mathlib.Core.Path.{◌≡◌, sym, ◌∙◌}
use mathlib.Core.Bool.{Bool, true, false, ◌&&◌}
use mathlib.Core.List.{List}
use Prim.Native.Nat.{ℕ, ◌-◌, ◌<◌, ◌≤◌}
use native.Mathlib.Omega.{arith}
use lib.ListN.{get_or}
use Rattle.basics.specs.Lists.{Says, All}
use Rattle.basics.proofs.SaysLaws.{says_true, says_same, says_map, says_is, says_le, says_lt, says_eq, says_then, says_and, says_or, says_all, says_upto}
use Rattle.heads.specs.Move.{PlacedIn}
use Rattle.queue.specs.declared.Ring.{Ring}
use Rattle.queue.specs.Ring.{Cells, Sound, waiting}
use Rattle.admit.specs.declared.Lens.{Lens}
use Rattle.admit.specs.Right.{measured, placed, named, heads_named, slots_named, right}
use Rattle.admit.specs.Fits.{Told, Fits}
use Rattle.least.specs.Fours.{is_ended}

-- ---- a stream and a row that are named

pub named_says : (n : ℕ) (from to : List ℕ) (s row : ℕ) → Says (named n from to s row) ((s < n) × (row < get_or to s 0 - get_or from s 0))
unfolding named
named_says n from to s row = says_and (says_lt s n) (says_lt row (get_or to s 0 - get_or from s 0))

-- the row that stands at place p of the columns, among those of stream s
pub named_place : (n : ℕ) (from to : List ℕ) (s p : ℕ) → s < n → get_or from s 0 ≤ p → p < get_or to s 0 → named n from to s (p - get_or from s 0) ≡ true
named_place n from to s p h low high = says_true (named_says n from to s (p - get_or from s 0)) (h, omega arith)

-- ---- sizes and lengths

pub record Measured (l : Lens) (streams chroms : ℕ) (q : Ring) : Type 0 where
  pub some : 1 ≤ streams
  pub few : streams ≤ 8
  pub any : 1 ≤ chroms
  pub listed : chroms ≤ 256
  pub sound : Sound q
  pub starts : l.start ≡ l.chrom
  pub stops : l.stop ≡ l.chrom
  pub lengths : l.lengths ≡ chroms
  pub slots : l.queue ≡ q.room
  pub answer : q.room ≤ l.answers

pub measured_says : (l : Lens) (streams chroms : ℕ) (q : Ring) → Says (measured l streams chroms q) (Measured l streams chroms q)
unfolding measured
measured_says l streams chroms q =
    says_map
    (λ h. record {
      some = h.0.0.0;
      few = h.0.0.1;
      any = h.0.1.0.0;
      listed = h.0.1.0.1;
      sound = record { inside = h.1.1.1.0; fits = h.1.1.1.1; small = h.0.1.1.1 };
      starts = h.1.0.0;
      stops = h.1.0.1.0;
      lengths = h.1.0.1.1;
      slots = h.1.1.0.0;
      answer = h.1.1.0.1;
    })
    (λ m.
    let roomy : 1 ≤ q.room = omega (arith, m.sound.inside) in (
      ((m.some, m.few), ((m.any, m.listed), (roomy, m.sound.small))),
      (
        (m.starts, (m.stops, m.lengths)),
        ((m.slots, m.answer), (m.sound.inside, m.sound.fits)),
      ),
    ))
    (says_and
    (says_and (says_and (says_le _ _) (says_le _ _)) (says_and (says_and (says_le _ _) (says_le _ _)) (says_and (says_le _ _) (says_le _ _))))
    (says_and
    (says_and (says_eq _ _) (says_and (says_eq _ _) (says_eq _ _)))
    (says_and (says_and (says_eq _ _) (says_le _ _)) (says_and (says_lt _ _) (says_le _ _)))))

-- ---- what the run and its queue name

pub placed_says : {lc la le n : ℕ} (next from to : List ℕ) → n ≤ 8 → la ≡ lc → le ≡ lc → Says (placed lc n next from to) (PlacedIn lc la le n next from to)
unfolding placed
placed_says {lc} {n} next from to few starts stops =
    says_map
    (λ h. record { few = few; starts = starts; stops = stops; low = λ k b. (h k b).0; high = λ k b. (h k b).1 })
    (λ p k b. (p.low k b, p.high k b))
    (says_upto (λ k. says_and (says_le (get_or from k 0) (get_or next k 0)) (says_le (get_or to k 0) lc)) n)

heads_say : (n : ℕ) (ended : List ℕ) (row from to : List ℕ) →
    Says (heads_named n ended row from to) ((k : ℕ) → k < n → is_ended (get_or ended k 0) ≡ false → named n from to k (get_or row k 0) ≡ true)
unfolding heads_named
heads_say n ended row from to = says_upto (λ k. says_or (is_ended (get_or ended k 0)) (says_is (named n from to k (get_or row k 0)))) n

slots_say : (n : ℕ) (from to : List ℕ) (q : Ring) (c : Cells) → Says (slots_named n from to q c) (All (λ r. named n from to r.stream.0 r.row ≡ true) (waiting q c))
unfolding slots_named
slots_say n from to q c = says_all (λ r. says_is (named n from to r.stream.0 r.row)) (waiting q c)

-- ---- all of it

module _ (l : Lens) (streams chroms : ℕ) (q : Ring) (ended : List ℕ) (row next from to : List ℕ) (c : Cells) where
  -- the test's parts, as the code goes through them; p is what is said of the streams' places
  pub right_off : measured l streams chroms q ≡ false → right l streams chroms q ended row next from to c ≡ false
  unfolding right
  right_off e = rw e

  pub right_on : measured l streams chroms q ≡ true → (p : Bool) → Says p (PlacedIn l.chrom l.start l.stop streams next from to) →
      right l streams chroms q ended row next from to c ≡ p && (heads_named streams ended row from to && slots_named streams from to q c)
  unfolding right
  right_on e p s =
      let m = (measured_says l streams chroms q).yes e in
      rw (e, says_same (placed_says next from to m.few m.starts m.stops) s)

  -- 1 is not due exactly where all fits
  pub right_says : Told l c → Says (right l streams chroms q ended row next from to c) (Fits l streams chroms q ended row next from to c)
  unfolding right
  right_says t =
      says_map
      (λ h.
      let m = h.0 in
      record {
        some = m.some;
        few = m.few;
        any = m.any;
        listed = m.listed;
        lengths = m.lengths;
        fair = record { sound = m.sound; slots = t ∙ m.slots };
        answer = m.answer;
        placed = h.1.0;
        heads = h.1.1.0;
        slots = h.1.1.1;
      })
      (λ f.
      let m : Measured l streams chroms q = record {
        some = f.some;
        few = f.few;
        any = f.any;
        listed = f.listed;
        sound = f.fair.sound;
        starts = f.placed.starts;
        stops = f.placed.stops;
        lengths = f.lengths;
        slots = sym t ∙ f.fair.slots;
        answer = f.answer;
      } in
      (m, (f.placed, (f.heads, f.slots))))
      (says_then (measured_says l streams chroms q)
      (λ m. says_and (placed_says next from to m.few m.starts m.stops) (says_and (heads_say streams ended row from to) (slots_say streams from to q c))))

  pub right_fits : Told l c → right l streams chroms q ended row next from to c ≡ true → Fits l streams chroms q ended row next from to c
  right_fits t e = (right_says t).yes e

  pub fits_right : Told l c → Fits l streams chroms q ended row next from to c → right l streams chroms q ended row next from to c ≡ true
  fits_right t f = says_true (right_says t) f
