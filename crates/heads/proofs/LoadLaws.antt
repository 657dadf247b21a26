-- Loading the first heads: what is left of each stream is then its rows, and the first fault is the one that is named.
use mathlib.Core.Path.{◌≡◌, refl, sym, ap, ◌∙◌}
use mathlib.Core.Bool.{Bool, true, false, cond}
use mathlib.Core.Option.{none, some}
use Prim.Native.Nat.{ℕ, zero, suc, ◌+◌, ◌-◌, ◌<◌, ◌≤◌}
use native.Mathlib.Omega.{arith}
use lib.Dec.{leb, eqb}
use lib.ListN.{length, length-set, get_or}
use lib.Seq.{get_or-set_same, get_or-set_other}
use borrow.Author.Tests.{le-leb, lt-leb, leb-true, leb-false, eqb-true, eqb-false}
use Rattle.basics.specs.Build.{build}
use Rattle.basics.proofs.BuildLaws.{build_front, build_none, build_same, set_raise}
use Rattle.rules.specs.declared.End.{End}
use Rattle.rules.specs.Rows.{fault}
use Rattle.heads.specs.declared.Next.{Next}
use Rattle.std.specs.Prelude.{⊤, Result, Ok, Err}
use Rattle.std.specs.Prelude as std
use Rattle.rules.specs.Streams.{else, check}
use Rattle.rules.specs.Call.{loading}
use Rattle.heads.specs.View.{Cols, Heads, row_at, behind_at, rest_at, rests_of, fresh_of}
use Rattle.heads.specs.Move.{next_record, check_of, ends_at, goes_at, turn_at, Placed, Shaped}
use Rattle.heads.specs.Load.{first_of, load_one, load_to, wrong_first, BeginsAs, LoadsAs, RangesStay}
use Rattle.heads.proofs.CheckLaws.{check_fine, check_wrong}

module _ (s : Cols) (n : ℕ) (h : Heads) (k : ℕ) where
  -- no row
  pub begun_ends : get_or h.to k 0 ≤ get_or h.next k 0 → BeginsAs s n h k (Ok tt) (ends_at h k)
  unfolding load_one
  begun_ends e = record { check = rw (le-leb (get_or h.to k 0) (get_or h.next k 0) e); heads = λ z. rw (le-leb (get_or h.to k 0) (get_or h.next k 0) e) }

  -- a row: `w` is what was found wrong with it
  module _ (e : get_or h.next k 0 < get_or h.to k 0) (x : Next) (w : Result ⊤ End) (is : x ≡ first_of s h k) (found : w ≡ check_of (fault n none (next_record (record { 0 = k }) x))) where
    seen : w ≡ check_of (fault n none (row_at s (get_or h.from k 0) k (get_or h.next k 0)))
    seen = found ∙ ap (λ (y : Next). check_of (fault n none (next_record (record { 0 = k }) y))) is

    begun_by_lem : (g : Heads) → (fault n none (row_at s (get_or h.from k 0) k (get_or h.next k 0)) ≡ none → g ≡ goes_at h k (first_of s h k)) → BeginsAs s n h k w g
    unfolding load_one
    begun_by_lem g f = record { check = rw (lt-leb (get_or h.to k 0) (get_or h.next k 0) e) seen; heads = λ z. rw (lt-leb (get_or h.to k 0) (get_or h.next k 0) e) (f (rw (lt-leb (get_or h.to k 0) (get_or h.next k 0) e) at z)) }

    pub begun_goes : w ≡ Ok tt → BeginsAs s n h k (Ok tt) (goes_at h k x)
    begun_goes q = rw (← q) (begun_by_lem (goes_at h k x) (λ v. ap (goes_at h k) is))

-- what is wrong with the first row is what its check says
wrong_check : (s : Cols) (n : ℕ) (h : Heads) (k : ℕ) → wrong_first s n h k ≡ check n none (behind_at s h k)
wrong_check s n h k = go (leb (get_or h.to k 0) (get_or h.next k 0)) refl
  where
    go : (t : Bool) → leb (get_or h.to k 0) (get_or h.next k 0) ≡ t → cond t none (fault n none (row_at s (get_or h.from k 0) k (get_or h.next k 0))) ≡ check n none (behind_at s h k)
    go true e = rw (build_none (row_at s (get_or h.from k 0) k) (get_or h.to k 0) (get_or h.next k 0) (leb-true (get_or h.to k 0) (get_or h.next k 0) e))
    go false e = rw (build_front (row_at s (get_or h.from k 0) k) (get_or h.to k 0) (get_or h.next k 0) (leb-false (get_or h.to k 0) (get_or h.next k 0) e))

-- a stream that goes on moves no range
pub turn_stays : (h : Heads) (k : ℕ) (y : std.Option Next) → RangesStay h (turn_at h k y)
turn_stays h k std.None = record { streams = refl; from = refl; to = refl }
turn_stays h k (std.Some x) = record { streams = refl; from = refl; to = refl }

pub stays_on : {h g f : Heads} → RangesStay h g → RangesStay g f → RangesStay h f
stays_on a b = record { streams = b.streams ∙ a.streams; from = b.from ∙ a.from; to = b.to ∙ a.to }

-- what loading the first head of stream k does
pub record Opened (s : Cols) (h g : Heads) (k : ℕ) : Type 0 where
  pub shaped : Shaped g
  pub placed : Placed s g.streams g.next g.from g.to
  pub streams : g.streams ≡ h.streams
  pub from : g.from ≡ h.from
  pub to : g.to ≡ h.to
  pub here : rest_at s g k ≡ behind_at s h k
  pub rest : (j : ℕ) → (j ≡ k → ⊥) → rest_at s g j ≡ rest_at s h j
  pub next : (j : ℕ) → (j ≡ k → ⊥) → get_or g.next j 0 ≡ get_or h.next j 0

module _ (s : Cols) (h : Heads) (k : ℕ) (in8 : Shaped h) (p : Placed s h.streams h.next h.from h.to) (below : k < h.streams) where
  opened_ends : get_or h.to k 0 ≤ get_or h.next k 0 → Opened s h (ends_at h k) k
  opened_ends e =
      let in_d : k < length h.ended = omega (arith, in8.ended, p.few) in
      record {
        shaped = record { chrom = in8.chrom; start = in8.start; stop = in8.stop; row = in8.row; ended = length-set h.ended k 1 ∙ in8.ended; next = in8.next };
        placed = p;
        streams = refl;
        from = refl;
        to = refl;
        here = rw (get_or-set_same h.ended k 1 0 in_d, build_none (row_at s (get_or h.from k 0) k) (get_or h.to k 0) (get_or h.next k 0) e);
        rest = λ j f. simp get_or-set_other;
        next = λ j f. refl;
      }

  opened_goes : get_or h.next k 0 < get_or h.to k 0 → Opened s h (goes_at h k (first_of s h k)) k
  opened_goes e =
      let in_c : k < length h.chrom = omega (arith, in8.chrom, p.few) in
      let in_a : k < length h.start = omega (arith, in8.start, p.few) in
      let in_e : k < length h.stop = omega (arith, in8.stop, p.few) in
      let in_r : k < length h.row = omega (arith, in8.row, p.few) in
      let in_d : k < length h.ended = omega (arith, in8.ended, p.few) in
      let in_n : k < length h.next = omega (arith, in8.next, p.few) in
      record {
        shaped = record { chrom = length-set h.chrom k _ ∙ in8.chrom; start = length-set h.start k _ ∙ in8.start; stop = length-set h.stop k _ ∙ in8.stop; row = length-set h.row k _ ∙ in8.row; ended = length-set h.ended k 0 ∙ in8.ended; next = length-set h.next k _ ∙ in8.next };
        placed = record { few = p.few; starts = p.starts; stops = p.stops; low = λ j b. omega (arith, p.low j b, set_raise h.next k (get_or h.next k 0 + 1) j (omega arith)); high = p.high };
        streams = refl;
        from = refl;
        to = refl;
        here = rw (build_front (row_at s (get_or h.from k 0) k) (get_or h.to k 0) (get_or h.next k 0) e) (simp (get_or-set_same, in_c, in_a, in_e, in_r, in_d, in_n));
        rest = λ j f. simp get_or-set_other;
        next = λ j f. get_or-set_other h.next k j _ 0 f;
      }

  pub opened : Opened s h (load_one s h k) k
  unfolding load_one
  opened = go (leb (get_or h.to k 0) (get_or h.next k 0)) refl
    where
      go : (t : Bool) → leb (get_or h.to k 0) (get_or h.next k 0) ≡ t → Opened s h (cond t (ends_at h k) (goes_at h k (first_of s h k))) k
      go true e = opened_ends (leb-true (get_or h.to k 0) (get_or h.next k 0) e)
      go false e = opened_goes (leb-false (get_or h.to k 0) (get_or h.next k 0) e)

-- the first k heads are loaded, the others are not
pub record Upto (s : Cols) (h g : Heads) (k : ℕ) : Type 0 where
  pub shaped : Shaped g
  pub placed : Placed s g.streams g.next g.from g.to
  pub streams : g.streams ≡ h.streams
  pub from : g.from ≡ h.from
  pub to : g.to ≡ h.to
  pub done : (j : ℕ) → j < k → rest_at s g j ≡ behind_at s h j
  pub todo : (j : ℕ) → k ≤ j → get_or g.next j 0 ≡ get_or h.next j 0

behind_same : (s : Cols) (h g : Heads) (j : ℕ) → g.from ≡ h.from → g.to ≡ h.to → get_or g.next j 0 ≡ get_or h.next j 0 → behind_at s g j ≡ behind_at s h j
behind_same s h g j a b c = rw (a, b, c)

-- the loop over the streams, from the heads h: g are the heads at stream k
pub record Loading (s : Cols) (n : ℕ) (h g : Heads) (k : ℕ) : Type 0 where
  pub is : g ≡ load_to s h k
  pub within : k ≤ h.streams
  pub same : loading n (build (behind_at s h) (h.streams - k) k) ≡ loading n (fresh_of s h)

module _ (s : Cols) (h : Heads) (in8 : Shaped h) (p : Placed s h.streams h.next h.from h.to) where
  upto_next : (g : Heads) (k : ℕ) → k < h.streams → Upto s h g k → Upto s h (load_one s g k) (suc k)
  upto_next g k below u =
      let o : Opened s g (load_one s g k) k = opened s g k u.shaped u.placed (rw u.streams below) in
      record {
        shaped = o.shaped;
        placed = o.placed;
        streams = o.streams ∙ u.streams;
        from = o.from ∙ u.from;
        to = o.to ∙ u.to;
        done = λ j b. go o j b (eqb j k) refl;
        todo = λ j b. o.next j (λ e. omega (arith, b, e)) ∙ u.todo j (omega (arith, b));
      }
    where
      go : Opened s g (load_one s g k) k → (j : ℕ) → j < suc k → (t : Bool) → eqb j k ≡ t → rest_at s (load_one s g k) j ≡ behind_at s h j
      go o j b true e = rw (eqb-true j k e) (o.here ∙ behind_same s h g k u.from u.to (u.todo k (omega arith)))
      go o j b false e = o.rest j (eqb-false j k e) ∙ u.done j (omega (arith, b, eqb-false j k e))

  pub upto : (k : ℕ) → k ≤ h.streams → Upto s h (load_to s h k) k
  unfolding load_to
  upto zero b = record { shaped = in8; placed = p; streams = refl; from = refl; to = refl; done = λ j a. absurd (omega (arith, a)); todo = λ j a. refl }
  upto (suc k) b = upto_next (load_to s h k) k (omega arith) (upto k (omega arith))

  -- loaded heads stand for the streams' rows
  pub load_rests : rests_of s (load_to s h h.streams) ≡ fresh_of s h
  unfolding rests_of fresh_of
  load_rests =
      let u : Upto s h (load_to s h h.streams) h.streams = upto h.streams (omega arith) in
      rw u.streams (build_same (behind_at s h) (rest_at s (load_to s h h.streams)) h.streams 0 (λ j a b. u.done j (omega (arith, b))))

  module _ (n : ℕ) where
    pub load_starts : Loading s n h h 0
    unfolding load_to fresh_of
    load_starts = let z : h.streams - 0 ≡ h.streams = omega arith in record { is = refl; within = omega arith; same = rw z }

    pub load_placed : (g : Heads) (k : ℕ) → Loading s n h g k → Upto s h g k
    load_placed g k l = rw l.is (upto k l.within)

    -- the streams' ranges are those of the start
    pub ranges_stay : (g g' : Heads) (k : ℕ) → Loading s n h g k → RangesStay g g' → RangesStay h g'
    ranges_stay g g' k l r = let u : Upto s h g k = load_placed g k l in stays_on (record { streams = u.streams; from = u.from; to = u.to }) r

    -- the next stream's first row
    turn : (g : Heads) (k : ℕ) → Loading s n h g k → k < h.streams → else (wrong_first s n g k) (loading n (build (behind_at s h) (h.streams - (k + 1)) (k + 1))) ≡ loading n (fresh_of s h)
    turn g k l b =
        let u : Upto s h g k = load_placed g k l in
        let w : wrong_first s n g k ≡ check n none (behind_at s h k) = wrong_check s n g k ∙ ap (check n none) (behind_same s h g k u.from u.to (u.todo k (omega arith))) in
        rw w (rw (build_front (behind_at s h) h.streams k b) at l.same)

    -- w is what was found at stream k, and g' the heads after it
    module _ (g : Heads) (k : ℕ) (l : Loading s n h g k) (b : k < h.streams) (w : Result ⊤ End) (g' : Heads) (x : BeginsAs s n g k w g') where
      pub load_stops : (e : End) (m : Heads) → w ≡ Err e → LoadsAs s n h (Err e) m
      load_stops e m q =
          let z : wrong_first s n g k ≡ some e = check_wrong (wrong_first s n g k) e (sym x.check ∙ q) in
          let y : some e ≡ loading n (fresh_of s h) = rw z at (turn g k l b) in
          record { check = ap check_of y; heads = λ v. let u : ◌≡◌ {A = ℕ} 0 1 = cc in absurd (omega arith) }

      pub load_goes : w ≡ Ok tt → Loading s n h g' (k + 1)
      unfolding load_to
      load_goes q =
          let z : wrong_first s n g k ≡ none = check_fine (wrong_first s n g k) (sym x.check ∙ q) in
          let one_on : k + 1 ≡ suc k = omega arith in
          record { is = x.heads z ∙ rw (l.is, one_on); within = omega arith; same = rw z at (turn g k l b) }

    pub load_ends : (g : Heads) (k : ℕ) → Loading s n h g k → h.streams ≤ k → LoadsAs s n h (Ok tt) g
    unfolding build
    load_ends g k l b =
        let z : h.streams - k ≡ 0 = omega arith in
        let y : k ≡ h.streams = omega (arith, l.within) in
        let none-wrong : none ≡ loading n (fresh_of s h) = rw z at l.same in
        record { check = ap check_of none-wrong; heads = λ v. l.is ∙ ap (load_to s h) y }

    -- the heads that were loaded with nothing wrong
    pub loaded_upto : (w : Result ⊤ End) (g : Heads) → LoadsAs s n h w g → w ≡ Ok tt → Upto s h g h.streams
    loaded_upto w g x q = rw (x.heads (check_fine (loading n (fresh_of s h)) (sym x.check ∙ q))) (upto h.streams (omega arith))
