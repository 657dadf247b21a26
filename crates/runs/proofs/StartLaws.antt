-- What a run that begins stands for and keeps to, and what is answered where none begins.
use mathlib.Core.Path.{◌≡◌, refl, sym, ap, ◌∙◌}
use mathlib.Core.Bool.{Bool, true, false, cond, ◌&&◌}
use mathlib.Core.Option.{none, some}
use mathlib.Core.List.{List, ◌∷◌}
use Prim.Native.Nat.{ℕ, zero, suc, ◌-◌, ◌≤◌}
use native.Mathlib.Omega.{arith}
use lib.ListN.{length, get_or}
use Rattle.basics.specs.Build.{build}
use Rattle.basics.specs.Lists.{nil}
use Rattle.basics.proofs.BuildLaws.{build_same}
use Rattle.basics.proofs.BoolLaws.{and_left, and_also, clash}
use Rattle.basics.proofs.SaysLaws.{says_eq, says_and}
use Rattle.rules.specs.declared.Row.{Row}
use Rattle.rules.specs.declared.Base.{Base}
use Rattle.rules.specs.declared.Settings.{Settings}
use Rattle.rules.specs.declared.Unbegun.{Unbegun}
use Rattle.rules.specs.declared.Unbegun.TheVariants as unbegun
use Rattle.rules.specs.declared.Refusal.TheVariants.{Sizes}
use Rattle.rules.specs.Rows.{Record, number, numbered}
use Rattle.rules.specs.Call.{fresh, refuse, give}
use Rattle.chroms.specs.Check.{all_named}
use Rattle.heads.specs.View.{Cols, row_at, behind_at, fresh_of}
use Rattle.least.specs.Fours.{is_ended}
use Rattle.queue.specs.Ring.{Cells}
use Rattle.queue.proofs.Calls.{fresh_fair, fresh_none}
use Rattle.queue.proofs.Calls as queue
use Rattle.admit.specs.Right.{measured}
use Rattle.admit.specs.Fits.{Fits}
use Rattle.admit.proofs.RightLaws.{right_off, fits_right}
use Rattle.std.specs.Prelude.{Ok, Err}
use Rattle.runs.specs.declared.Run.{Run}
use Rattle.runs.specs.View.{heads_of, run_of, eight}
use Rattle.pulls.specs.Pulls.{Lent}
use Rattle.runs.specs.Comes.{lens_of, right_of, given_of}
use Rattle.runs.specs.Start.{Plan, names_of, row_in, streams_of, counted, evened, in_rows, in_text, lendable, fresh_run, none_run, start_of, kept_of, Lends}
use Rattle.runs.proofs.ViewLaws.{eight_at}
use Rattle.runs.proofs.Starting.{ranged_says, sized_of, sized_true, fits, judged, begun_is}

-- ---- a run that begins stands for the rules' fresh run

-- each row of a range is numbered by how far it stands from the range's first
number_rows : (s : Cols) (k from n p : ℕ) → from ≤ p → number k (p - from) (build (row_in s) n p) ≡ build (row_at s from k) n p
unfolding build
number_rows s k from zero p h = refl
number_rows s k from (suc n) p h =
    let e : suc (p - from) ≡ suc p - from = omega arith in
    rw e (ap (λ (l : List Record). row_at s from k p ∷ l) (number_rows s k from n (suc p) (omega arith)))

numbered_build : (f : ℕ → List Row) (n i : ℕ) → numbered i (build f n i) ≡ build (λ k. number k 0 (f k)) n i
unfolding build
numbered_build f zero i = refl
numbered_build f (suc n) i = rw (numbered_build f n (suc i))

number_range : (s : Cols) (k from to : ℕ) → build (row_at s from k) (to - from) from ≡ number k 0 (build (row_in s) (to - from) from)
number_range s k from to =
    let e : from - from ≡ 0 = omega arith in
    sym (rw e at (number_rows s k from (to - from) from (omega arith)))

fresh_left : (s : Cols) (fixed : Settings) (from to : List ℕ) → fresh_of s (heads_of (fresh_run fixed from to)) ≡ numbered 0 (streams_of s fixed.streams from to)
unfolding fresh_of
fresh_left s fixed from to =
    build_same (λ k. number k 0 (build (row_in s) (get_or to k 0 - get_or from k 0) (get_or from k 0))) (behind_at s (heads_of (fresh_run fixed from to))) fixed.streams 0 (λ k a b. number_range s k (get_or from k 0) (get_or to k 0)) ∙
    sym (numbered_build (λ k. build (row_in s) (get_or to k 0 - get_or from k 0) (get_or from k 0)) fixed.streams 0)

module _ (p : Plan) {r : Run} (begun : start_of p ≡ Ok r) where
  -- "A fresh run": what is left of each stream is all its rows, numbered from 0, and nothing waits
  pub begun_fresh : (c : Cells) → run_of p.cols c r ≡ fresh (streams_of p.cols p.settings.streams p.from p.to)
  begun_fresh c = rw ((begun_is p begun).1, fresh_left p.cols p.settings p.from p.to, fresh_none p.settings.room (record { 0 = 0 }) c)

-- ---- "A run that comes back so is never itself the cause of 1: its start [..]"

-- a start that begins a run has tested all that 1 asks of it
begun_tested : (p : Plan) {r : Run} → start_of p ≡ Ok r → sized_of p && lendable p ≡ true
begun_tested p begun = go (sized_of p && lendable p) (sym (judged p) ∙ (begun_is p begun).0)
  where
    go : (t : Bool) → cond t (cond (all_named (names_of p)) none (some unbegun.Names)) (some unbegun.Sizes) ≡ none → t ≡ true
    go true e = refl
    go false e = cc

module _ (p : Plan) {r : Run} (begun : start_of p ≡ Ok r) (lengths : List ℕ) (l : Lent) (d : Lends p lengths l) where
  begun_fits : Fits (lens_of p.cols lengths l) p.settings.streams p.settings.chroms (queue.fresh p.settings.room (record { 0 = 0 })) (eight 1) (eight 0) p.from p.from p.to l.cells
  unfolding lendable
  begun_fits =
      let t = begun_tested p begun in
      let z = sized_true p (and_left (sized_of p) (lendable p) t) in
      let lent = and_left (fits p) (in_text p) (and_also (sized_of p) (lendable p) t) in
      let level = and_also (counted p) (evened p.cols) (and_left (counted p && evened p.cols) (in_rows p) lent) in
      let even = (says_and (says_eq (length p.cols.start) (length p.cols.chrom)) (says_eq (length p.cols.stop) (length p.cols.chrom))).yes level in
      let range = (ranged_says (length p.cols.chrom) p.settings.streams p.from p.to).yes (and_also (counted p && evened p.cols) (in_rows p) lent) in
      record {
        some = z.some;
        few = z.few;
        any = z.any;
        listed = z.listed;
        lengths = d.listed;
        fair = fresh_fair p.settings.room (record { 0 = 0 }) l.cells z.roomy z.small d.slots;
        answer = d.answer;
        placed = record { few = z.few; starts = even.0; stops = even.1; low = λ k h. omega arith; high = λ k h. (range.1 k h).1 };
        heads = λ k h e. clash (ap is_ended (eight_at {A = ℕ} 1 0 k (omega (arith, z.few, h)))) e;
        slots = rw (fresh_none p.settings.room (record { 0 = 0 }) l.cells) nil;
      }

  -- 1 is not due, whatever the queue's memory holds
  pub begun_right : right_of p.cols lengths r l ≡ true
  begun_right =
      rw ((begun_is p begun).1)
      (fits_right (lens_of p.cols lengths l) p.settings.streams p.settings.chroms (queue.fresh p.settings.room (record { 0 = 0 })) (eight 1) (eight 0) p.from p.from p.to l.cells
      refl
      begun_fits)

-- ---- "no run begins"

module _ (s : Cols) (lengths : List ℕ) (l : Lent) where
  -- "1 to 8 streams": the run that is kept then has none, so 1 is due whatever is lent
  pub none_wrong : right_of s lengths none_run l ≡ false
  unfolding measured
  none_wrong = right_off (lens_of s lengths l) 0 0 (queue.fresh 0 (record { 0 = 0 })) (eight 1) (eight 0) (eight 0) (eight 0) (eight 0) l.cells refl

  -- every base that is given to it is refused by 1
  pub none_refused : (b : Base) → given_of s lengths none_run b l ≡ refuse (run_of s l.cells none_run) Sizes
  unfolding give
  none_refused b = rw none_wrong

  -- so of the run that is kept of a start that was refused
  module _ (p : Plan) (x : Unbegun) (refused : start_of p ≡ Err x) where
    pub unbegun_wrong : right_of s lengths (kept_of (start_of p)) l ≡ false
    unbegun_wrong = rw refused none_wrong

    pub unbegun_refused : (b : Base) → given_of s lengths (kept_of (start_of p)) b l ≡ refuse (run_of s l.cells (kept_of (start_of p))) Sizes
    unbegun_refused b = rw refused (none_refused b)
