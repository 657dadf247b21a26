-- The run of texts that were read with nothing wrong begins, is not the cause of 1, and has the columns' own rows.
use mathlib.Core.Path.{◌≡◌, refl, sym, ap, subst, ◌∙◌}
use mathlib.Core.Bool.{Bool, true, false, cond, ◌&&◌}
use mathlib.Core.Option.{Option, none, some}
use mathlib.Core.List.{List, []}
use Prim.Native.Nat.{ℕ, zero, suc, ◌+◌, ◌-◌, ◌≤◌}
use native.Mathlib.Omega.{arith}
use lib.Dec.{leb}
use lib.ListN.{length, get_or, take}
use lib.Seq.{length-take-le}
use borrow.Author.Tests.{eq-eqb}
use Rattle.basics.specs.Lists.{All, nil, cons}
use Rattle.basics.specs.Build.{build}
use Rattle.basics.proofs.SaysLaws.{says_true, says_le, says_and}
use Rattle.rules.specs.declared.Settings.{Settings}
use Rattle.rules.specs.declared.Unbegun.{Unbegun}
use Rattle.rules.specs.declared.Unbegun.TheVariants.{Sizes}
use Rattle.rules.specs.declared.Row.{Row}
use Rattle.rules.specs.Rows.{number, numbered}
use Rattle.rules.specs.Streams.{else}
use Rattle.rules.specs.Start.{refuses_start}
use Rattle.rules.specs.Start as start
use Rattle.rules.specs.Call.{fresh}
use Rattle.rules.specs.Call as rules
use Rattle.fields.specs.Names.{names}
use Rattle.fields.proofs.Naming.{names_length}
use Rattle.heads.specs.View.{Cols}
use Rattle.queue.specs.Ring.{Cells}
use Rattle.std.specs.Prelude.{Ok}
use Rattle.runs.specs.View.{run_of}
use Rattle.pulls.specs.Pulls.{lent}
use Rattle.runs.specs.Start.{Plan, row_in, streams_of, counted, evened, in_rows, lendable, refused_of, fresh_run, started, start_of, kept_of}
use Rattle.runs.proofs.Starting.{ranged_says}
use Rattle.runs.proofs.StartLaws.{begun_fresh, begun_right}
use Rattle.demands.proofs.KeptLaws.{each_all}
use Rattle.inputs.specs.Texts.{Texts, fault, room, bytes_most, bytes_of, names_in, names_of, sizes_fault, found_fault, list_fault, unbegun_fault, settings_in, fault_of, entries_in}
use Rattle.inputs.specs.Read.{places, Named}
use Rattle.inputs.specs.declared.Read.{Read}
use Rattle.inputs.proofs.Streaming.{place_at}
use Rattle.walk.specs.Run.{Own, Comes, Fine, Slots, Begins, plan_of}

-- ---- nothing wrong

else_left : {A : Type 0} (a b : Option A) → else a b ≡ none → a ≡ none
else_left none b e = refl
else_left (some x) b e = e

else_right : {A : Type 0} (a b : Option A) → else a b ≡ none → b ≡ none
else_right none b e = e
else_right (some x) b e = absurd (differ (some x) refl e)
  where
    differ : (o : Option _) → o ≡ some x → o ≡ none → ⊥
    differ none p q = let z : ◌≡◌ {A = ℕ} 0 1 = cc in absurd (omega arith)
    differ (some y) p q = let z : ◌≡◌ {A = ℕ} 0 1 = cc in absurd (omega arith)

-- no size is broken where nothing is wrong
pub fine_sizes : (t : Texts) → fault_of t ≡ none → sizes_fault t ≡ none
unfolding fault_of
fine_sizes t e = else_left (sizes_fault t) _ e

fine_names : (t : Texts) → fault_of t ≡ none → refuses_start (settings_in (length t.streams) (names_of t)) (names_of t) ≡ none
unfolding fault_of
fine_names t e = go (refuses_start (settings_in (length t.streams) (names_of t)) (names_of t)) (else_right (found_fault 0 (entries_in t.list)) _ (else_left (list_fault (length t.streams) t.list) _ (else_right (sizes_fault t) _ e)))
  where
    go : (o : Option Unbegun) → unbegun_fault o ≡ none → o ≡ none
    go none h = refl
    go (some x) h = let z : ◌≡◌ {A = ℕ} 0 1 = cc in absurd (omega arith)

-- ---- the columns' own rows

all_number : (s : Cols) (from : List ℕ) (i k m p : ℕ) → p ≡ get_or from i 0 + k → All (Own s from) (number i k (build (row_in s) m p))
unfolding build
all_number s from i k zero p e = nil
all_number s from i k (suc m) p e = cons (ap (row_in s) e) (all_number s from i (suc k) m (suc p) (omega arith))

all_numbered : (s : Cols) (from to : List ℕ) (n i : ℕ) → All (All (Own s from)) (numbered i (build (λ k. build (row_in s) (get_or to k 0 - get_or from k 0) (get_or from k 0)) n i))
unfolding build
all_numbered s from to zero i = nil
all_numbered s from to (suc n) i = cons (all_number s from i 0 (get_or to i 0 - get_or from i 0) (get_or from i 0) (omega arith)) (all_numbered s from to n (suc i))

-- ---- the run

module _ {t : Texts} {r : Read} {list from to len : List ℕ} {b s : Cols} (is-list : t.list ≡ list) (f : Fine t r from to len b s) where
  abbrev p : Plan
  p = plan_of r list from to s

  abbrev names_is : Named list r.names from to len
  names_is = subst (λ (l : List ℕ). Named l r.names from to len) is-list f.columns.names

  some_streams : (1 ≤ length t.streams) × (length t.streams ≤ 8)
  some_streams =
      let h = (says_and (says_le (bytes_of t) bytes_most) (says_and (says_le 1 (length t.streams)) (says_le (length t.streams) 8))).yes (passed (leb (bytes_of t) bytes_most && start.within 1 8 (length t.streams)) (fine_sizes t f.fine)) in
      h.1
    where
      passed : (u : Bool) → cond u none (some (fault 1 0 0)) ≡ none → u ≡ true
      passed true e = refl
      passed false e = let z : ◌≡◌ {A = ℕ} 0 1 = cc in absurd (omega arith)

  -- as many names are lent as were read
  from_long : length (take r.names from) ≡ r.names
  from_long = length-take-le r.names from (omega (arith, names_is.few, f.rooms.names_from))

  lends : lendable p ≡ true
  unfolding lendable
  lends =
      let count : counted p ≡ true = eq-eqb (length (take r.names from)) r.names from_long in
      let even : evened s ≡ true = rw (f.rooms.chrom, f.rooms.start, f.rooms.stop) in
      let rows : in_rows p ≡ true = says_true (ranged_says (length s.chrom) r.streams places r.to) (
        omega (arith, f.columns.streams, some_streams.1),
        λ k h. (
          omega (arith, place_at k (omega (arith, f.columns.streams, some_streams.1)), f.columns.low k (omega (arith, f.columns.streams))),
          omega (arith, f.columns.high k (omega (arith, f.columns.streams)), f.rooms.chrom, f.columns.streams, some_streams.1),
        ),
      ) in
      rw (count, even, rows) names_is.inside

  -- the names as they stand in the list's text
  abbrev listed : List (List ℕ)
  listed = names list (take r.names from) (take r.names to)

  -- what is fixed from the start is what was judged before the run
  settings_is : p.settings ≡ settings_in (length t.streams) listed
  settings_is =
      ap (λ (n : ℕ). record { streams = n; chroms = r.names; room = room }) f.columns.streams
      ∙ ap (λ (n : ℕ). record { streams = length t.streams; chroms = n; room = room }) (sym (names_length (length list) list (take r.names from) (take r.names to) names_is.inside ∙ from_long))

  begun : start_of p ≡ Ok (fresh_run p.settings p.from p.to)
  unfolding refused_of
  begun =
      ap (λ o. started o p) (ap (λ (u : Bool). cond u (refuses_start p.settings listed) (some Sizes)) lends
      ∙ ap (λ (x : Settings). refuses_start x listed) settings_is
      ∙ ap (λ (ns : List (List ℕ)). refuses_start (settings_in (length t.streams) ns) ns) (names_is.named ∙ ap names_in (sym is-list))
      ∙ fine_names t f.fine)

  -- what is left is all the streams' rows
  abbrev streams : List (List Row)
  streams = streams_of s r.streams places r.to

  fresh_is : (c : Cells) → run_of s c (kept_of (start_of p)) ≡ fresh streams
  fresh_is c = rw (ap kept_of begun) (begun_fresh p begun c)

  from_is : (kept_of (start_of p)).from ≡ places
  from_is = rw begun

  room_is : (kept_of (start_of p)).settings.room ≡ room
  room_is = rw begun

  lengths_long : length (take r.names len) ≡ r.names
  lengths_long = length-take-le r.names len (omega (arith, names_is.few, f.rooms.lengths))

  comes : (c : Cells) → Slots c → Comes s (take r.names len) (kept_of (start_of p)) c
  comes c z = record {
    blameless = λ answers enough.
        let asked : room ≤ length answers = omega (arith, enough, room_is) in
        rw (ap kept_of begun) (begun_right p begun (take r.names len) (lent c answers) (record { listed = lengths_long; slots = z; answer = asked }));
    whole = rw begun (λ z. record { chrom = refl; start = refl; stop = refl; row = refl; ended = refl; next = refl });
    room = room_is;
    left = λ k. subst (λ (l : List ℕ). All (Own s l) (get_or (run_of s c (kept_of (start_of p))).left k [])) (sym from_is)
        (subst (λ (x : rules.Run). All (Own s places) (get_or x.left k [])) (sym (fresh_is c)) (each_all (Own s places) (all_numbered s places r.to r.streams 0) k));
    queue = subst (λ (l : List ℕ). All (Own s l) (run_of s c (kept_of (start_of p))).queue) (sym from_is) (subst (λ (x : rules.Run). All (Own s places) x.queue) (sym (fresh_is c)) nil);
  }

  pub begins : Begins t r.names len s (kept_of (start_of p))
  begins = record {
    comes = comes;
    fresh_run = λ c. fresh_is c ∙ ap (λ (n : ℕ). fresh (streams_of s n places r.to)) f.columns.streams ∙ ap fresh f.columns.rows;
  }
