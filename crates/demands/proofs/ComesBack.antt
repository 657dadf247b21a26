-- "A run that comes back so is never itself the cause of 1: its start and every call leave it with the sizes given at its start and naming, in heads
-- and queue, dead slots too where these are looked at, only lent streams and rows. 1 is then due only to what that call is newly given, as too few
-- answer rows."
use mathlib.Core.Path.{◌≡◌, refl, sym, ap, subst, ◌∙◌}
use mathlib.Core.Bool.{Bool, true, false}
use mathlib.Core.List.{List, [], ◌∷◌}
use Prim.Native.Nat.{ℕ, ◌-◌, ◌<◌}
use native.Mathlib.Omega.{arith}
use native.Mathlib.Nat.{zero-add}
use lib.ListN.{length, get_or}
use Rattle.basics.specs.Build.{build}
use Rattle.basics.specs.Lists.{All, nil, cons}
use Rattle.basics.proofs.BoolLaws.{clash}
use Rattle.basics.proofs.BuildLaws.{build_get, build_length}
use Rattle.basics.proofs.EdgeLaws.{all_build}
use Rattle.basics.proofs.ListLaws.{all_head, all_map}
use Rattle.rules.specs.declared.Base.{Base}
use Rattle.rules.specs.declared.End.{End}
use Rattle.rules.specs.declared.Stage.{Stage}
use Rattle.rules.specs.declared.Stage.TheVariants.{Fresh, After, Over}
use Rattle.rules.specs.Rows.{Record}
use Rattle.rules.specs.Call.{Reply, found, refused, ended, refuse, by_stage, give}
use Rattle.rules.specs.Call as rules
use Rattle.rules.specs.declared.Refusal.TheVariants.{Sizes}
use Rattle.theory.proofs.MergeLaws.{Each}
use Rattle.heads.specs.View.{Heads}
use Rattle.heads.specs.View.{Cols, row_at, behind_at, head_at, rest_at, rests_of, fresh_of}
use Rattle.least.specs.Fours.{unless_ended, is_ended}
use Rattle.heads.specs.Move.{Placed, Shaped}
use Rattle.heads.proofs.TurnLaws.{Turning}
use Rattle.queue.specs.Ring.{Cells, Fair, waiting}
use Rattle.queue.proofs.Calls.{fresh_fair, fresh_none}
use Rattle.admit.specs.Gates.{lengths_of}
use Rattle.admit.specs.Right.{named}
use Rattle.admit.proofs.RightLaws.{named_place}
use Rattle.runs.specs.declared.Run.{Run}
use Rattle.runs.specs.declared.Given.{Given}
use Rattle.runs.specs.View.{heads_of, run_with, left_by, run_of, over_of, stage_of, ring_of}
use Rattle.pulls.specs.Pulls.{drawn_to, Found, Lent, lent}
use Rattle.step.specs.Settle.{ended_by, run_by, Going}
use Rattle.step.specs.Give.{opened_by, Gives}
use Rattle.runs.specs.Comes.{right_of, given_of}
use Rattle.runs.specs.Start.{Plan, fresh_run, Lends}
use Rattle.runs.proofs.Starting.{begun_is}
use Rattle.runs.proofs.ViewLaws.{eight_at}
use Rattle.runs.proofs.MarkLaws.{stage_back}
use Rattle.runs.proofs.StartLaws.{begun_right}
use Rattle.demands.proofs.RowsLaws.{give_wrong}
use Rattle.demands.specs.Calls.{Unheeded, Came, Calls, none, call, unheeded, Runs, Blameless, SizedAs}
use Rattle.demands.proofs.KeptLaws.{each_all, Holds, give_holds}
use Rattle.demands.proofs.RangedLaws.{Ranged, drawn_ranged}
use Rattle.demands.proofs.RunAnswers.{FitsOf, fits_so, right_so, right_heeded}

-- ---- what is named

-- a record that names one of a run's streams, and a row of it
abbrev Named : Run → Record → Type 0
Named r a = named r.settings.streams r.from r.to a.stream.0 a.row ≡ true

module _ (s : Cols) (lengths : List ℕ) (r : Run) (l : Lent) (f : FitsOf s lengths r l) where
  -- the rows behind a head stand in its stream's range, and the head is one that 1 looks at
  behind_named : (k : ℕ) → k < r.settings.streams → All (Named r) (behind_at s (heads_of r) k)
  behind_named k h =
      all_build (row_at s (get_or r.from k 0) k) (get_or r.to k 0 - get_or r.next k 0) (get_or r.next k 0)
      (λ p a b. named_place r.settings.streams r.from r.to k p h (omega (arith, f.placed.low k h)) (omega arith))

  rest_named : (k : ℕ) → k < r.settings.streams → All (Named r) (rest_at s (heads_of r) k)
  rest_named k h = go (is_ended (get_or r.ended k 0)) refl
    where
      go : (t : Bool) → is_ended (get_or r.ended k 0) ≡ t → All (Named r) (unless_ended t (head_at (heads_of r) k ∷ behind_at s (heads_of r) k))
      go true e = nil
      go false e = cons (f.heads k h e) (behind_named k h)

  rests_named : Each (All (Named r)) (rests_of s (heads_of r))
  unfolding rests_of
  rests_named = each_all (Named r) (all_build (rest_at s (heads_of r)) r.settings.streams 0 (λ k a b. rest_named k (omega arith)))

  -- so of all that is left of a run, by how it stands
  left_named : (t : Stage) → Each (All (Named r)) (left_by t s (heads_of r))
  unfolding fresh_of
  left_named Fresh = each_all (Named r) (all_build (behind_at s (heads_of r)) r.settings.streams 0 (λ k a b. behind_named k (omega arith)))
  left_named (After p) = rests_named
  left_named (Over e) = rests_named

-- a fact of all that is left is one of the head of each stream that has not ended
head_holds : (P : Record → Type 0) (s : Cols) (h : Heads) → Each (All P) (rests_of s h) → (k : ℕ) → k < h.streams → is_ended (get_or h.ended k 0) ≡ false → P (head_at h k)
unfolding rests_of
head_holds P s h each k below goes_on =
    let is : get_or (build (rest_at s h) h.streams 0) k [] ≡ head_at h k ∷ behind_at s h k =
    build_get (rest_at s h) h.streams 0 k [] below ∙ ap (rest_at s h) (zero-add k) ∙ ap (λ (t : Bool). unless_ended t (head_at h k ∷ behind_at s h k)) goes_on in
    all_head (subst (All P) is (each k))

-- ---- one call

-- each array of a run that goes on has its eight places
abbrev pub Whole : Run → Type 0
Whole r = Going (stage_of r) → Shaped (heads_of r)

-- the run u, with its queue's memory d, comes back from calls of r
pub record Returns (s : Cols) (lengths : List ℕ) (r u : Run) (d : Cells) : Type 0 where
  pub blameless : Blameless s lengths u d
  pub sized : SizedAs r u
  pub whole : Whole u

sized_same : (r : Run) → SizedAs r r
sized_same r = record { streams = refl; chroms = refl; room = refl; from = refl; to = refl }

sized_trans : {r u v : Run} → SizedAs r u → SizedAs u v → SizedAs r v
sized_trans a z = record { streams = z.streams ∙ a.streams; chroms = z.chroms ∙ a.chroms; room = z.room ∙ a.room; from = z.from ∙ a.from; to = z.to ∙ a.to }

-- from what a run kept to, and what the run u after it names
blameless_by : (s : Cols) (lengths : List ℕ) (r : Run) (l : Lent) → FitsOf s lengths r l → (u : Run) (d : Cells) → SizedAs r u → Placed s u.settings.streams u.next u.from u.to → Fair (ring_of u) d
    → ((k : ℕ) → k < u.settings.streams → is_ended (get_or u.ended k 0) ≡ false → Named r (head_at (heads_of u) k)) → All (Named r) (waiting (ring_of u) d) → Blameless s lengths u d
blameless_by s lengths r l f u d z placed fair heads slots answers enough = right_so s lengths u (lent d answers) (record {
  some = rw z.streams f.some;
  few = rw z.streams f.few;
  any = rw z.chroms f.any;
  listed = rw z.chroms f.listed;
  lengths = f.lengths ∙ sym z.chroms;
  fair = fair;
  answer = enough;
  placed = placed;
  heads = λ k b e. named_again (head_at (heads_of u) k) (heads k b e);
  slots = all_map named_again slots;
})
  where
    named_again : (a : Record) → Named r a → Named u a
    named_again a h = rw (z.streams, z.from, z.to) h

-- where 1 is not due at one call, it is due at none but by the answer rows
pub right_blameless : (s : Cols) (lengths : List ℕ) (r : Run) (l : Lent) → right_of s lengths r l ≡ true → Blameless s lengths r l.cells
right_blameless s lengths r l e =
    let f : FitsOf s lengths r l = fits_so s lengths r l e in
    blameless_by s lengths r l f r l.cells (sized_same r) f.placed f.fair f.heads f.slots

-- a base is answered only by a run that goes on
found_going : (s : Cols) (lengths : List ℕ) (r : Run) (b : Base) (l : Lent) → Found (given_of s lengths r b l).reply → Going (stage_of r)
unfolding give
found_going s lengths r b l = go (stage_of r)
  where
    go : (t : Stage) → Found (by_stage (lengths_of lengths) r.settings.room (record { right = right_of s lengths r l; rows = length l.answers }) (run_of s l.cells r) b t).reply → Going t
    go Fresh z = tt
    go (After p) z = tt
    go (Over e) z = z

-- and only where 1 is not due
pub found_right : (s : Cols) (lengths : List ℕ) (r : Run) (b : Base) (l : Lent) → Found (given_of s lengths r b l).reply → right_of s lengths r l ≡ true
found_right s lengths r b l z = go (right_of s lengths r l) refl
  where
    go : (u : Bool) → right_of s lengths r l ≡ u → right_of s lengths r l ≡ true
    go true e = e
    go false e =
        let R = run_of s l.cells r in
        let is : given_of s lengths r b l ≡ refuse R Sizes =
        ap (λ (u : Bool). give (lengths_of lengths) r.settings.room (record { right = u; rows = length l.answers }) R b) e
        ∙ give_wrong (lengths_of lengths) r.settings.room (length l.answers) R b (λ f i. subst Going i (found_going s lengths r b l z)) in
        absurd (subst (λ (x : rules.Given). Found x.reply) is z)

module _ (s : Cols) (lengths : List ℕ) (r : Run) (b : Base) (l : Lent) (g : Given) (l' : Lent) (gives : Gives s lengths r b l g l') (ok : Blameless s lengths r l.cells) (whole : Whole r) where
  -- the run fits with good answer rows, whatever rows this call lends
  abbrev m : Lent
  m = lent l.cells (build (λ k. []) r.settings.room 0)

  fits : FitsOf s lengths r m
  fits =
      let n : length m.answers ≡ r.settings.room = build_length (λ k. []) r.settings.room 0 in
      fits_so s lengths r m (ok m.answers (omega arith))

  -- all that is left after the call, and all that waits
  names : Holds (Named r) (run_of s l'.cells g.run)
  names =
      subst (Holds (Named r)) (sym gives.settles.run)
      (give_holds (Named r) (lengths_of lengths) r.settings.room (record { right = right_of s lengths r l; rows = length l.answers }) (run_of s l.cells r) b (left_named s lengths r m fits (stage_of r), fits.slots))

  -- "run unchanged"
  returns_same : g.run ≡ r → l' ≡ l → Returns s lengths r g.run l'.cells
  returns_same p q = rw (p, q) (record { blameless = ok; sized = sized_same r; whole = whole })

  -- "run ended"
  returns_over : (e : End) → g.run ≡ over_of r e → Returns s lengths r g.run l'.cells
  returns_over e p =
      let sizes : SizedAs r (over_of r e) = record { streams = refl; chroms = refl; room = refl; from = refl; to = refl } in
      let kept = gives.settles.kept in
      let fair : Fair (ring_of (over_of r e)) l'.cells =
      fresh_fair r.settings.room (record { 0 = 0 }) l'.cells (omega (arith, fits.fair.sound.inside)) fits.fair.sound.small (kept ∙ fits.fair.slots) in
      rw p (record {
        blameless =
            blameless_by s lengths r m fits (over_of r e) l'.cells sizes
            (record { few = fits.few; starts = fits.placed.starts; stops = fits.placed.stops; low = λ k h. omega arith; high = fits.placed.high })
            fair (λ k h goes_on. clash (ap is_ended (eight_at {A = ℕ} 1 0 k (omega (arith, fits.few, h)))) goes_on)
            (rw (fresh_none r.settings.room (record { 0 = 0 }) l'.cells) nil);
        sized = sizes;
        whole = λ z. absurd (subst Going (stage_back (Over e)) z);
      })

  -- the base was answered
  returns_found : Shaped (heads_of r) → g.run ≡ run_with r (drawn_to s r.settings.chroms b (opened_by (stage_of r) s (heads_of r))) (ring_of g.run) (After b) → Fair (ring_of g.run) l'.cells → Returns s lengths r g.run l'.cells
  returns_found shaped p fair =
      let d : Ranged s (heads_of r) (drawn_to s r.settings.chroms b (opened_by (stage_of r) s (heads_of r))) = drawn_ranged s r.settings.chroms b (stage_of r) (heads_of r) (record { placed = fits.placed; shaped = shaped }) in
      let w : Turning s (heads_of g.run) = subst (Turning s) (sym (ap heads_of p)) d.turning in
      let sizes : SizedAs r g.run =
      record { streams = ap (λ (x : Run). x.settings.streams) p ∙ d.streams; chroms = ap (λ (x : Run). x.settings.chroms) p; room = gives.settles.room; from = ap (λ (x : Run). x.from) p ∙ d.from; to = ap (λ (x : Run). x.to) p ∙ d.to } in
      let rests : Each (All (Named r)) (rests_of s (heads_of g.run)) = subst (λ (t : Stage). Each (All (Named r)) (left_by t s (heads_of g.run))) (ap (λ (x : Run). stage_of x) p) names.0 in
      record {
        blameless = blameless_by s lengths r m fits g.run l'.cells sizes w.placed fair (head_holds (Named r) s (heads_of g.run) rests) names.1;
        sized = sizes;
        whole = λ z. w.shaped;
      }

  -- whatever is answered, 1 too
  pub returns : Returns s lengths r g.run l'.cells
  returns = by_reply (given_of s lengths r b l).reply refl gives.settles.exact
    where
      by_stage_lem : (e : End) (t : Stage) → stage_of r ≡ t → g.run ≡ ended_by t r e → Returns s lengths r g.run l'.cells
      by_stage_lem e Fresh i p = returns_over e p
      by_stage_lem e (After a) i p = returns_over e p
      by_stage_lem e (Over x) i p = returns_same p (gives.again x i)

      by_reply : (t : Reply) → (given_of s lengths r b l).reply ≡ t → g.run ≡ run_by t b (drawn_to s r.settings.chroms b (opened_by (stage_of r) s (heads_of r))) r (ring_of g.run) → Returns s lengths r g.run l'.cells
      by_reply (found hits o) i p = let z : Found (given_of s lengths r b l).reply = subst Found (sym i) tt in returns_found (whole (found_going s lengths r b l z)) p (gives.settles.fair z)
      by_reply (refused x) i p = returns_same p (gives.still x i)
      by_reply (ended e) i p = by_stage_lem e (stage_of r) refl p

-- the same of a call at which 1 was not due and the base was answered
pub comes_back : (s : Cols) (lengths : List ℕ) (r : Run) (b : Base) (l : Lent) (g : Given) (l' : Lent) → Gives s lengths r b l g l' → right_of s lengths r l ≡ true → Shaped (heads_of r)
    → Found (given_of s lengths r b l).reply → Blameless s lengths g.run l'.cells × Shaped (heads_of g.run)
comes_back s lengths r b l g l' gives right shaped answered =
    let back : Returns s lengths r g.run l'.cells = returns s lengths r b l g l' gives (right_blameless s lengths r l right) (λ z. shaped) in
    (back.blameless, back.whole (goes_on (given_of s lengths r b l).reply answered gives.settles.exact))
  where
    goes_on : (t : Reply) → Found t → g.run ≡ run_by t b (drawn_to s r.settings.chroms b (opened_by (stage_of r) s (heads_of r))) r (ring_of g.run) → Going (stage_of g.run)
    goes_on (found hits o) z p = subst Going (sym (ap (λ (x : Run). stage_of x) p)) tt
    goes_on (refused x) z p = absurd z
    goes_on (ended e) z p = absurd z

-- and the run is of the streams, and of the sizes, that it was of
pub comes_sized : (s : Cols) (lengths : List ℕ) (r : Run) (b : Base) (l : Lent) (g : Given) (l' : Lent) → Gives s lengths r b l g l' → right_of s lengths r l ≡ true → Shaped (heads_of r) → SizedAs r g.run
comes_sized s lengths r b l g l' gives right shaped = (returns s lengths r b l g l' gives (right_blameless s lengths r l right) (λ z. shaped)).sized

-- ---- every sequence of calls

-- one call, and then others
returns_on : {s : Cols} {lengths : List ℕ} {r u : Run} {b : Base} {l : Lent} {g : Given} {l' : Lent} {d : Cells} → Gives s lengths r b l g l' → Blameless s lengths r l.cells → Whole r
    → (Blameless s lengths g.run l'.cells → Whole g.run → Returns s lengths g.run u d) → Returns s lengths r u d
returns_on {s} {lengths} {r} {u} {b} {l} {g} {l'} {d} gives ok whole on =
    let x : Returns s lengths r g.run l'.cells = returns s lengths r b l g l' gives ok whole in
    let y : Returns s lengths g.run u d = on x.blameless x.whole in
    record { blameless = y.blameless; sized = sized_trans x.sized y.sized; whole = y.whole }

-- the last of the calls
calls_return : {s : Cols} {lengths : List ℕ} {r v : Run} {c d : Cells} {bs : List Base} {os : List Came} → Calls s lengths r c bs os v d → Blameless s lengths r c → Whole r → Returns s lengths r v d
calls_return (none {r = r}) ok whole = record { blameless = ok; sized = sized_same r; whole = whole }
calls_return (call answers g l' gives heeded k) ok whole = returns_on gives ok whole (λ x y. calls_return k x y)
calls_return (unheeded answers g l' gives u k) ok whole = returns_on gives ok whole (λ x y. calls_return k x y)

-- A run that begins by p, and its calls. Where the streams' rows begin stands in eight places, as the array's type says; the lengths and the queue's
-- memory are those of the start, and with the answer rows that one more call lends they are as much as the sizes ask.
module _ (p : Plan) (lengths : List ℕ) (bs : List Base) (os : List Came) (k : Runs p lengths bs os) (places : length p.from ≡ 8) (answers : List (List ℕ)) (d : Lends p lengths (lent k.cells answers)) where
  begun_blameless : Blameless p.cols lengths k.first k.cells
  begun_blameless rows enough =
      begun_right p k.begun lengths (lent k.cells rows) (record { listed = d.listed; slots = d.slots; answer = rw (ap (λ (x : Run). x.settings.room) (begun_is p k.begun).1) at enough })

  begun_whole : Whole k.first
  begun_whole = rw ((begun_is p k.begun).1) (λ z. record { chrom = refl; start = refl; stop = refl; row = refl; ended = refl; next = places })

  begun_returns : Returns p.cols lengths k.first k.last k.left
  begun_returns = calls_return k.calls begun_blameless begun_whole

  -- "its start and every call leave it with the sizes given at its start"
  pub calls_sized : SizedAs (fresh_run p.settings p.from p.to) k.last
  calls_sized = subst (λ (x : Run). SizedAs x k.last) (begun_is p k.begun).1 begun_returns.sized

  -- "and naming, in heads and queue, dead slots too where these are looked at, only lent streams and rows"
  pub calls_right : right_of p.cols lengths k.last (lent k.left answers) ≡ true
  calls_right = begun_returns.blameless answers (rw calls_sized.room d.answer)

  -- "1 is then due only to what that call is newly given": one more call, of any base, is not answered by 1
  pub calls_heeded : (b : Base) (g : Given) (l' : Lent) → Gives p.cols lengths k.last b (lent k.left answers) g l' → Unheeded g → ⊥
  calls_heeded b g l' gives u = right_heeded p.cols lengths k.last b (lent k.left answers) g calls_right gives.settles.answer u
