-- What a host may rely on: the numbers are 01's, memory of zeros is a run that refuses every base, columns of one base are the call that gives it, a
-- refused base leaves the run and all that was
-- lent as they were, any two results agree, bases in columns that differ in length are not given, and ranges that are not one for each stream are refused.
use mathlib.Core.Path.{◌≡◌, refl, sym, ap, subst, ◌∙◌}
use mathlib.Core.Bool.{Bool, true, false, cond, ◌&&◌}
use mathlib.Core.Option.{some}
use mathlib.Core.List.{List}
use Prim.Native.Nat.{ℕ, ◌<◌}
use native.Mathlib.Omega.{arith}
use borrow.Author.Tests.{le-leb, lt-leb, eqb-true}
use lib.Dec.{eqb}
use lib.ListN.{length}
use Rattle.rules.specs.declared.Base.{Base}
use Rattle.rules.specs.declared.Answer.{Answer}
use Rattle.rules.specs.declared.Answer.TheVariants.{Found, Refused, Ended}
use Rattle.std.specs.Prelude.{Some, None}
use Rattle.std.specs.Prelude as std
use Rattle.rules.specs.declared.Refusal.{Refusal}
use Rattle.rules.specs.declared.Refusal.TheVariants.{Sizes}
use Rattle.std.specs.Prelude.{Err}
use Rattle.rules.specs.declared.Settings.{Settings}
use Rattle.rules.specs.declared.Unbegun.TheVariants as unbegun
use Rattle.rules.specs.Numbers.{number_of}
use Rattle.rules.specs.Start.{within, refuses_start}
use Rattle.rules.specs.Call.{Reply, refused, refuse, give}
use Rattle.heads.specs.View.{Heads, Cols}
use Rattle.heads.specs.Move.{Shaped}
use Rattle.queue.specs.declared.Ring.{Ring}
use Rattle.admit.specs.Right.{measured}
use Rattle.admit.proofs.RightLaws.{right_off}
use Rattle.pulls.specs.Pulls.{Lent, drawn_to}
use Rattle.runs.specs.declared.Run.{Run}
use Rattle.runs.specs.Marks.{marked}
use Rattle.runs.specs.View.{heads_of, ring_of, stage_of, run_of, eight}
use Rattle.runs.specs.Start.{Plan, names_of, lendable, refused_of, started, start_of}
use Rattle.runs.specs.Comes.{lens_of, right_of, given_of}
use Rattle.step.specs.Settle.{run_by}
use Rattle.step.specs.Give.{opened_by, Gives}
use Rattle.many.specs.declared.Passed.{Passed}
use Rattle.many.specs.Alike.{AllAlike}
use Rattle.many.proofs.Alikes.{all_alike}
use Rattle.many.specs.Many.{base_at, Unfound, Even, uneven_by}
use Rattle.demands.proofs.OneResult.{Alike, one_result}
use Rattle.sweep.proofs.Single.{single_unstopped, single_one, single_stopped, single_none}
use Rattle.inplace.specs.declared.Swept.{Swept}
use Rattle.inplace.specs.Told.{offered_of, stopped_by, stopped_of, swept_of, alone_of}
use Rattle.inplace.specs.Calls.{streams_in, plan_of, BeginsInPlace, GivesInPlace, answered, GivesAlone}

-- ---- numbers

-- the number that is told is 01's
pub told_number : (a : Answer) → (stopped_of (Some a)).refusal ≡ number_of a
told_number (Found n o) = refl
told_number (Refused x) = refl
told_number (Ended e) = refl

-- none is told where nothing stopped the bases
pub told_none : (stopped_of None).refusal ≡ 0
told_none = refl

-- ---- memory of zeros

abbrev pub zeros : Run
zeros = record { chrom = eight 0; start = eight 0; stop = eight 0; row = eight 0; ended = eight 0; next = eight 0; from = eight 0; to = eight 0; settings = record { streams = 0; chroms = 0; room = 0 }; head = 0; len = 0; place = 0; mark = marked 0 0 0 0 }

module _ (s : Cols) (lengths : List ℕ) (l : Lent) where
  zeros_wrong : right_of s lengths zeros l ≡ false
  unfolding measured
  zeros_wrong = right_off (lens_of s lengths l) 0 0 (ring_of zeros) (eight 0) (eight 0) (eight 0) (eight 0) (eight 0) l.cells refl

  -- a run that was never begun: every base that is given to it is refused by 1
  pub zeros_refused : (b : Base) → given_of s lengths zeros b l ≡ refuse (run_of s l.cells zeros) Sizes
  unfolding give
  zeros_refused b = rw zeros_wrong

-- ---- a base given alone

found_alone : (p : Passed) {a : Answer} → p.bases ≡ 1 → p.last ≡ None → Found p.records p.offer ≡ a → swept_of p ≡ alone_of a
found_alone p i j e = rw (← e, i, j)

other_alone : (p : Passed) (x : Answer) {a : Answer} → (p.bases ≡ 0) × ((p.records ≡ 0) × ((p.offer ≡ None) × Unfound x)) → p.last ≡ Some x → x ≡ a → swept_of p ≡ alone_of a
other_alone p x {a} (i, (j, (k, u))) l e = rw (i, j, k, l, e) (go a (subst Unfound e u))
  where
    go : (a : Answer) → Unfound a → ◌≡◌ {A = Swept} (record { bases = 0; records = 0; offer = offered_of None; last = stopped_by a }) (alone_of a)
    go (Found n o) z = absurd z
    go (Refused x) z = refl
    go (Ended f) z = refl

-- columns of one base are the call that gives it: its answer in numbers, and the sweep's own promise of the run behind the reference before and after
module _ {s : Cols} {lengths : List ℕ} {t : Cols} {r : Run} {l : Lent} {ns : List ℕ} {a : Swept} {r' : Run} {l' : Lent} {ns' : List ℕ} (n : length t.chrom ≡ 1) (even : Even t ns) (g : GivesInPlace s lengths t r l ns a r' l' ns') where
  as_given : {x : Answer} → Gives s lengths r (base_at t 0) l (record { run = g.passed.run; answer = x }) l' → Gives s lengths r (base_at t 0) l (record { run = r'; answer = answered s lengths r (base_at t 0) l }) l'
  as_given {x} y = rw g.run (subst (λ (z : Answer). Gives s lengths r (base_at t 0) l (record { run = g.passed.run; answer = z }) l') y.settles.answer y)

  pub given_alone : GivesAlone s lengths r (base_at t 0) l a r' l'
  given_alone = go g.passed.last refl
    where
      go : (o : std.Option Answer) → g.passed.last ≡ o → GivesAlone s lengths r (base_at t 0) l a r' l'
      go None e =
          let y = single_unstopped n even g.gives e in
          record { told = g.told ∙ found_alone g.passed (single_one n even g.gives e) e y.settles.answer; gives = as_given y }
      go (Some x) e =
          let y = single_stopped n even g.gives x e in
          record { told = g.told ∙ other_alone g.passed x (single_none n even g.gives x e) e y.settles.answer; gives = as_given y }

-- ---- "run unchanged"

by_refused : (t : Reply) (x : Refusal) (b : Base) (h : Heads) (r : Run) (q : Ring) → t ≡ refused x → run_by t b h r q ≡ r
by_refused t x b h r q e = rw e

module _ (s : Cols) (lengths : List ℕ) (r : Run) (b : Base) (l : Lent) (a : Swept) (r' : Run) (l' : Lent) (g : GivesAlone s lengths r b l a r' l') where
  -- a refused base leaves the run as it was, every number of it, and all that was lent
  pub unchanged : (x : Refusal) → (given_of s lengths r b l).reply ≡ refused x → (r' ≡ r) × (l' ≡ l)
  unchanged x e = (
    g.gives.settles.exact ∙ by_refused (given_of s lengths r b l).reply x b (drawn_to s r.settings.chroms b (opened_by (stage_of r) s (heads_of r))) r (ring_of r') e,
    g.gives.still x e,
  )

  -- ---- "any two results allowed by a statement are equal"

  pub one_told : (u : Swept) (k : Run) (m : Lent) → GivesAlone s lengths r b l u k m → a ≡ u
  one_told u k m f = g.told ∙ sym f.told

  -- the run and what was lent, as far as the call by value says them
  pub one_run : (u : Swept) (k : Run) (m : Lent) → GivesAlone s lengths r b l u k m
      → Alike (given_of s lengths r b l).reply (record { run = r'; answer = answered s lengths r b l }) l' (record { run = k; answer = answered s lengths r b l }) m
  one_run u k m f = one_result s lengths r b l (record { run = r'; answer = answered s lengths r b l }) l' (record { run = k; answer = answered s lengths r b l }) m g.gives f.gives

-- ---- "any two results allowed by a statement are equal": what is told of many bases, the counts and the answer rows

module _ {s : Cols} {lengths : List ℕ} {t : Cols} {r : Run} {l : Lent} {ns : List ℕ} {a b : Swept} {r' k : Run} {l' m : Lent} {ns' ms : List ℕ} (shaped : Shaped (heads_of r)) (even : Even t ns)
    (g : GivesInPlace s lengths t r l ns a r' l' ns') (f : GivesInPlace s lengths t r l ns b k m ms) where
  alike : AllAlike s g.passed l' ns' f.passed m ms
  alike = all_alike s lengths t r l ns shaped even g.gives f.gives

  same_swept : swept_of g.passed ≡ swept_of f.passed
  same_swept = rw (alike.bases, alike.records, alike.offer, alike.last)

  pub one_swept : a ≡ b
  one_swept = g.told ∙ same_swept ∙ sym f.told

  pub one_left : (ns' ≡ ms) × (l'.answers ≡ m.answers)
  one_left = (alike.counts, alike.answers)

-- ---- bases in columns that differ in length

-- none of them was given: the run, all that was lent and the counts stay, and what is told is 1, or the end again of a run that has ended
module _ (s : Cols) (lengths : List ℕ) (t : Cols) (r : Run) (l : Lent) (ns : List ℕ) (a : Swept) (r' : Run) (l' : Lent) (ns' : List ℕ) (g : GivesInPlace s lengths t r l ns a r' l' ns') (d : Even t ns → ⊥) where
  pub uneven_unchanged : (r' ≡ r) × ((l' ≡ l) × (ns' ≡ ns))
  uneven_unchanged = (g.run ∙ ap (λ (p : Passed). p.run) (g.gives.uneven d).passed, ((g.gives.uneven d).lent, (g.gives.uneven d).counts))

  pub uneven_told : a ≡ record { bases = 0; records = 0; offer = offered_of None; last = stopped_by (uneven_by (stage_of r)) }
  uneven_told = g.told ∙ ap swept_of (g.gives.uneven d).passed

-- ---- a start: "any two results allowed by a statement are equal"

pub one_number : (p : Plan) (n m : ℕ) (r k : Run) → BeginsInPlace p n r → BeginsInPlace p m k → n ≡ m
one_number p n m r k f g = f.number ∙ sym g.number

pub one_begun : (p : Plan) (n m : ℕ) (r k : Run) → BeginsInPlace p n r → BeginsInPlace p m k → r ≡ k
one_begun p n m r k f g = f.run ∙ sym g.run

-- ---- the ranges

-- "1 to 8 streams."
few_refused : (p : Plan) → within 1 8 p.settings.streams ≡ false → start_of p ≡ Err unbegun.Sizes
unfolding refused_of refuses_start
few_refused p e = go (lendable p)
  where
    go : (t : Bool) → started (cond t (refuses_start p.settings (names_of p)) (some unbegun.Sizes)) p ≡ Err unbegun.Sizes
    go true = rw e
    go false = refl

module _ (x : Settings) (from to : List ℕ) (text names_from names_to : List ℕ) (s : Cols) where
  -- "a range for each stream": "lent columns differ in length"
  pub uneven_refused : ((length from ≡ x.streams) × (length to ≡ x.streams) → ⊥) → start_of (plan_of x from to text names_from names_to s) ≡ Err unbegun.Sizes
  uneven_refused d = few_refused (plan_of x from to text names_from names_to s) (go (eqb (length from) x.streams) (eqb (length to) x.streams) refl refl)
    where
      go : (t u : Bool) → eqb (length from) x.streams ≡ t → eqb (length to) x.streams ≡ u → within 1 8 (streams_in x.streams (length from) (length to)) ≡ false
      go true true a b = absurd (d (eqb-true (length from) x.streams a, eqb-true (length to) x.streams b))
      go true false a b = rw (a, b)
      go false u a b = rw a

  pub many_refused : 8 < x.streams → start_of (plan_of x from to text names_from names_to s) ≡ Err unbegun.Sizes
  many_refused d = few_refused (plan_of x from to text names_from names_to s) (go (eqb (length from) x.streams && eqb (length to) x.streams))
    where
      go : (t : Bool) → within 1 8 (cond t x.streams 0) ≡ false
      go true = rw (lt-leb x.streams 8 d, le-leb 1 x.streams (omega (arith, d)))
      go false = refl
