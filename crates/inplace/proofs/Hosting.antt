-- A host's calls on a run that it keeps in place are calls that give its bases one by one, so all that is promised of such calls holds of what it sees.
use mathlib.Core.Path.{◌≡◌, refl, ap, subst}
use mathlib.Core.List.{List, [], ◌++◌}
use Prim.Native.Nat.{ℕ}
use native.Mathlib.Omega.{arith}
use Rattle.basics.specs.Build.{build}
use Rattle.rules.specs.declared.Base.{Base}
use Rattle.rules.specs.declared.Unbegun.TheVariants as unbegun
use Rattle.heads.specs.View.{Cols}
use Rattle.queue.specs.Ring.{Cells}
use Rattle.pulls.specs.Pulls.{Lent, lent}
use Rattle.runs.specs.declared.Run.{Run}
use Rattle.std.specs.Prelude.{Result, Ok, Err}
use Rattle.rules.specs.declared.Unbegun.{Unbegun}
use Rattle.runs.specs.Start.{Plan, start_of, kept_of}
use Rattle.demands.specs.Calls.{Came, Calls, Runs}
use Rattle.demands.proofs.Chained.{calls_then}
use Rattle.many.specs.Many.{base_at}
use Rattle.many.specs.Chain.{Chain}
use Rattle.many.proofs.Chains.{passes_calls}
use Rattle.inplace.specs.declared.Swept.{Swept}
use Rattle.inplace.specs.Told.{offered_of}
use Rattle.inplace.specs.Calls.{begun_number, BeginsInPlace, GivesInPlace}
use Rattle.inplace.specs.Hosted.{Seen, Hosted, none, gave, uneven, Sees, Tells}
use Rattle.inplace.proofs.HostLaws.{uneven_unchanged}

-- the bases that were given, what came of each, and that this is what was seen
pub record OneByOne (s : Cols) (lengths : List ℕ) (r : Run) (c : Cells) (xs : List Seen) (v : Run) (d : Cells) : Type 0 where
  pub bases : List Base
  pub came : List Came
  pub tells : Tells xs bases came
  pub calls : Calls s lengths r c bases came v d

module _ {s : Cols} {lengths : List ℕ} where
  -- one call
  sees : {t : Cols} {r : Run} {l : Lent} {ns : List ℕ} {a : Swept} {r' : Run} {l' : Lent} {ns' : List ℕ} (g : GivesInPlace s lengths t r l ns a r' l' ns') (k : Chain s lengths t r l g.passed l' ns')
      → Sees (record { bases = t; told = a; counts = ns'; rows = l'.answers }) (build (base_at t) g.passed.bases 0 ++ k.more) (k.os ++ k.last)
  sees {t} {ns' = ns'} g k = rw g.told (record {
    answered = k.os;
    more = k.more;
    last = k.last;
    answer = g.passed.last;
    bases = refl;
    came = refl;
    counts = k.counts;
    rows = k.rows;
    offer = ap offered_of k.offer;
    stopped = k.stopped;
    told = refl;
  })

  pub one_by_one : {r v : Run} {c d : Cells} {xs : List Seen} → Hosted s lengths r c xs v d → OneByOne s lengths r c xs v d
  one_by_one none = record { bases = []; came = []; tells = Tells.none; calls = Calls.none }
  one_by_one {v = v} {d = d} (gave {r = r} {c = c} t answers ns a r' l' ns' g even q) =
      let k : Chain s lengths t r (lent c answers) g.passed l' ns' = passes_calls even g.gives in
      let y = one_by_one q in
      record {
        bases = (build (base_at t) g.passed.bases 0 ++ k.more) ++ y.bases;
        came = (k.os ++ k.last) ++ y.came;
        tells = Tells.one (sees g k) y.tells;
        calls = calls_then k.calls (subst (λ (x : Run). Calls s lengths x l'.cells y.bases y.came v d) g.run y.calls);
      }
  one_by_one {v = v} {d = d} (uneven {r = r} {c = c} t answers ns a r' l' ns' g odd q) =
      let same = uneven_unchanged s lengths t r (lent c answers) ns a r' l' ns' g odd in
      let y = one_by_one q in
      record {
        bases = y.bases;
        came = y.came;
        tells = y.tells;
        calls = subst (λ (x : Run). Calls s lengths x c y.bases y.came v d) same.0
            (subst (λ (x : Lent). Calls s lengths r' x.cells y.bases y.came v d) same.1.0 y.calls);
      }

-- a run that `cedarlash_begin` began: its calls are those that the demands speak of
begun : (t : Result Run Unbegun) → 0 ≡ begun_number t → t ≡ Ok (kept_of t)
begun (Ok r) e = refl
begun (Err unbegun.Sizes) e = absurd (omega (arith, e))
begun (Err unbegun.Names) e = absurd (omega (arith, e))

pub hosted_runs : {p : Plan} {lengths : List ℕ} {r v : Run} {c d : Cells} {xs : List Seen} → BeginsInPlace p 0 r → (h : Hosted p.cols lengths r c xs v d) → Runs p lengths (one_by_one h).bases (one_by_one h).came
hosted_runs {p} {lengths} {r} {v} {c} {d} b h =
    let y = one_by_one h in
    record { first = r; begun = rw b.run (begun (start_of p) b.number); cells = c; last = v; left = d; calls = y.calls }
