-- A call for many bases is a chain of calls for one.
use mathlib.Core.Path.{◌≡◌, refl, sym, ap, subst, ◌∙◌}
use mathlib.Core.Logic.{◌⊎◌, inl, inr}
use mathlib.Core.List.{List, [], ◌∷◌, ◌++◌, map, map-append}
use Prim.Native.Nat.{ℕ, suc, ◌+◌, ◌≤◌}
use native.Mathlib.Omega.{arith}
use lib.ListN.{length, set, drop, take, length-set}
use lib.Seq.{take-suc-set, take-add}
use Rattle.basics.specs.Build.{build}
use Rattle.basics.proofs.BuildLaws.{build_snoc}
use Rattle.rules.specs.declared.Base.{Base}
use Rattle.rules.specs.Offered.{Offer}
use Rattle.std.specs.Prelude.{Option, Some, None}
use Rattle.rules.specs.declared.Refusal.TheVariants as refusal
use Rattle.rules.specs.declared.Answer.{Answer}
use Rattle.rules.specs.declared.Answer.TheVariants as answer
use Rattle.heads.specs.View.{Cols}
use Rattle.pulls.specs.Pulls.{Lent}
use Rattle.runs.specs.declared.Run.{Run}
use Rattle.demands.specs.Calls.{Came, came, Calls, none, unheeded, count_in, all_rows, last_offer}
use Rattle.demands.proofs.Chained.{calls_then, calls_one, all_rows_one, last_offer_lem}
use Rattle.many.specs.declared.Passed.{Passed}
use Rattle.many.specs.Many as many
use Rattle.many.specs.Many.{base_at, behind, Stays, Passes, Unfound, Ends, all, short, other, Even, Answers, GivesAll}
use Rattle.many.specs.Chain.{Stopped, gone, uncounted, next, Chain}

abbrev count : Came → ℕ
count o = count_in o.answer

-- ---- an answer

-- it is 1, or it is not
is_sizes : (a : Answer) → (a ≡ answer.Refused refusal.Sizes) ⊎ (a ≡ answer.Refused refusal.Sizes → ⊥)
is_sizes (answer.Found n o) = inr (λ e. let y : ◌≡◌ {A = ℕ} 0 1 = cc in absurd (omega arith))
is_sizes (answer.Ended f) = inr (λ e. let y : ◌≡◌ {A = ℕ} 0 1 = cc in absurd (omega arith))
is_sizes (answer.Refused refusal.Sizes) = inl refl
is_sizes (answer.Refused refusal.Beyond) = inr (λ e. let y : ◌≡◌ {A = ℕ} 0 1 = cc in absurd (omega arith))
is_sizes (answer.Refused refusal.Unlisted) = inr (λ e. let y : ◌≡◌ {A = ℕ} 0 1 = cc in absurd (omega arith))
is_sizes (answer.Refused refusal.Unordered) = inr (λ e. let y : ◌≡◌ {A = ℕ} 0 1 = cc in absurd (omega arith))
is_sizes (answer.Refused refusal.Reversed) = inr (λ e. let y : ◌≡◌ {A = ℕ} 0 1 = cc in absurd (omega arith))

found_heeded : (m : ℕ) (o : Offer) → answer.Found m o ≡ answer.Refused refusal.Sizes → ⊥
found_heeded m o e = let y : ◌≡◌ {A = ℕ} 0 1 = cc in absurd (omega arith)

module _ (s : Cols) (lengths : List ℕ) (t : Cols) (r : Run) (l : Lent) (ns : List ℕ) where
  -- ---- the answered ones

  record Sofar (k u : ℕ) (p : Offer) (v : Run) (m : Lent) (ms : List ℕ) : Type 0 where
    os : List Came
    calls : Calls s lengths r l.cells (build (base_at t) k 0) os v m.cells
    counts : take k ms ≡ map count os
    rows : take u m.answers ≡ all_rows os
    offer : p ≡ last_offer os
    long : length ms ≡ length ns

  sofar : {k u : ℕ} {p : Offer} {v : Run} {m : Lent} {ms : List ℕ} → Passes s lengths t r l ns k u p v m ms → k ≤ length ns → Sofar k u p v m ms
  unfolding build
  sofar many.none fit = record { os = []; calls = none; counts = refl; rows = refl; offer = refl; long = refl }
  sofar (many.one {k = k} {u = u} {r₁ = r₁} {l₁ = l₁} {ns₁ = ns₁} i o r₂ l₂ q g z) fit =
      let y = sofar q (omega (arith, fit)) in
      let c : Came = came (answer.Found i o) (drop u l₁.answers) (drop u l₂.answers) in
      let n : k + 1 ≡ suc k = omega arith in
      let zero-plus : 0 + k ≡ k = omega arith in
      let bases : build (base_at t) k 0 ++ (base_at t k ∷ []) ≡ build (base_at t) (k + 1) 0 =
      sym (ap (λ (x : ℕ). build (base_at t) x 0) n ∙ build_snoc (base_at t) k 0 ∙ ap (λ (x : ℕ). build (base_at t) k 0 ++ (base_at t x ∷ [])) zero-plus) in
      record {
        os = y.os ++ c ∷ [];
        calls = subst (λ (x : List Base). Calls s lengths r l.cells x (y.os ++ c ∷ []) r₂ l₂.cells) bases
            (calls_one (drop u l₁.answers) (record { run = r₂; answer = answer.Found i o }) (behind u l₂) y.calls g (found_heeded i o));
        counts = ap (λ (x : ℕ). take x (set ns₁ k i)) n ∙ take-suc-set ns₁ k i (omega (arith, fit, y.long)) ∙ ap (λ (x : List ℕ). x ++ (i ∷ [])) y.counts ∙ sym (map-append count y.os (c ∷ []));
        rows = take-add u i l₂.answers ∙ ap (λ (x : List (List ℕ)). x ++ take i (drop u l₂.answers)) (z ∙ y.rows) ∙ sym (all_rows_one y.os c);
        offer = sym (last_offer_lem y.os c);
        long = length-set ns₁ k i ∙ y.long;
      }

  -- ---- and the next

  record Whole (k u : ℕ) (p : Offer) (a : Option Answer) (w : Run) (l' : Lent) (ms : List ℕ) : Type 0 where
    os : List Came
    more : List Base
    last : List Came
    stopped : Stopped (base_at t k) a more last
    calls : Calls s lengths r l.cells (build (base_at t) k 0 ++ more) (os ++ last) w l'.cells
    counts : take k ms ≡ map count os
    rows : take u l'.answers ≡ all_rows os
    offer : p ≡ last_offer os

  stays_whole : {k u : ℕ} {p : Offer} {v : Run} {m : Lent} {ms : List ℕ} → Sofar k u p v m ms → Whole k u p None v m ms
  stays_whole y = record { os = y.os; more = []; last = []; stopped = gone; calls = calls_then y.calls none; counts = y.counts; rows = y.rows; offer = y.offer }

  whole : {k u : ℕ} {p : Offer} {v : Run} {m : Lent} {ms : List ℕ} {a : Option Answer} {w : Run} {l' : Lent} → Sofar k u p v m ms → Ends s lengths t k u v m a w l' → Whole k u p a w l' ms
  whole y (all e) = stays_whole y
  whole y (short b z f) = stays_whole y
  whole {k} {u} {p} {v} {m} {ms} y (other a w l' b z x g st) = go (is_sizes a)
    where
      rows_stay : take u l'.answers ≡ all_rows y.os
      rows_stay = st ∙ y.rows

      go : (a ≡ answer.Refused refusal.Sizes) ⊎ (a ≡ answer.Refused refusal.Sizes → ⊥) → Whole k u p (Some a) w l' ms
      go (inl e) = record {
        os = y.os;
        more = [];
        last = [];
        stopped = subst (λ (i : Answer). Stopped (base_at t k) (Some i) [] []) (sym e) uncounted;
        calls = calls_then y.calls (unheeded (drop u m.answers) (record { run = w; answer = a }) (behind u l') g e none);
        counts = y.counts;
        rows = rows_stay;
        offer = y.offer;
      }
      go (inr n) = record {
        os = y.os;
        more = base_at t k ∷ [];
        last = came a (drop u m.answers) (drop u l'.answers) ∷ [];
        stopped = next a (drop u m.answers) (drop u l'.answers) x;
        calls = calls_one (drop u m.answers) (record { run = w; answer = a }) (behind u l') y.calls g n;
        counts = y.counts;
        rows = rows_stay;
        offer = y.offer;
      }

  most : {k u : ℕ} {v : Run} {m : Lent} {a : Option Answer} {w : Run} {l' : Lent} → Ends s lengths t k u v m a w l' → k ≤ length t.chrom
  most (all e) = omega (arith, e)
  most (short b z f) = omega (arith, b)
  most (other a w l' b z x g st) = omega (arith, b)

-- a call for bases in columns of one length
pub passes_calls : {s : Cols} {lengths : List ℕ} {t : Cols} {r : Run} {l : Lent} {ns : List ℕ} {p : Passed} {l' : Lent} {ns' : List ℕ} → Even t ns → GivesAll s lengths t r l ns p l' ns' → Chain s lengths t r l p l' ns'
passes_calls {s} {lengths} {t} {r} {l} {ns} even g =
    let a = g.even even in
    let y = whole s lengths t r l ns (sofar s lengths t r l ns a.passes (omega (arith, most s lengths t r l ns a.ends, even.counts))) a.ends in
    record { os = y.os; more = y.more; last = y.last; stopped = y.stopped; calls = y.calls; counts = y.counts; rows = y.rows; offer = y.offer }
