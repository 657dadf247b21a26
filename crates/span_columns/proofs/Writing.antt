-- Laws of spans that are written to two columns, one run behind the other. Assumes nothing.
use Prim.Native.Nat.{ℕ, suc, ◌+◌, ◌≤◌}
use mathlib.Core.Path.{◌≡◌, sym, ap, ◌∙◌}
use mathlib.Core.List.{List, [], ◌∷◌, ◌++◌, map, map-append}
use native.Mathlib.Omega.{arith}
use native.Mathlib.Nat.{add-zero, zero-add, add-suc, suc-add}
use lib.ListN.{length, set, drop, replicate, length-replicate, length-append, length-map}
use lib.Seq.{sets, sets-eq, length-sets}
use Rattle.spans.specs.declared.Span.{Span}
use Rattle.layouts.specs.Columns.{starts_of, stops_of, over}
use Rattle.span_columns.specs.Writing.{Fits, Puts, Fronts}

-- two runs of stores, one behind the other
pub sets_append : {A : Type 0} (xs ys l : List A) (i : ℕ) → sets l i (xs ++ ys) ≡ sets (sets l i xs) (i + length xs) ys
sets_append [] ys l i = rw add-zero
sets_append (x ∷ xs) ys l i = rw (sets_append xs ys (set l i x) (suc i), suc-add, add-suc)

-- the same of one field of spans, with the next place known
sets_on : (f : Span → ℕ) (xs ys : List Span) (l l₁ : List ℕ) (at next : ℕ) → l₁ ≡ sets l at (map f xs) → next ≡ at + length xs →
    sets l₁ next (map f ys) ≡ sets l at (map f (xs ++ ys))
sets_on f xs ys l l₁ at next p q = rw (p, q, map-append, sets_append, length-map)

-- what holds where the spans `rest` of all are still to be written, from the place `at` on
pub record Filling (all : List Span) (ss₀ es₀ ss es : List ℕ) (at : ℕ) (rest : List Span) : Type 0 where
  pub so_far : at + length rest ≡ length all
  pub long_starts : length ss ≡ length ss₀
  pub long_stops : length es ≡ length es₀
  pub starts_left : sets ss at (starts_of rest) ≡ sets ss₀ 0 (starts_of all)
  pub stops_left : sets es at (stops_of rest) ≡ sets es₀ 0 (stops_of all)

module _ (all : List Span) (ss₀ es₀ ss es : List ℕ) (at : ℕ) where
  pub filling_end : {rest : List Span} → rest ≡ [] → Filling all ss₀ es₀ ss es at rest → Puts all 0 ss₀ es₀ at ss es
  filling_end e f =
      record {
        after = omega (arith, f.so_far, ap length e);
        starts_are = sym (ap (λ (l : List Span). sets ss at (starts_of l)) e) ∙ f.starts_left;
        stops_are = sym (ap (λ (l : List Span). sets es at (stops_of l)) e) ∙ f.stops_left;
      }

  module _ (xs rest : List Span) {left : List Span} (e : left ≡ xs ++ rest) (f : Filling all ss₀ es₀ ss es at left) where
    pub filling_fits : Fits all 0 ss₀ es₀ → Fits xs at ss es
    filling_fits r =
        let n : length left ≡ length xs + length rest = ap length e ∙ length-append xs rest in
        record { starts_fit = omega (arith, f.so_far, f.long_starts, r.starts_fit); stops_fit = omega (arith, f.so_far, f.long_stops, r.stops_fit) }

    pub filling_step : {next : ℕ} {ss₁ es₁ : List ℕ} → Puts xs at ss es next ss₁ es₁ → Filling all ss₀ es₀ ss₁ es₁ next rest
    filling_step {next} {ss₁} {es₁} p =
        let n : length left ≡ length xs + length rest = ap length e ∙ length-append xs rest in
        record {
          so_far = omega (arith, f.so_far, p.after);
          long_starts = rw (p.starts_are, length-sets) f.long_starts;
          long_stops = rw (p.stops_are, length-sets) f.long_stops;
          starts_left = sets_on (λ (x : Span). x.start) xs rest ss ss₁ at next p.starts_are p.after ∙ rw (← e) f.starts_left;
          stops_left = sets_on (λ (x : Span). x.stop) xs rest es es₁ at next p.stops_are p.after ∙ rw (← e) f.stops_left;
        }

-- n times one value, in front of a column
pub over_replicate : (n v : ℕ) (old : List ℕ) → replicate n v ++ drop n old ≡ over (replicate n v) old
over_replicate n v old = ap (λ (k : ℕ). replicate n v ++ drop k old) (sym (length-replicate n v))

-- stores from the front on leave the values, and behind them what stood there
pub sets_front : (vs old : List ℕ) → length vs ≤ length old → sets old 0 vs ≡ over vs old
sets_front vs old h = sets-eq vs old 0 (rw zero-add h) ∙ ap (λ (k : ℕ). vs ++ drop k old) (zero-add (length vs))

pub fronts : {xs : List Span} {ss es ss₁ es₁ : List ℕ} {n : ℕ} → Puts xs 0 ss es n ss₁ es₁ → Fits xs 0 ss es → Fronts (starts_of xs) (stops_of xs) ss es ss₁ es₁
fronts {xs} {ss} {es} p f =
    record {
      starts_are = p.starts_are ∙ sets_front (starts_of xs) ss (rw length-map (omega (arith, f.starts_fit)));
      stops_are = p.stops_are ∙ sets_front (stops_of xs) es (rw length-map (omega (arith, f.stops_fit)));
    }

-- room from the front on
pub fits_front : (xs : List Span) (ss es : List ℕ) {n : ℕ} → n ≡ length xs → n ≤ length ss → n ≤ length es → Fits xs 0 ss es
fits_front xs ss es e p q = record { starts_fit = omega arith; stops_fit = omega arith }

-- the same values under another name
pub fronts_as : {vs ws vs₁ ws₁ ss es ss₁ es₁ : List ℕ} → vs ≡ vs₁ → ws ≡ ws₁ → Fronts vs ws ss es ss₁ es₁ → Fronts vs₁ ws₁ ss es ss₁ es₁
fronts_as {ss = ss} {es = es} p q f =
    record { starts_are = f.starts_are ∙ ap (λ (l : List ℕ). over l ss) p; stops_are = f.stops_are ∙ ap (λ (l : List ℕ). over l es) q }

-- n times two values are the columns of k things that are all alike
pub fronts_alike : (v w : ℕ) {n k : ℕ} {vs ws ss es ss₁ es₁ : List ℕ} → n ≡ k → replicate k v ≡ vs → replicate k w ≡ ws →
    Fronts (replicate n v) (replicate n w) ss es ss₁ es₁ → Fronts vs ws ss es ss₁ es₁
fronts_alike v w e p q f = fronts_as (ap (λ (k : ℕ). replicate k v) e ∙ p) (ap (λ (k : ℕ). replicate k w) e ∙ q) f
