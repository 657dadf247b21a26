-- The call for many bases, from its tests and its loop.
use mathlib.Core.Path.{◌≡◌, refl, sym, ap, subst, ◌∙◌}
use mathlib.Core.Bool.{Bool, true, false, ◌&&◌}
use mathlib.Core.List.{List}
use Prim.Native.Nat.{ℕ, ◌<◌}
use native.Mathlib.Omega.{arith}
use lib.Dec.{eqb, leb}
use lib.ListN.{length}
use borrow.Author.Tests.{leb-true, le-leb, eqb-true, eqb-false, eq-eqb}
use Rattle.basics.proofs.BoolLaws.{and_left, and_also, clash}
use Rattle.rules.specs.declared.End.{End}
use Rattle.std.specs.Prelude.{Some, None}
use Rattle.rules.specs.declared.Refusal.TheVariants.{Sizes}
use Rattle.rules.specs.declared.Stage.{Stage}
use Rattle.rules.specs.declared.Stage.TheVariants.{Fresh, After, Over}
use Rattle.rules.specs.declared.Answer.{Answer}
use Rattle.rules.specs.declared.Answer.TheVariants as answer
use Rattle.heads.specs.View.{Cols}
use Rattle.queue.specs.declared.Ring.{Ring}
use Rattle.admit.specs.Right.{right}
use Rattle.pulls.specs.Pulls.{Lent}
use Rattle.runs.specs.declared.Run.{Run}
use Rattle.runs.specs.View.{ring_of, stage_of}
use Rattle.runs.specs.Comes.{lens_of, right_of}
use Rattle.step.specs.Settle.{Going}
use Rattle.step.specs.Give.{Gives}
use Rattle.step.proofs.Giving.{over_so, wrong_so}
use Rattle.many.specs.declared.Passed.{Passed}
use Rattle.many.specs.Many.{base_at, none, Unfound, all, other, Even, Answers, none_passed, uneven_by, GivesAll}

-- ---- a run that goes on

-- a run that is not over goes on
pub told_going : (t u : Stage) → t ≡ u → ((x : End) → t ≡ Over x → ⊥) → Going u
told_going t u e k = subst Going e (go t k)
  where
    go : (w : Stage) → ((x : End) → w ≡ Over x → ⊥) → Going w
    go Fresh j = tt
    go (After p) j = tt
    go (Over f) j = absurd (j f refl)

-- ---- the test of the columns

abbrev test : Cols → List ℕ → Bool
test t ns = eqb (length t.start) (length t.chrom) && (eqb (length t.stop) (length t.chrom) && leb (length t.chrom) (length ns))

pub even_so : (t : Cols) (ns : List ℕ) (r : Bool) → r ≡ test t ns → r ≡ true → Even t ns
even_so t ns r e i =
    let x : test t ns ≡ true = sym e ∙ i in
    let y : eqb (length t.stop) (length t.chrom) && leb (length t.chrom) (length ns) ≡ true = and_also (eqb (length t.start) (length t.chrom)) (eqb (length t.stop) (length t.chrom) && leb (length t.chrom) (length ns)) x in
    record {
      starts = eqb-true (length t.start) (length t.chrom) (and_left (eqb (length t.start) (length t.chrom)) (eqb (length t.stop) (length t.chrom) && leb (length t.chrom) (length ns)) x);
      stops = eqb-true (length t.stop) (length t.chrom) (and_left (eqb (length t.stop) (length t.chrom)) (leb (length t.chrom) (length ns)) y);
      counts = leb-true (length t.chrom) (length ns) (and_also (eqb (length t.stop) (length t.chrom)) (leb (length t.chrom) (length ns)) y);
    }

pub uneven_so : (t : Cols) (ns : List ℕ) (r : Bool) → r ≡ test t ns → r ≡ false → Even t ns → ⊥
uneven_so t ns r e i z = clash yes (sym e ∙ i)
  where
    yes : test t ns ≡ true
    yes = rw (eq-eqb (length t.start) (length t.chrom) z.starts, eq-eqb (length t.stop) (length t.chrom) z.stops, le-leb (length t.chrom) (length ns) z.counts)

-- there is a base, where the columns are even
some : (t : Cols) (y : Bool) → y && eqb (length t.chrom) 0 ≡ false → y ≡ true → 0 < length t.chrom
some t y e i = go (eqb (length t.chrom) 0) refl
  where
    go : (c : Bool) → eqb (length t.chrom) 0 ≡ c → 0 < length t.chrom
    go true j = clash (rw (i, j) refl) e
    go false j = omega (arith, eqb-false (length t.chrom) 0 j)

-- ---- the test of 1

-- as it came out, with the ring that stands for what waits
pub record Judged (s : Cols) (lengths : List ℕ) (r : Run) (l : Lent) (q : Ring) (x : Bool) : Type 0 where
  pub ring : q ≡ ring_of r
  pub is : x ≡ right (lens_of s lengths l) r.settings.streams r.settings.chroms q r.ended r.row r.next r.from r.to l.cells

right_told : (s : Cols) (lengths : List ℕ) (r : Run) (l : Lent) (q : Ring) (x y : Bool) → Judged s lengths r l q x → x ≡ y → right_of s lengths r l ≡ y
right_told s lengths r l q x y e j = ap (λ (p : Ring). right (lens_of s lengths l) r.settings.streams r.settings.chroms p r.ended r.row r.next r.from r.to l.cells) (sym e.ring) ∙ sym e.is ∙ j

-- ---- the call

module _ {s : Cols} {lengths : List ℕ} {t : Cols} {r : Run} {l : Lent} {ns : List ℕ} where
  by_even : (p : Passed) (l' : Lent) (ns' : List ℕ) → Even t ns → Answers s lengths t r l ns p l' ns' → GivesAll s lengths t r l ns p l' ns'
  by_even p l' ns' e a = record { even = λ z. a; uneven = λ z. absurd (z e) }

  by_uneven : (a : Answer) → uneven_by (stage_of r) ≡ a → (Even t ns → ⊥) → GivesAll s lengths t r l ns (none_passed r (Some a)) l ns
  by_uneven a e f = record { even = λ z. absurd (f z); uneven = λ z. record { passed = ap (λ (x : Answer). none_passed r (Some x)) (sym e); lent = refl; counts = refl } }

  -- the test of the columns, as it came out
  module _ (y : Bool) (is : y ≡ test t ns) where
    -- no base
    pub none_given : y && eqb (length t.chrom) 0 ≡ true → (p : Passed) → p ≡ none_passed r None → GivesAll s lengths t r l ns p l ns
    none_given e p ps = subst (λ (x : Passed). GivesAll s lengths t r l ns x l ns) (sym ps)
        (by_even (none_passed r None) l ns (even_so t ns y is (and_left y (eqb (length t.chrom) 0) e))
        (record { run = r; lent = l; passes = none; ends = all (sym (eqb-true (length t.chrom) 0 (and_also y (eqb (length t.chrom) 0) e))) }))

    -- the first base gets no records, the run stays as it is and so does all that was lent
    first_other : y && eqb (length t.chrom) 0 ≡ false → y ≡ true → (a : Answer) → Unfound a → Gives s lengths r (base_at t 0) l (record { run = r; answer = a }) l → GivesAll s lengths t r l ns (none_passed r (Some a)) l ns
    first_other e i a u g = by_even (none_passed r (Some a)) l ns (even_so t ns y is i) (record { run = r; lent = l; passes = none; ends = other a r l (some t y e i) (λ j. absurd (omega (arith, j))) u g refl })

    -- "an ended run first (its old answer again)"
    pub over_given : y && eqb (length t.chrom) 0 ≡ false → (f : End) → stage_of r ≡ Over f → (p : Passed) → p ≡ none_passed r (Some (answer.Ended f)) → GivesAll s lengths t r l ns p l ns
    over_given e f i p ps = subst (λ (x : Passed). GivesAll s lengths t r l ns x l ns) (sym ps) (go y refl)
      where
        go : (c : Bool) → y ≡ c → GivesAll s lengths t r l ns (none_passed r (Some (answer.Ended f))) l ns
        go true j = first_other e j (answer.Ended f) tt (over_so s lengths r (base_at t 0) l f i)
        go false j = by_uneven (answer.Ended f) (ap uneven_by i) (uneven_so t ns y is j)

    -- "then 1"
    module _ (going : Going (stage_of r)) (p : Passed) (ps : p ≡ none_passed r (Some (answer.Refused Sizes))) where
      pub wrong_given : y && eqb (length t.chrom) 0 ≡ false → y ≡ true → {q : Ring} {x : Bool} → Judged s lengths r l q x → x ≡ false → GivesAll s lengths t r l ns p l ns
      wrong_given e i {q} {x} u j = subst (λ (x : Passed). GivesAll s lengths t r l ns x l ns) (sym ps) (first_other e i (answer.Refused Sizes) tt (wrong_so s lengths r (base_at t 0) l going (right_told s lengths r l q x false u j)))
