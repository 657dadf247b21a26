-- One base of a run whose heads lie in arrays is as given to the call for one base.
use mathlib.Core.Path.{◌≡◌, refl, sym, ap, subst, ◌∙◌}
use mathlib.Core.Bool.{Bool}
use mathlib.Core.List.{List}
use Prim.Native.Nat.{ℕ}
use native.Mathlib.Omega.{arith}
use Rattle.rules.specs.declared.Base.{Base}
use Rattle.rules.specs.declared.End.{End}
use Rattle.rules.specs.declared.Refusal.{Refusal}
use Rattle.rules.specs.declared.Stage.{Stage}
use Rattle.rules.specs.declared.Stage.TheVariants.{Fresh, After, Over}
use Rattle.rules.specs.declared.Answer.TheVariants as answer
use Rattle.rules.specs.Bases.{judge}
use Rattle.std.specs.Prelude.{⊤, Result, Ok, Err}
use Rattle.heads.specs.View.{Cols, Heads}
use Rattle.heads.specs.Load.{Loadable}
use Rattle.admit.specs.Gates.{Gate, lengths_of, last_of, judged_of, gate_of}
use Rattle.pulls.specs.declared.Answered.{Answered}
use Rattle.pulls.specs.Pulls.{Lent, Settleable, SettlesAs}
use Rattle.runs.specs.declared.Run.{Run}
use Rattle.runs.specs.Marks.{stage_in, mark_of}
use Rattle.runs.specs.View.{run_in, over_of}
use Rattle.step.specs.declared.State.{State}
use Rattle.step.specs.Settle.{Going}
use Rattle.step.specs.Give.{Gives}
use Rattle.step.specs.Step.{Answerable, OpensAs, run_at, Ready, Steps}
use Rattle.step.proofs.Giving.{Gated, refused_so, fits, answerable, settleable, ends_as, found_as, not_refused, further_so, first_wrong, first_shaped, first_answerable, over_same, first_so}

module _ (s : Cols) (lengths : List ℕ) (h : Heads) (x : State) (b : Base) (l : Lent) (z : Ready s lengths h x l) where
  abbrev r : Run
  r = run_at h x

  -- what the rules judge
  abbrev Judged : Gate → Type 0
  Judged k = k ≡ judged_of (judge (lengths_of lengths) (last_of (stage_in x.mark)) b)

  gated : (k : Gate) → Judged k → Gated s lengths r b l k
  gated k e = e ∙ ap (λ (t : Bool). gate_of t (judge (lengths_of lengths) (last_of (stage_in x.mark)) b)) (sym z.right)

  -- 4, 6, 3 or 5
  pub refuses : (k : Gate) → Judged k → (y : Refusal) → k ≡ Err y → Steps s lengths h x b l (record { ring = x.ring; answer = answer.Refused y }) h l
  refuses k e y i = record {
    found = λ m o j. let v : ◌≡◌ {A = ℕ} 0 1 = cc in absurd (omega arith);
    refused = λ w j. let v : y ≡ w = cc in subst (λ (u : Refusal). Gives s lengths r b l (record { run = r; answer = answer.Refused u }) l) v (refused_so s lengths r b l z.going k (gated k e) y i);
    ended = λ f j. let v : ◌≡◌ {A = ℕ} 0 1 = cc in absurd (omega arith);
  }

  -- an accepted base
  module _ (k : Gate) (e : Judged k) (opened : k ≡ Ok tt) where
    pub loadable : Loadable s h
    loadable = record { shaped = z.shaped; placed = (fits s lengths r b l k (gated k e) opened).placed }

    -- w is what was wrong with a first row, and g are the heads
    module _ (w : Result ⊤ End) (g : Heads) (opens : OpensAs (stage_in x.mark) s x.fixed.chroms h w g) where
      ends_only : (f : End) (q : Heads) → Gives s lengths r b l (record { run = over_of r f; answer = answer.Ended f }) l → Steps s lengths h x b l (record { ring = x.ring; answer = answer.Ended f }) q l
      ends_only f q y = record {
        found = λ m o j. let v : ◌≡◌ {A = ℕ} 0 1 = cc in absurd (omega arith);
        refused = λ u j. let v : ◌≡◌ {A = ℕ} 0 1 = cc in absurd (omega arith);
        ended = λ u j. let v : f ≡ u = cc in subst (λ (i : End). Gives s lengths r b l (record { run = over_of r i; answer = answer.Ended i }) l) v y;
      }

      pub faults : (f : End) → w ≡ Err f → Steps s lengths h x b l (record { ring = x.ring; answer = answer.Ended f }) g l
      faults f i = go (stage_in x.mark) refl
        where
          go : (t : Stage) → stage_in x.mark ≡ t → Steps s lengths h x b l (record { ring = x.ring; answer = answer.Ended f }) g l
          go Fresh j = ends_only f g (first_wrong s lengths r b l k (gated k e) opened j z.shaped w g (opens.first j) f i)
          go (After p) j = let v : Err f ≡ Ok tt = sym i ∙ (opens.later p j).check in let y : ◌≡◌ {A = ℕ} 0 1 = cc in absurd (omega arith)
          go (Over y) j = absurd (subst Going j z.going)

      module _ (fine : w ≡ Ok tt) where
        pub may_settle : Settleable s g x.ring l
        may_settle = go (stage_in x.mark) refl
          where
            go : (t : Stage) → stage_in x.mark ≡ t → Settleable s g x.ring l
            go Fresh j = settleable s (run_in g x.fixed.chroms x.ring x.mark) l (first_answerable s lengths r b l k (gated k e) opened j z.shaped w g (opens.first j) fine) (first_shaped s lengths r b l k (gated k e) opened j z.shaped w g (opens.first j) fine)
            go (After p) j = subst (λ (y : Heads). Settleable s y x.ring l) (sym (opens.later p j).heads) (settleable s r l (answerable s lengths r b l k (gated k e) opened r z.going (fits s lengths r b l k (gated k e) opened).placed refl) z.shaped)
            go (Over y) j = absurd (subst Going j z.going)

        module _ (a : Answered) (h' : Heads) (l' : Lent) (settles : SettlesAs s x.fixed.chroms g b x.ring l a h' l') where
          -- the first base
          first : stage_in x.mark ≡ Fresh → Steps s lengths h x b l a h' l'
          first j =
              let u : Run = run_in g x.fixed.chroms x.ring x.mark in
              let able : Answerable s u l = first_answerable s lengths r b l k (gated k e) opened j z.shaped w g (opens.first j) fine in
              record {
                found = λ m o i. first_so s lengths r b l k (gated k e) opened j z.shaped w g (opens.first j) fine (record { run = run_in h' x.fixed.chroms a.ring (mark_of (After b)); answer = answer.Found m o }) l'
                    (found_as s u b l able a h' l' settles m o i (run_in h' x.fixed.chroms a.ring (mark_of (After b))) refl);
                refused = λ y i. absurd (not_refused s u b l able a h' l' settles y i);
                ended = λ f i. subst (λ (v : Run). Gives s lengths r b l (record { run = v; answer = answer.Ended f }) l') (over_same s lengths r b l k (gated k e) opened j z.shaped w g (opens.first j) fine f)
                    (first_so s lengths r b l k (gated k e) opened j z.shaped w g (opens.first j) fine (record { run = over_of u f; answer = answer.Ended f }) l' (ends_as s u b l able a h' l' settles f i (record { run = over_of u f; answer = answer.Ended f }) refl));
              }

          -- a later one
          later : (p : Base) → stage_in x.mark ≡ After p → Steps s lengths h x b l a h' l'
          later p j =
              let able : Answerable s r l = answerable s lengths r b l k (gated k e) opened r z.going (fits s lengths r b l k (gated k e) opened).placed refl in
              let same : SettlesAs s x.fixed.chroms h b x.ring l a h' l' = subst (λ (y : Heads). SettlesAs s x.fixed.chroms y b x.ring l a h' l') (opens.later p j).heads settles in
              record {
                found = λ m o i. further_so s lengths r b l k (gated k e) opened (record { last = p; is = j }) (record { run = run_in h' x.fixed.chroms a.ring (mark_of (After b)); answer = answer.Found m o }) l'
                    (found_as s r b l able a h' l' same m o i (run_in h' x.fixed.chroms a.ring (mark_of (After b))) refl);
                refused = λ y i. absurd (not_refused s r b l able a h' l' same y i);
                ended = λ f i. further_so s lengths r b l k (gated k e) opened (record { last = p; is = j }) (record { run = over_of r f; answer = answer.Ended f }) l' (ends_as s r b l able a h' l' same f i (record { run = over_of r f; answer = answer.Ended f }) refl);
              }

          pub steps_so : Steps s lengths h x b l a h' l'
          steps_so = go (stage_in x.mark) refl
            where
              go : (t : Stage) → stage_in x.mark ≡ t → Steps s lengths h x b l a h' l'
              go Fresh j = first j
              go (After p) j = later p j
              go (Over y) j = absurd (subst Going j z.going)
