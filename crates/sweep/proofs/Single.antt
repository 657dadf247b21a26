-- The call for many bases, of one base: as the call for one says.
use mathlib.Core.Path.{◌≡◌, refl, sym, subst, ◌∙◌}
use mathlib.Core.List.{List}
use Prim.Native.Nat.{ℕ, ◌+◌}
use native.Mathlib.Omega.{arith}
use lib.ListN.{length}
use Rattle.rules.specs.Offered.{Offer}
use Rattle.std.specs.Prelude.{Option, Some, None, MatchOption}
use Rattle.rules.specs.declared.Answer.{Answer}
use Rattle.rules.specs.declared.Answer.TheVariants as answer
use Rattle.heads.specs.View.{Cols}
use Rattle.pulls.specs.Pulls.{Lent}
use Rattle.runs.specs.declared.Run.{Run}
use Rattle.step.specs.Give.{Gives}
use Rattle.many.specs.declared.Passed.{Passed}
use Rattle.many.specs.Many.{base_at, behind, Passes, none, one, Unfound, Ends, all, short, other, Even, Answers, GivesAll}

-- of no base answered: where it began
record Begin (r : Run) (l : Lent) (u : ℕ) (p : Offer) (v : Run) (m : Lent) : Type 0 where
  free : u ≡ 0
  offer : p ≡ None
  run : v ≡ r
  lent : m ≡ l

module _ {s : Cols} {lengths : List ℕ} {t : Cols} {r : Run} {l : Lent} {ns : List ℕ} where
  passes_none : {k u : ℕ} {p : Offer} {v : Run} {m : Lent} {ms : List ℕ} → Passes s lengths t r l ns k u p v m ms → k ≡ 0 → Begin r l u p v m
  passes_none none e = record { free = refl; offer = refl; run = refl; lent = refl }
  passes_none (one i o r₂ l₂ q g z) e = absurd (omega (arith, e))

  -- of one base answered: it was given as it began
  passes_one : {k u : ℕ} {p : Offer} {v : Run} {m : Lent} {ms : List ℕ} → Passes s lengths t r l ns k u p v m ms → k ≡ 1 → Gives s lengths r (base_at t 0) l (record { run = v; answer = answer.Found u p }) m
  passes_one none e = absurd (omega (arith, e))
  passes_one (one {k = k} {u = u} {r₁ = r₁} {l₁ = l₁} i o r₂ l₂ q g z) e =
      let j : k ≡ 0 = omega arith in
      let w = passes_none q j in
      let n : u + i ≡ i = omega (arith, w.free) in
      rw n (go k j u w.free r₁ w.run l₁ w.lent g)
    where
      go : (k' : ℕ) → k' ≡ 0 → (u' : ℕ) → u' ≡ 0 → (r' : Run) → r' ≡ r → (l' : Lent) → l' ≡ l → Gives s lengths r' (base_at t k') (behind u' l') (record { run = r₂; answer = answer.Found i o }) (behind u' l₂)
          → Gives s lengths r (base_at t 0) l (record { run = r₂; answer = answer.Found i o }) l₂
      go k' a u' b r' c l' d x =
          subst (λ (y : Lent). Gives s lengths r (base_at t 0) y (record { run = r₂; answer = answer.Found i o }) l₂) d
          (subst (λ (y : Run). Gives s lengths y (base_at t 0) l' (record { run = r₂; answer = answer.Found i o }) l₂) c
          (subst (λ (y : ℕ). Gives s lengths r' (base_at t 0) (behind y l') (record { run = r₂; answer = answer.Found i o }) (behind y l₂)) b
          (subst (λ (y : ℕ). Gives s lengths r' (base_at t y) (behind u' l') (record { run = r₂; answer = answer.Found i o }) (behind u' l₂)) a x)))

-- how a call for one base ended: nothing stopped it, and it was answered
record One (k : ℕ) (v : Run) (m : Lent) (w : Run) (l' : Lent) : Type 0 where
  bases : k ≡ 1
  run : w ≡ v
  lent : l' ≡ m

ends_one : {s : Cols} {lengths : List ℕ} {t : Cols} {k u : ℕ} {v : Run} {m : Lent} {o : Option Answer} {w : Run} {l' : Lent} → Ends s lengths t k u v m o w l' → length t.chrom ≡ 1 → o ≡ None → One k v m w l'
ends_one (all e) n i = record { bases = e ∙ n; run = refl; lent = refl }
ends_one (short b z f) n i = absurd (omega (arith, b, z, n))
ends_one (other a w l' b z x g y) n i = let c : ◌≡◌ {A = ℕ} 0 1 = cc in absurd (omega arith)

-- it was not
record Other (s : Cols) (lengths : List ℕ) (t : Cols) (r : Run) (l : Lent) (k : ℕ) (a : Answer) (w : Run) (l' : Lent) : Type 0 where
  none : k ≡ 0
  unfound : Unfound a
  gives : Gives s lengths r (base_at t 0) l (record { run = w; answer = a }) l'

ends_none : {s : Cols} {lengths : List ℕ} {t : Cols} {r : Run} {l : Lent} {ns : List ℕ} {k u : ℕ} {p : Offer} {v : Run} {m : Lent} {ms : List ℕ} {o : Option Answer} {w : Run} {l' : Lent} → Passes s lengths t r l ns k u p v m ms → Ends s lengths t k u v m o w l'
    → length t.chrom ≡ 1 → (a : Answer) → o ≡ Some a → Other s lengths t r l k a w l'
ends_none q (all e) n d i = let c : ◌≡◌ {A = ℕ} 0 1 = cc in absurd (omega arith)
ends_none q (short b z f) n d i = absurd (omega (arith, b, z, n))
ends_none {s} {lengths} {t} {r} {l} {k = k} {u = u} {v = v} {m = m} q (other a w l' b z x g y) n d i =
    let j : k ≡ 0 = omega (arith, b, n) in
    let f = passes_none q j in
    let same : a ≡ d = cc in
    subst (λ (h : Answer). Other s lengths t r l k h w l') same (record { none = j; unfound = x; gives = go k j u f.free v f.run m f.lent g })
  where
    go : (k' : ℕ) → k' ≡ 0 → (u' : ℕ) → u' ≡ 0 → (r' : Run) → r' ≡ r → (m' : Lent) → m' ≡ l → Gives s lengths r' (base_at t k') (behind u' m') (record { run = w; answer = a }) (behind u' l')
        → Gives s lengths r (base_at t 0) l (record { run = w; answer = a }) l'
    go k' d u' e r' c m' h h' =
        subst (λ (o : Lent). Gives s lengths r (base_at t 0) o (record { run = w; answer = a }) l') h
        (subst (λ (o : Run). Gives s lengths o (base_at t 0) m' (record { run = w; answer = a }) l') c
        (subst (λ (o : ℕ). Gives s lengths r' (base_at t 0) (behind o m') (record { run = w; answer = a }) (behind o l')) e
        (subst (λ (o : ℕ). Gives s lengths r' (base_at t o) (behind u' m') (record { run = w; answer = a }) (behind u' l')) d h')))

-- what came out
module _ {s : Cols} {lengths : List ℕ} {t : Cols} {r : Run} {l : Lent} {p : Passed} {l' : Lent} {ns ns' : List ℕ} (n : length t.chrom ≡ 1) (even : Even t ns) (x : GivesAll s lengths t r l ns p l' ns') where
  answers : Answers s lengths t r l ns p l' ns'
  answers = x.even even

  -- nothing stopped it: the base was answered
  pub single_unstopped : p.last ≡ None → Gives s lengths r (base_at t 0) l (record { run = p.run; answer = answer.Found p.records p.offer }) l'
  single_unstopped i =
      let e = ends_one answers.ends n i in
      subst (λ (w : Run). Gives s lengths r (base_at t 0) l (record { run = w; answer = answer.Found p.records p.offer }) l') (sym e.run)
      (subst (λ (m : Lent). Gives s lengths r (base_at t 0) l (record { run = answers.run; answer = answer.Found p.records p.offer }) m) (sym e.lent) (passes_one answers.passes e.bases))

  pub single_one : p.last ≡ None → p.bases ≡ 1
  single_one i = (ends_one answers.ends n i).bases

  pub single_stopped : (a : Answer) → p.last ≡ Some a → Gives s lengths r (base_at t 0) l (record { run = p.run; answer = a }) l'
  single_stopped a i = (ends_none answers.passes answers.ends n a i).gives

  -- and no base was answered, so there are no records and nothing was offered
  pub single_none : (a : Answer) → p.last ≡ Some a → (p.bases ≡ 0) × ((p.records ≡ 0) × ((p.offer ≡ None) × Unfound a))
  single_none a i =
      let e = ends_none answers.passes answers.ends n a i in
      let b = passes_none answers.passes e.none in
      (e.none, (b.free, (b.offer, e.unfound)))

  -- by how many bases were answered: one, or none
  pub single_last : p.bases ≡ 1 → p.last ≡ None
  single_last i = go p.last refl
    where
      go : (o : Option Answer) → p.last ≡ o → p.last ≡ None
      go None e = e
      go (Some a) e = absurd (omega (arith, i, (single_none a e).0))

  pub single_found : p.bases ≡ 1 → Gives s lengths r (base_at t 0) l (record { run = p.run; answer = answer.Found p.records p.offer }) l'
  single_found i = single_unstopped (single_last i)

  pub single_other : (p.bases ≡ 1 → ⊥) → MatchOption p.last ⊥ (λ (a : Answer). Gives s lengths r (base_at t 0) l (record { run = p.run; answer = a }) l')
  single_other f = go p.last refl
    where
      go : (o : Option Answer) → p.last ≡ o → MatchOption o ⊥ (λ (a : Answer). Gives s lengths r (base_at t 0) l (record { run = p.run; answer = a }) l')
      go None e = f (single_one e)
      go (Some a) e = single_stopped a e
