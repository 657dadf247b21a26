-- The name that a chromosome's number names: where it stands in the list's text.
use Prim.Native.Nat.{ℕ, zero, suc, ◌≤◌}
use mathlib.Core.Path.{◌≡◌, refl, sym, subst}
use mathlib.Core.List.{List, [], ◌∷◌}
use mathlib.Core.Bool.{true, ◌&&◌, true≢false}
use native.Mathlib.Omega.{arith}
use lib.Dec.{leb}
use lib.ListN.{length, get_or}
use borrow.Author.Tests.{leb-true}
use Rattle.fields.specs.Names.{part, within, names}
use Rattle.rules.specs.declared.Base.{Base}
use Rattle.heads.specs.View.{Cols}
use Rattle.runs.specs.declared.Run.{Run}
use Rattle.pulls.specs.Pulls.{Lent}
use Rattle.replies.specs.declared.Listed.{Listed}
use Rattle.replies.specs.List.{Lists}
use Rattle.walk.specs.Run.{Bases}
use Rattle.fields.proofs.Both.{and_left, and_right}

pub name_low : (n : ℕ) (fs ts : List ℕ) (c : ℕ) → within n fs ts ≡ true → get_or fs c 0 ≤ get_or ts c 0
unfolding within
name_low n [] [] c h = omega arith
name_low n [] (t ∷ ts) c h = absurd (true≢false (sym h))
name_low n (f ∷ fs) [] c h = absurd (true≢false (sym h))
name_low n (f ∷ fs) (t ∷ ts) zero h = leb-true f t (and_left (leb f t) (leb t n) (and_left (leb f t && leb t n) (within n fs ts) h))
name_low n (f ∷ fs) (t ∷ ts) (suc c) h = name_low n fs ts c (and_right (leb f t && leb t n) (within n fs ts) h)

pub name_high : (n : ℕ) (fs ts : List ℕ) (c : ℕ) → within n fs ts ≡ true → get_or ts c 0 ≤ n
unfolding within
name_high n [] [] c h = omega arith
name_high n [] (t ∷ ts) c h = absurd (true≢false (sym h))
name_high n (f ∷ fs) [] c h = absurd (true≢false (sym h))
name_high n (f ∷ fs) (t ∷ ts) zero h = leb-true t n (and_right (leb f t) (leb t n) (and_left (leb f t && leb t n) (within n fs ts) h))
name_high n (f ∷ fs) (t ∷ ts) (suc c) h = name_high n fs ts c (and_right (leb f t && leb t n) (within n fs ts) h)

-- a number past the last has the empty name
pub name_get : (text fs ts : List ℕ) (c : ℕ) → within (length text) fs ts ≡ true → part (get_or fs c 0) (get_or ts c 0) text ≡ get_or (names text fs ts) c []
unfolding within names
name_get text [] [] c h = refl
name_get text [] (t ∷ ts) c h = absurd (true≢false (sym h))
name_get text (f ∷ fs) [] c h = absurd (true≢false (sym h))
name_get text (f ∷ fs) (t ∷ ts) zero h = refl
name_get text (f ∷ fs) (t ∷ ts) (suc c) h = name_get text fs ts c (and_right (leb f t && leb t (length text)) (within (length text) fs ts) h)

-- the same, of the two places as they are read
module _ {text fs ts : List ℕ} {b : Cols} {n f t : ℕ} (w : Bases text fs ts b n) (c : ℕ) (hf : f ≡ get_or fs c 0) (ht : t ≡ get_or ts c 0) where
  pub name_apart : f ≤ t
  name_apart = rw (hf, ht) (name_low (length text) fs ts c w.inside)

  pub name_inside : t ≤ length text
  name_inside = rw ht (name_high (length text) fs ts c w.inside)

  name_is : part f t text ≡ get_or (names text fs ts) c []
  name_is = rw (hf, ht) (name_get text fs ts c w.inside)

  -- so a base that is given by the one is given by the other
  pub name_listed : {s : Cols} {lengths : List ℕ} {r : Run} {base : Base} {row : ℕ} {l : Lent} {out : List ℕ} {at : ℕ} {x : Listed} {l' : Lent} {out' : List ℕ} →
      Lists s lengths r base row (part f t text) l out at x l' out' → Lists s lengths r base row (get_or (names text fs ts) c []) l out at x l' out'
  name_listed {s} {lengths} {r} {base} {row} {l} {out} {at} {x} {l'} {out'} h = subst (λ (name : List ℕ). Lists s lengths r base row name l out at x l' out') name_is h
