-- Laws of names in columns, one name more at a time. Assumes nothing.
use Prim.Native.Nat.{ℕ, zero, suc, ◌+◌, ◌-◌, ◌≤◌, ◌<◌}
use mathlib.Core.Path.{◌≡◌, refl, sym, ap, ◌∙◌}
use mathlib.Core.List.{List, [], ◌∷◌}
use mathlib.Core.Bool.{Bool, true, false, cond, ◌&&◌, true≢false}
use native.Mathlib.Omega.{arith}
use lib.ListN.{length, get_or, drop, length-take, length-drop}
use lib.Dec.{leb, eqb}
use lib.Pointwise.{pointwise}
use Rattle.std.specs.Prelude.{IsTrue, ◌↔◌, Option, Some, None, MatchOption, unwrap_or}
use borrow.Author.Tests.{le-leb, leb-true}
use Rattle.fields.specs.Names.{part, within, names, same, number_in, is_within, Others, IsFirst}
use Rattle.fields.specs.declared.NameList.{NameList}
use Rattle.fields.proofs.Both.{and_left, and_right}
use Rattle.fields.proofs.Scan.{rest_cons, rest_none}

-- columns that are within are equally long
pub within_even : (n : ℕ) (fs ts : List ℕ) → within n fs ts ≡ true → length fs ≡ length ts
unfolding within
within_even n [] [] h = refl
within_even n [] (t ∷ ts) h = absurd (true≢false (sym h))
within_even n (f ∷ fs) [] h = absurd (true≢false (sym h))
within_even n (f ∷ fs) (t ∷ ts) h = ap suc (within_even n fs ts (and_right (leb f t && leb t n) (within n fs ts) h))

pub within_uneven : (n : ℕ) (fs ts : List ℕ) → (length ts ≡ length fs → ⊥) → within n fs ts ≡ false
within_uneven n fs ts h = go (within n fs ts) refl
  where
    go : (b : Bool) → within n fs ts ≡ b → within n fs ts ≡ false
    go true e = absurd (h (sym (within_even n fs ts e)))
    go false e = e

-- the name at k, and those behind it
module _ (fs ts : List ℕ) (k : ℕ) (lf : k < length fs) (lt : k < length ts) where
  pub within_cons : (n : ℕ) → within n (drop k fs) (drop k ts) ≡ leb (get_or fs k 0) (get_or ts k 0) && leb (get_or ts k 0) n && within n (drop (k + 1) fs) (drop (k + 1) ts)
  unfolding within
  within_cons n = rw (rest_cons fs k lf, rest_cons ts k lt)

  pub names_cons : (text : List ℕ) → names text (drop k fs) (drop k ts) ≡ part (get_or fs k 0) (get_or ts k 0) text ∷ names text (drop (k + 1) fs) (drop (k + 1) ts)
  unfolding names
  names_cons text = rw (rest_cons fs k lf, rest_cons ts k lt)

-- columns that are equally long are within where each name is
each_within : (n : ℕ) (fs ts : List ℕ) → length fs ≡ length ts → ((k : ℕ) → k < length fs → (get_or fs k 0 ≤ get_or ts k 0) × (get_or ts k 0 ≤ n)) → within n fs ts ≡ true
unfolding within
each_within n [] [] e h = refl
each_within n [] (t ∷ ts) e h = absurd (omega (arith, e))
each_within n (f ∷ fs) [] e h = absurd (omega (arith, e))
each_within n (f ∷ fs) (t ∷ ts) e h =
    let here = h 0 (omega arith) in
    rw (le-leb f t here.0, le-leb t n here.1) (each_within n fs ts (omega (arith, e)) (λ k l. h (suc k) (omega (arith, l))))

-- how long a part is
pub part_length : (text : List ℕ) (f t : ℕ) → f ≤ t → t ≤ length text → length (part f t text) ≡ t - f
part_length text f t h g = simp (length-take, length-drop) (omega arith)

-- two names are the same as two slices are equal
same_slices : (l m : List ℕ) → same l m ≡ pointwise eqb l m
unfolding same
same_slices [] [] = refl
same_slices [] (b ∷ m) = refl
same_slices (a ∷ l) [] = refl
same_slices (a ∷ l) (b ∷ m) = rw (same_slices l m)

-- columns that are within are so from any number on
pub within_from : (n : ℕ) (fs ts : List ℕ) (k : ℕ) → k ≤ length fs → within n fs ts ≡ true → within n (drop k fs) (drop k ts) ≡ true
unfolding within
within_from n [] [] k h e =
    let z : k ≡ 0 = omega arith in
    rw z
within_from n [] (t ∷ ts) k h e = absurd (true≢false (sym e))
within_from n (f ∷ fs) [] k h e = absurd (true≢false (sym e))
within_from n (f ∷ fs) (t ∷ ts) zero h e = e
within_from n (f ∷ fs) (t ∷ ts) (suc k) h e = within_from n fs ts k (omega (arith, h)) (and_right (leb f t && leb t n) (within n fs ts) e)

-- the bounds of each name
module _ (n : ℕ) (fs ts : List ℕ) (k : ℕ) (h : k < length fs) (e : within n fs ts ≡ true) where
  row_within : leb (get_or fs k 0) (get_or ts k 0) && leb (get_or ts k 0) n ≡ true
  row_within = and_left (leb (get_or fs k 0) (get_or ts k 0) && leb (get_or ts k 0) n) (within n (drop (k + 1) fs) (drop (k + 1) ts))
      (sym (within_cons fs ts k h (omega (arith, within_even n fs ts e)) n) ∙ within_from n fs ts k (omega arith) e)

  pub within_low : get_or fs k 0 ≤ get_or ts k 0
  within_low = leb-true (get_or fs k 0) (get_or ts k 0) (and_left (leb (get_or fs k 0) (get_or ts k 0)) (leb (get_or ts k 0) n) row_within)

  pub within_high : get_or ts k 0 ≤ n
  within_high = leb-true (get_or ts k 0) n (and_right (leb (get_or fs k 0) (get_or ts k 0)) (leb (get_or ts k 0) n) row_within)

-- and where not each is, they are not
pub within_if : (n : ℕ) (fs ts : List ℕ) (r : Bool) → length fs ≡ length ts → (IsTrue r ↔ ((k : ℕ) → k < length fs → (get_or fs k 0 ≤ get_or ts k 0) × (get_or ts k 0 ≤ n))) → r ≡ within n fs ts
within_if n fs ts true e h = sym (each_within n fs ts e (h.0 refl))
within_if n fs ts false e h = go (within n fs ts) refl
  where
    go : (t : Bool) → within n fs ts ≡ t → false ≡ t
    go true q = h.1 (λ k l. (within_low n fs ts k l q, within_high n fs ts k l q))
    go false q = refl

-- as many names as rows of the columns
pub names_length : (n : ℕ) (text fs ts : List ℕ) → within n fs ts ≡ true → length (names text fs ts) ≡ length fs
unfolding within names
names_length n text [] ts h = refl
names_length n text (f ∷ fs) [] h = absurd (true≢false (sym h))
names_length n text (f ∷ fs) (t ∷ ts) h = ap suc (names_length n text fs ts (and_right (leb f t && leb t n) (within n fs ts) h))

-- the names from `first` on and before k are others
pub record Seeking (text : List ℕ) (fs ts : List ℕ) (first : ℕ) (name : List ℕ) (k : ℕ) : Type 0 where
  pub even : length fs ≡ length ts
  pub inside : k ≤ length fs
  pub rest : k + number_in (names text (drop k fs) (drop k ts)) name ≡ first + number_in (names text (drop first fs) (drop first ts)) name

pub seeking_start : (text fs ts : List ℕ) (first : ℕ) (name : List ℕ) → within (length text) fs ts ≡ true → first ≤ length fs → Seeking text fs ts first name first
seeking_start text fs ts first name h g = record { even = within_even (length text) fs ts h; inside = g; rest = refl }

module _ {text fs ts : List ℕ} {first : ℕ} {name : List ℕ} {k : ℕ} (w : Seeking text fs ts first name k) where
  pub seeking_end : length fs ≤ k → k ≡ first + number_in (names text (drop first fs) (drop first ts)) name
  unfolding number_in names
  seeking_end h = omega (arith, w.rest, ap (λ (l : List ℕ). number_in (names text l (drop k ts)) name) (rest_none fs k (omega (arith, w.inside))))

  module _ (lf : k < length fs) where
    here : number_in (names text (drop k fs) (drop k ts)) name ≡ cond (same (part (get_or fs k 0) (get_or ts k 0) text) name) 0 (suc (number_in (names text (drop (k + 1) fs) (drop (k + 1) ts)) name))
    unfolding number_in
    here = rw (names_cons fs ts k lf (omega (arith, w.even)) text)

    pub seeking_found : true ≡ pointwise eqb (part (get_or fs k 0) (get_or ts k 0) text) name → k ≡ first + number_in (names text (drop first fs) (drop first ts)) name
    seeking_found e = omega (arith, w.rest, rw (same_slices (part (get_or fs k 0) (get_or ts k 0) text) name, ← e) at here)

    pub seeking_next : false ≡ pointwise eqb (part (get_or fs k 0) (get_or ts k 0) text) name → Seeking text fs ts first name (k + 1)
    seeking_next e = record { even = w.even; inside = omega arith; rest = omega (arith, w.rest, rw (same_slices (part (get_or fs k 0) (get_or ts k 0) text) name, ← e) at here) }

-- what bounds a name
pub ruleset insides = (within_even, within_low, within_high)

-- the first of the names from a number on that has the bytes, or none
module _ (l : NameList) (first : ℕ) (name : List ℕ) (ok : is_within l ≡ true) (low : first ≤ length l.from.now) where
  sought : (n k : ℕ) → k ≡ first + n → k ≤ length l.from.now → Others l name first k → Seeking l.text.now l.from.now l.to.now first name k
  sought zero k e h o =
      let z : k ≡ first = omega (arith, e) in
      rw z (seeking_start l.text.now l.from.now l.to.now first name ok low)
  sought (suc n) k e h o =
      let z : k ≡ first + n + 1 = omega (arith, e) in
      let w = sought n (first + n) refl (omega (arith, z)) (λ i p q. o i p (omega (arith, q, z))) in
      rw z (seeking_next w (omega (arith, z)) (sym (o (first + n) (omega arith) (omega (arith, z)))))

  sought_first : (i : ℕ) → IsFirst l name first i → i ≡ first + number_in (names l.text.now (drop first l.from.now) (drop first l.to.now)) name
  sought_first i f = seeking_found (sought (i - first) i (omega (arith, f.0)) (omega (arith, f.1)) f.3) f.1 (sym f.2)

  sought_none : Others l name first (length l.from.now) → length l.from.now ≡ first + number_in (names l.text.now (drop first l.from.now) (drop first l.to.now)) name
  sought_none o = seeking_end (sought (length l.from.now - first) (length l.from.now) (omega arith) (omega arith) o) (omega arith)

  pub sought_or : (r : Option ℕ) → MatchOption r (Others l name first (length l.from.now)) (IsFirst l name first) → unwrap_or r (length l.from.now) ≡ first + number_in (names l.text.now (drop first l.from.now) (drop first l.to.now)) name
  sought_or (Some i) f = sought_first i f
  sought_or None o = sought_none o
