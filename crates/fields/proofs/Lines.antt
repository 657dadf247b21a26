-- The first line of a text and its fields, by place: what `cut` gives from a place on. Assumes nothing.
use Prim.Native.Nat.{ℕ, suc, ◌+◌, ◌≤◌, ◌<◌}
use mathlib.Core.Path.{◌≡◌, refl, ap, ◌∙◌}
use mathlib.Core.List.{List, [], ◌∷◌}
use mathlib.Core.Bool.{Bool, true, false, cond, not, ◌&&◌, true≢false}
use native.Mathlib.Omega.{arith}
use lib.ListN.{length, get_or, drop, length-drop}
use lib.Seq.{drop-drop, get_or-drop}
use lib.Dec.{eqb}
use borrow.Author.Tests.{eq-eqb, ne_eqb, eqb-true}
use Rattle.fields.specs.Cut.{cut, onto}
use Rattle.fields.specs.Scan.{front, in_line, in_field, line_at, field_at, next_line, FieldTo}
use Rattle.fields.proofs.Scan.{rest_cons, rest_none, front_in, front_out, front_none, front_within, lf_ends, line_in}

-- the lines behind the first: none where no LF ends it
abbrev pub behind : List ℕ → List (List ℕ)
behind [] = []
behind (b ∷ l) = cut 10 l

-- the first line, and the others
pub lines_first : (l : List ℕ) → cut 10 l ≡ front in_line l ∷ behind (drop (length (front in_line l)) l)
unfolding cut front
lines_first [] = refl
lines_first (b ∷ l) = go (eqb b 10) (lines_first l)
  where
    go : (t : Bool) → cut 10 l ≡ front in_line l ∷ behind (drop (length (front in_line l)) l) →
        cond t ([] ∷ cut 10 l) (onto b (cut 10 l)) ≡ cond (not t) (b ∷ front in_line l) [] ∷ behind (drop (length (cond (not t) (b ∷ front in_line l) [])) (b ∷ l))
    go true ih = refl
    go false ih = rw ih

-- the fields behind the first: none where no tab ends it
abbrev pub further : List ℕ → List (List ℕ)
further [] = []
further (b ∷ l) = cond (eqb b 9) (cut 9 (front in_line l)) []

-- the first field of the first line, and the others
fields_first : (l : List ℕ) → cut 9 (front in_line l) ≡ front in_field l ∷ further (drop (length (front in_field l)) l)
unfolding cut front
fields_first [] = refl
fields_first (b ∷ l) = go (eqb b 9) (eqb b 10) refl refl (fields_first l)
  where
    go : (s t : Bool) → eqb b 9 ≡ s → eqb b 10 ≡ t → cut 9 (front in_line l) ≡ front in_field l ∷ further (drop (length (front in_field l)) l) →
        cut 9 (cond (not t) (b ∷ front in_line l) []) ≡ cond (not s && not t) (b ∷ front in_field l) [] ∷ further (drop (length (cond (not s && not t) (b ∷ front in_field l) [])) (b ∷ l))
    go true true p q ih = absurd (omega (arith, eqb-true b 9 p, eqb-true b 10 q))
    go true false p q ih = rw p
    go false true p q ih = rw p
    go false false p q ih = rw (p, ih)

-- a line goes on behind its first field
line_longer : (l : List ℕ) → length (front in_line l) ≡ length (front in_field l) + length (front in_line (drop (length (front in_field l)) l))
unfolding front
line_longer [] = omega arith
line_longer (b ∷ l) = go (eqb b 9) (eqb b 10) refl (line_longer l)
  where
    go : (s t : Bool) → eqb b 10 ≡ t → length (front in_line l) ≡ length (front in_field l) + length (front in_line (drop (length (front in_field l)) l)) →
        length (cond (not t) (b ∷ front in_line l) []) ≡
        length (cond (not s && not t) (b ∷ front in_field l) []) + length (front in_line (drop (length (cond (not s && not t) (b ∷ front in_field l) [])) (b ∷ l)))
    go true true q ih = rw q (omega arith)
    go true false q ih = rw q (omega arith)
    go false true q ih = rw q (omega arith)
    go false false q ih = omega (arith, ih)

-- the byte behind a start does not pass
front_stops : (p : ℕ → Bool) (l : List ℕ) → length (front p l) < length l → p (get_or l (length (front p l)) 0) ≡ false
unfolding front
front_stops p [] h = absurd (omega (arith, h))
front_stops p (b ∷ l) h = go (p b) refl (front_stops p l) h
  where
    go : (t : Bool) → p b ≡ t → (length (front p l) < length l → p (get_or l (length (front p l)) 0) ≡ false) → length (cond t (b ∷ front p l) []) < suc (length l) →
        p (get_or (b ∷ l) (length (cond t (b ∷ front p l) [])) 0) ≡ false
    go true e ih k = ih (omega (arith, k))
    go false e ih k = e

-- a field ends somewhere
pub field_to : (text : List ℕ) (at : ℕ) → at ≤ length text → FieldTo text at (at + length (field_at text at))
field_to text at h = record { ends = refl; inside = front_within in_field text at h }

-- the field that starts at `at` ends at a
module _ {text : List ℕ} {at a : ℕ} (f : FieldTo text at a) where
  there : drop (length (field_at text at)) (drop at text) ≡ drop a text
  there = drop-drop (length (field_at text at)) at text ∙ rw (← f.ends)

  pub fields_are : cut 9 (line_at text at) ≡ field_at text at ∷ further (drop a text)
  fields_are = fields_first (drop at text) ∙ rw there

  pub fields_none : a ≡ length text → cut 9 (line_at text at) ≡ field_at text at ∷ []
  fields_none h = fields_are ∙ rw (rest_none text a h)

  pub fields_out : a < length text → (get_or text a 0 ≡ 9 → ⊥) → cut 9 (line_at text at) ≡ field_at text at ∷ []
  fields_out h n = fields_are ∙ rw (rest_cons text a h, ne_eqb (get_or text a 0) 9 n)

  pub fields_tab : a < length text → get_or text a 0 ≡ 9 → cut 9 (line_at text at) ≡ field_at text at ∷ cut 9 (line_at text (a + 1))
  fields_tab h n = fields_are ∙ rw (rest_cons text a h, eq-eqb (get_or text a 0) 9 n)

  same_line : at + length (line_at text at) ≡ a + length (line_at text a)
  same_line = omega (arith, f.ends, line_longer (drop at text), ap (λ (l : List ℕ). length (front in_line l)) there)

  pub next_same : next_line text at ≡ next_line text a
  next_same = omega (arith, same_line)

  pub next_none : a ≡ length text → next_line text at ≡ a
  next_none h = omega (arith, same_line, ap length (front_none in_line text a h))

  pub next_lf : a < length text → get_or text a 0 ≡ 10 → next_line text at ≡ a + 1
  next_lf h n = omega (arith, same_line, ap length (front_out in_line text a h (lf_ends (get_or text a 0) n)))

  pub next_tab : a < length text → get_or text a 0 ≡ 9 → next_line text at ≡ next_line text (a + 1)
  next_tab h n = omega (arith, same_line, ap length (front_in in_line text a h (line_in (get_or text a 0) (λ q. omega arith))))

  stops : a < length text → in_field (get_or text a 0) ≡ false
  stops h =
      let e : get_or (drop at text) (length (field_at text at)) 0 ≡ get_or text a 0 = get_or-drop at text (length (field_at text at)) 0 ∙ rw (← f.ends) in
      rw e at (front_stops in_field (drop at text) (omega (arith, f.ends, length-drop at text)))

  -- it ends with a tab or LF where the text goes on
  pub stops_lf : a < length text → (get_or text a 0 ≡ 9 → ⊥) → get_or text a 0 ≡ 10
  stops_lf h n = go (eqb (get_or text a 0) 10) refl
    where
      go : (t : Bool) → eqb (get_or text a 0) 10 ≡ t → get_or text a 0 ≡ 10
      go true e = eqb-true (get_or text a 0) 10 e
      go false e = absurd (true≢false (rw (ne_eqb (get_or text a 0) 9 n, e) at (stops h)))

  pub stops_tab : a < length text → (get_or text a 0 ≡ 10 → ⊥) → get_or text a 0 ≡ 9
  stops_tab h n = go (eqb (get_or text a 0) 9) refl
    where
      go : (t : Bool) → eqb (get_or text a 0) 9 ≡ t → get_or text a 0 ≡ 9
      go true e = eqb-true (get_or text a 0) 9 e
      go false e = absurd (true≢false (rw (e, ne_eqb (get_or text a 0) 10 n) at (stops h)))
