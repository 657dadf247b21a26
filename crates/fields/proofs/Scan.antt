-- Laws of `front` over the rest of a text, and of the fields of a line. Assumes nothing.
use Prim.Native.Nat.{ℕ, zero, suc, ◌+◌, ◌-◌, ◌≤◌, ◌<◌}
use mathlib.Core.Path.{◌≡◌, refl, sym, ap, ◌∙◌}
use mathlib.Core.List.{List, [], ◌∷◌, ◌++◌}
use mathlib.Core.Bool.{Bool, true, false, cond, not, ◌&&◌, ◌||◌}
use native.Mathlib.Omega.{arith}
use native.Mathlib.Numerals.{add-one}
use lib.ListN.{length, get_or, take, drop, drop_of_length-le, length-drop}
use lib.Seq.{drop-cons, take-nil}
use lib.Dec.{eqb}
use Rattle.std.specs.Prelude.{Some, None}
use Rattle.std.specs.List.{position, position_or_len}
use Rattle.std.proofs.lemmas.List.{take_all}
use Rattle.std.proofs.lemmas.Grind.{common_steps}
use Rattle.std.proofs.lemmas.List.Recursion.{is_position_or_len}
use borrow.Author.Tests.{eq-eqb, ne_eqb}
use Rattle.fields.specs.Scan.{front, in_line, in_field, next_line, FieldTo, Walk}

-- the next byte of a text, and the rest
pub rest_cons : (text : List ℕ) (at : ℕ) → at < length text → drop at text ≡ get_or text at 0 ∷ drop (at + 1) text
rest_cons text at h = rw (add-one, drop-cons text at 0 h)

pub rest_none : (text : List ℕ) (at : ℕ) → at ≡ length text → drop at text ≡ []
rest_none text at h = drop_of_length-le text {i = at} (omega arith)

-- one byte more of a walk to the first byte that does not pass
module _ (p : ℕ → Bool) (text : List ℕ) (at : ℕ) where
  pub front_in : at < length text → p (get_or text at 0) ≡ true → front p (drop at text) ≡ get_or text at 0 ∷ front p (drop (at + 1) text)
  unfolding front
  front_in h e = rw (rest_cons text at h, e)

  pub front_out : at < length text → p (get_or text at 0) ≡ false → front p (drop at text) ≡ []
  unfolding front
  front_out h e = rw (rest_cons text at h, e)

  pub front_none : at ≡ length text → front p (drop at text) ≡ []
  unfolding front
  front_none h = rw (rest_none text at h)

  pub front_past : length text ≤ at → front p (drop at text) ≡ []
  unfolding front
  front_past h = rw (drop_of_length-le text {i = at} h)

-- no start is longer than its list
pub front_short : (p : ℕ → Bool) (l : List ℕ) → length (front p l) ≤ length l
unfolding front
front_short p [] = omega arith
front_short p (b ∷ l) = go (p b) (front_short p l)
  where
    go : (t : Bool) → length (front p l) ≤ length l → length (cond t (b ∷ front p l) []) ≤ suc (length l)
    go true h = omega arith
    go false h = omega arith

pub front_within : (p : ℕ → Bool) (text : List ℕ) (at : ℕ) → at ≤ length text → at + length (front p (drop at text)) ≤ length text
front_within p text at h = omega (arith, front_short p (drop at text), length-drop at text)

-- which bytes pass
module _ (b : ℕ) where
  pub tab_out : b ≡ 9 → in_field b ≡ false
  tab_out h = rw (eq-eqb b 9 h)

  pub lf_out : b ≡ 10 → in_field b ≡ false
  lf_out h = rw h

  pub field_in : (b ≡ 9 → ⊥) → (b ≡ 10 → ⊥) → in_field b ≡ true
  field_in h k = rw (ne_eqb b 9 h, ne_eqb b 10 k)

  pub lf_ends : b ≡ 10 → in_line b ≡ false
  lf_ends h = rw h

  pub line_in : (b ≡ 10 → ⊥) → in_line b ≡ true
  line_in h = rw (ne_eqb b 10 h)

pub walk_start : (p : ℕ → Bool) (text : List ℕ) (from : ℕ) → from ≤ length text → Walk p text from from
walk_start p text from h = record { inside = h; same_end = refl }

module _ {p : ℕ → Bool} {text : List ℕ} {from i : ℕ} (w : Walk p text from i) where
  pub walk_in : i < length text → p (get_or text i 0) ≡ true → Walk p text from (i + 1)
  walk_in h e = record { inside = omega arith; same_end = omega (arith, w.same_end, ap length (front_in p text i h e)) }

-- whether a field ends at a byte
pub ruleset overs = (front_out, front_past, tab_out, lf_out, field_in)

-- the first byte that does not pass ends the longest start
module _ (p q : ℕ → Bool) (turns : (b : ℕ) → q b ≡ not (p b)) where
  front_first : (l : List ℕ) → length (front p l) ≡ position_or_len q l
  unfolding front
  front_first l = is_position_or_len (λ (m : List ℕ). length (front p m)) q refl step l
    where
      step : (x : ℕ) (xs : List ℕ) → length (front p (x ∷ xs)) ≡ cond (q x) 0 (1 + length (front p xs))
      step x xs = go (p x) (turns x)
        where
          go : (t : Bool) → q x ≡ not t → length (cond t (x ∷ front p xs) []) ≡ cond (q x) 0 (1 + length (front p xs))
          go true e = rw e (omega arith)
          go false e = rw e

  front_some : (l : List ℕ) (i : ℕ) → position q l ≡ Some i → (length (front p l) ≡ i) × (i < length l)
  front_some l i e =
      let at : position_or_len q l ≡ i = grind (arith, common_steps) in
      let inside : i < length l = grind (arith, common_steps) in
      (front_first l ∙ at, inside)

  front_all : (l : List ℕ) → position q l ≡ None → length (front p l) ≡ length l
  front_all l e =
      let past : length l ≤ position_or_len q l = grind (arith, common_steps) in
      omega (arith, front_first l, front_short p l)

-- the first LF ends a line
abbrev pub ends_line : ℕ → Bool
ends_line b = eqb b 10

lf_turns : (b : ℕ) → ends_line b ≡ not (in_line b)
lf_turns b = go (eqb b 10)
  where
    go : (t : Bool) → t ≡ not (not t)
    go true = refl
    go false = refl

-- and the first tab or LF a field
abbrev pub ends_field : ℕ → Bool
ends_field b = eqb b 9 || eqb b 10

tab_turns : (b : ℕ) → ends_field b ≡ not (in_field b)
tab_turns b = go (eqb b 9) (eqb b 10)
  where
    go : (s t : Bool) → (s || t) ≡ not (not s && not t)
    go true t = refl
    go false true = refl
    go false false = refl

-- where a line or a field of a text ends, as a search from a place on finds it
module _ (text : List ℕ) (from : ℕ) (h : from ≤ length text) where
  rest : take (length text - from) (drop from text) ≡ drop from text
  rest = take_all (length text - from) (drop from text) (omega (arith, length-drop from text))

  pub field_found : (i : ℕ) → Some i ≡ position ends_field (take (length text - from) (drop from text)) → FieldTo text from (from + i)
  field_found i e =
      let f = front_some in_field ends_field tab_turns (drop from text) i (rw (← rest) (sym e)) in
      record { ends = omega (arith, f.0); inside = omega (arith, f.1, length-drop from text) }

  pub field_whole : None ≡ position ends_field (take (length text - from) (drop from text)) → FieldTo text from (length text)
  field_whole e =
      let f = front_all in_field ends_field tab_turns (drop from text) (rw (← rest) (sym e)) in
      record { ends = omega (arith, f, length-drop from text); inside = omega arith }

  pub line_found : (i : ℕ) → Some i ≡ position ends_line (take (length text - from) (drop from text)) → (from + i + 1 ≡ next_line text from) × (from + i + 1 ≤ length text)
  line_found i e =
      let f = front_some in_line ends_line lf_turns (drop from text) i (rw (← rest) (sym e)) in
      (omega (arith, f.0, f.1, length-drop from text), omega (arith, f.1, length-drop from text))

  pub line_whole : None ≡ position ends_line (take (length text - from) (drop from text)) → (length text ≡ next_line text from) × (length text ≤ length text)
  line_whole e =
      let f = front_all in_line ends_line lf_turns (drop from text) (rw (← rest) (sym e)) in
      (omega (arith, f, length-drop from text), omega arith)

-- a list whose bytes all pass is its own longest start
module _ (p : ℕ → Bool) where
  front_head : (b : ℕ) (l : List ℕ) → front p (b ∷ l) ≡ b ∷ l → (p b ≡ true) × (front p l ≡ l)
  unfolding front
  front_head b l h = go (p b) refl h
    where
      go : (t : Bool) → p b ≡ t → cond t (b ∷ front p l) [] ≡ b ∷ l → (p b ≡ true) × (front p l ≡ l)
      go true e q = (e, cc)
      go false e q = let z : ◌≡◌ {A = ℕ} 0 1 = cc in absurd (omega arith)

  pub front_append : (l m : List ℕ) → front p l ≡ l → front p (l ++ m) ≡ l ++ front p m
  unfolding front
  front_append [] m h = refl
  front_append (b ∷ l) m h = rw ((front_head b l h).0, front_append l m (front_head b l h).1)

  pub front_prefix : (l : List ℕ) (k : ℕ) → front p l ≡ l → front p (take k l) ≡ take k l
  unfolding front
  front_prefix [] k h = rw (take-nil k)
  front_prefix (b ∷ l) zero h = refl
  front_prefix (b ∷ l) (suc k) h = rw ((front_head b l h).0, front_prefix l k (front_head b l h).1)

  pub front_take : (l : List ℕ) → take (length (front p l)) l ≡ front p l
  unfolding front
  front_take [] = refl
  front_take (b ∷ l) = go (p b) (front_take l)
    where
      go : (t : Bool) → take (length (front p l)) l ≡ front p l → take (length (cond t (b ∷ front p l) [])) (b ∷ l) ≡ cond t (b ∷ front p l) []
      go true ih = rw ih
      go false ih = refl

  pub front_front : (l : List ℕ) → front p (front p l) ≡ front p l
  unfolding front
  front_front [] = refl
  front_front (b ∷ l) = go (p b) refl (front_front l)
    where
      go : (t : Bool) → p b ≡ t → front p (front p l) ≡ front p l → front p (cond t (b ∷ front p l) []) ≡ cond t (b ∷ front p l) []
      go true e ih = rw (e, ih)
      go false e ih = refl
