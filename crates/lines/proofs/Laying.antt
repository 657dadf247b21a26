-- Bytes laid into a list at a place: in parts, and byte by byte.
use Prim.Native.Nat.{ℕ, suc, ◌+◌, ◌≤◌, ◌<◌}
use mathlib.Core.Path.{◌≡◌, sym, ap, ◌∙◌}
use mathlib.Core.List.{List, [], ◌∷◌, ◌++◌, append_assoc, append-nil}
use native.Mathlib.Omega.{arith}
use lib.ListN.{length, take, drop, set, length-append, length-drop, take-append-drop}
use lib.Seq.{length-take-le, take_at, drop_at, drop-drop, set_split, take-set-le, take-length, paste}
use Rattle.lines.specs.Put.{laid, Wrote}

pub laid_none : (l : List ℕ) (at : ℕ) → laid l at [] ≡ l
unfolding laid
laid_none l at =
    let e : at + 0 ≡ at = omega arith in
    rw (e, append-nil (take at l)) (take-append-drop at l)

module _ (l : List ℕ) (at : ℕ) (xs : List ℕ) (fits : at + length xs ≤ length l) where
  length_ahead : length (take at l ++ xs) ≡ at + length xs
  length_ahead = length-append (take at l) xs ∙ ap (λ (k : ℕ). k + length xs) (length-take-le at l (omega arith))

  pub length_laid : length (laid l at xs) ≡ length l
  unfolding laid
  length_laid =
      length-append (take at l ++ xs) (drop (at + length xs) l) ∙ omega (arith, length_ahead, length-drop (at + length xs) l)

  pub laid_take : take (at + length xs) (laid l at xs) ≡ take at l ++ xs
  unfolding laid
  laid_take = take_at (take at l ++ xs) (drop (at + length xs) l) (at + length xs) length_ahead

  pub laid_drop : drop (at + length xs) (laid l at xs) ≡ drop (at + length xs) l
  unfolding laid
  laid_drop = drop_at (take at l ++ xs) (drop (at + length xs) l) (at + length xs) length_ahead

  -- bytes in two parts, the first and then the second
  laid_onto : (ys m : List ℕ) → take (at + length xs) m ≡ take at l ++ xs → drop (at + length xs) m ≡ drop (at + length xs) l → laid l at (xs ++ ys) ≡ laid m (at + length xs) ys
  unfolding laid
  laid_onto ys m t d =
      let e : at + length (xs ++ ys) ≡ at + length xs + length ys = omega (arith, length-append xs ys) in
      let r : drop (at + length xs + length ys) m ≡ drop (at + length xs + length ys) l =
      sym (drop-drop (length ys) (at + length xs) m) ∙ rw d (drop-drop (length ys) (at + length xs) l) in
      rw (e, t, r, append_assoc (take at l) xs ys)

  pub laid_append : (ys : List ℕ) → laid l at (xs ++ ys) ≡ laid (laid l at xs) (at + length xs) ys
  laid_append ys = laid_onto ys (laid l at xs) laid_take laid_drop

-- the last byte first, and then the bytes ahead of it
pub laid_snoc : (l : List ℕ) (at : ℕ) (xs : List ℕ) (b : ℕ) → at + length xs < length l → laid l at (xs ++ (b ∷ [])) ≡ laid (set l (at + length xs) b) at xs
unfolding laid
laid_snoc l at xs b h =
    let j : ℕ = at + length xs in
    let e : at + length (xs ++ (b ∷ [])) ≡ suc j = omega (arith, length-append xs (b ∷ [])) in
    let d : drop j (set l j b) ≡ b ∷ drop (suc j) l =
    rw (set_split l j b h) (drop_at (take j l) (b ∷ drop (suc j) l) j (length-take-le j l (omega arith))) in
    rw (e, take-set-le at l j b (omega arith), d, ← append_assoc (take at l) xs (b ∷ []), append_assoc (take at l ++ xs) (b ∷ []) (drop (suc j) l))

-- a copy of all of s
pub laid_paste : (l : List ℕ) (at : ℕ) (s : List ℕ) → paste l at s (length s) ≡ laid l at s
unfolding laid
laid_paste l at s = rw (take-length s)

-- ---- writing in parts

module _ {l : List ℕ} {at : ℕ} {xs : List ℕ} {a : ℕ} {m : List ℕ} (w : Wrote l at xs a m) (fits : at + length xs ≤ length l) where
  pub wrote_length : length m ≡ length l
  wrote_length = ap length w.laid_in ∙ length_laid l at xs fits

  pub wrote_append : {ys : List ℕ} {b : ℕ} {n : List ℕ} → Wrote m a ys b n → Wrote l at (xs ++ ys) b n
  wrote_append {ys} {b} {n} v = record {
    stop = omega (arith, w.stop, v.stop, length-append xs ys);
    laid_in = v.laid_in ∙ rw (w.laid_in, w.stop) (sym (laid_append l at xs fits ys));
  }
