-- Lines laid one behind the other: what a loop that writes them cites.
use Prim.Native.Nat.{ℕ, ◌+◌, ◌-◌, ◌≤◌, ◌<◌}
use mathlib.Core.Path.{◌≡◌, refl, sym, ap, subst, ◌∙◌}
use mathlib.Core.Bool.{Bool, true, false, cond}
use mathlib.Core.List.{List, [], ◌∷◌, ◌++◌, append_assoc, append-nil}
use native.Mathlib.Omega.{arith}
use native.Mathlib.Decide.{dec_le}
use borrow.Author.Tests.{leb-true, leb-false, le-leb, lt-leb}
use lib.Dec.{leb}
use lib.ListN.{length, length-append}
use Rattle.std.specs.Prelude.{Option, Some, None, Result, Ok, Err, ok_or}
use Rattle.lines.specs.declared.Cut.{Cut}
use Rattle.lines.specs.Put.{laid, Puts}
use Rattle.lines.specs.Laid.{joined, fitting, fitted, cut, Lays}
use Rattle.lines.proofs.Laying.{laid_none, length_laid, laid_append}
use Rattle.lines.proofs.Putting.{puts_at, puts_full}

-- ---- lines and their bytes

pub joined_append : (ls ms : List (List ℕ)) → joined (ls ++ ms) ≡ joined ls ++ joined ms
joined_append [] ms = refl
joined_append (l ∷ ls) ms = ap (λ (k : List ℕ). l ++ k) (joined_append ls ms) ∙ sym (append_assoc l (joined ls) (joined ms))

joined_length : (ls ms : List (List ℕ)) → length (joined (ls ++ ms)) ≡ length (joined ls) + length (joined ms)
joined_length ls ms = ap length (joined_append ls ms) ∙ length-append (joined ls) (joined ms)

-- ---- what fits

-- all lines fit, and others behind them
fit_all : (space : ℕ) (ls ms : List (List ℕ)) → length (joined ls) ≤ space → fitting space (ls ++ ms) ≡ ls ++ fitting (space - length (joined ls)) ms
fit_all space [] ms h = let e : space - 0 ≡ space = omega arith in rw e
fit_all space (l ∷ ls) ms h =
    let k : length l + length (joined ls) ≤ space = omega (arith, length-append l (joined ls)) in
    let e : space - length (l ++ joined ls) ≡ space - length l - length (joined ls) = omega (arith, length-append l (joined ls)) in
    rw (le-leb (length l) space (omega arith), e, fit_all (space - length l) ls ms (omega arith))

-- not all lines fit: what is behind them changes nothing
fit_part : (space : ℕ) (ls ms : List (List ℕ)) → space < length (joined ls) → fitting space (ls ++ ms) ≡ fitting space ls
fit_part space [] ms h = absurd (omega arith)
fit_part space (l ∷ ls) ms h = go (leb (length l) space) refl (λ k. fit_part (space - length l) ls ms k)
  where
    go : (t : Bool) → leb (length l) space ≡ t → (space - length l < length (joined ls) → fitting (space - length l) (ls ++ ms) ≡ fitting (space - length l) ls)
        → cond t (l ∷ fitting (space - length l) (ls ++ ms)) [] ≡ cond t (l ∷ fitting (space - length l) ls) []
    go false e same = refl
    go true e same =
        let k = leb-true (length l) space e in
        rw (same (omega (arith, length-append l (joined ls))))

fit_within : (space : ℕ) (ls : List (List ℕ)) → length (joined (fitting space ls)) ≤ space
fit_within space [] = omega arith
fit_within space (l ∷ ls) = go (leb (length l) space) refl (fit_within (space - length l) ls)
  where
    go : (t : Bool) → leb (length l) space ≡ t → length (joined (fitting (space - length l) ls)) ≤ space - length l → length (joined (cond t (l ∷ fitting (space - length l) ls) [])) ≤ space
    go false e few = omega arith
    go true e few =
        let k = leb-true (length l) space e in
        omega (arith, length-append l (joined (fitting (space - length l) ls)))

-- nothing fits where there is no space
none : (xs : List ℕ) → length xs ≤ 0 → xs ≡ []
none [] h = refl
none (x ∷ xs) h = absurd (omega arith)

module _ (old : List ℕ) (at : ℕ) (ls : List (List ℕ)) where
  fitted_past : length old ≤ at → fitted old at ls ≡ []
  fitted_past h = none (fitted old at ls) (omega (arith, fit_within (length old - at) ls))

  fitted_all : at + length (joined ls) ≤ length old → fitted old at ls ≡ joined ls
  fitted_all h = rw append-nil at (ap joined (fit_all (length old - at) ls [] (omega arith)))

  -- what is laid lies within the buffer
  laid_length : length (laid old at (fitted old at ls)) ≡ length old
  laid_length = go (dec_le at (length old))
    where
      go : Dec (at ≤ length old) → length (laid old at (fitted old at ls)) ≡ length old
      go (yes h) = length_laid old at (fitted old at ls) (omega (arith, fit_within (length old - at) ls))
      go (no h) = rw (fitted_past (omega arith)) (ap length (laid_none old at))

-- ---- what an answer says

-- the answer, by the place behind all lines, the buffer's length and the place behind those that fit
abbrev said : ℕ → ℕ → ℕ → Result ℕ Cut
said stop size part = cond (leb stop size) (Ok stop) (cut part)

-- the place that an answer names
abbrev place_in : Result ℕ Cut → ℕ
place_in (Ok p) = p
place_in (Err c) = c.0

module _ (stop size part : ℕ) where
  said_whole : {p : ℕ} → Ok p ≡ said stop size part → (stop ≤ size) × (p ≡ stop)
  said_whole {p} e = go (leb stop size) refl e
    where
      go : (t : Bool) → leb stop size ≡ t → Ok p ≡ cond t (Ok stop) (cut part) → (stop ≤ size) × (p ≡ stop)
      go true e f = (leb-true stop size e, cc)
      go false e f = let z : ◌≡◌ {A = ℕ} 0 1 = cc in absurd (omega arith)

  said_part : {p : ℕ} → cut p ≡ said stop size part → (size < stop) × (p ≡ part)
  said_part {p} e = go (leb stop size) refl e
    where
      go : (t : Bool) → leb stop size ≡ t → cut p ≡ cond t (Ok stop) (cut part) → (size < stop) × (p ≡ part)
      go false e f = (leb-false stop size e, ap place_in f)
      go true e f = let z : ◌≡◌ {A = ℕ} 0 1 = cc in absurd (omega arith)

module _ {old : List ℕ} {at : ℕ} {ls : List (List ℕ)} {new : List ℕ} where
  pub lays_length : {r : Result ℕ Cut} → Lays old at ls r new → length new ≡ length old
  lays_length w = ap length w.written ∙ laid_length old at ls

  -- all lines stand
  pub lays_whole : {p : ℕ} → Lays old at ls (Ok p) new → (at + length (joined ls) ≤ length old) × (p ≡ at + length (joined ls)) × (new ≡ laid old at (joined ls))
  lays_whole w =
      let a = said_whole (at + length (joined ls)) (length old) (at + length (fitted old at ls)) w.answer in
      (a.0, a.1, w.written ∙ rw (fitted_all old at ls a.0))

  -- where the next line goes lies within the buffer
  pub lays_inside : {p : ℕ} → Lays old at ls (Ok p) new → p ≤ length new
  lays_inside w = let a = lays_whole w in omega (arith, lays_length w)

-- any two results are equal
pub lays_alike : {old : List ℕ} {at : ℕ} {ls : List (List ℕ)} {r s : Result ℕ Cut} {new also : List ℕ} → Lays old at ls r new → Lays old at ls s also → (r ≡ s) × (new ≡ also)
lays_alike v w = (v.answer ∙ sym w.answer, v.written ∙ sym w.written)

-- ---- lines behind lines

-- no lines
pub lays_none : (old : List ℕ) (at : ℕ) → at ≤ length old → Lays old at [] (Ok at) old
lays_none old at h =
    let e : at + 0 ≡ at = omega arith in
    record { answer = rw (e, le-leb at (length old) h); written = sym (laid_none old at) }

-- nothing is written past the end
pub lays_past : (old : List ℕ) (at : ℕ) (ls : List (List ℕ)) → length old < at → Lays old at ls (cut at) old
lays_past old at ls h =
    let e : at + 0 ≡ at = omega arith in
    let f = fitted_past old at ls (omega arith) in
    record { answer = rw (lt-leb (at + length (joined ls)) (length old) (omega arith), f, e); written = sym (rw f (laid_none old at)) }

-- all of them stand, and further ones are laid behind them
pub lays_append : {old m new : List ℕ} {at p : ℕ} {ls : List (List ℕ)} {r : Result ℕ Cut} (ms : List (List ℕ)) → Lays old at ls (Ok p) m → Lays m p ms r new → Lays old at (ls ++ ms) r new
lays_append {old} {m} {new} {at} {p} {ls} {r} ms v w =
    let a = lays_whole v in
    let k : length m ≡ length old = lays_length v in
    let b : length m - p ≡ length old - at - length (joined ls) = omega arith in
    let f : fitted old at (ls ++ ms) ≡ joined ls ++ fitted m p ms =
    ap joined (fit_all (length old - at) ls ms (omega arith)) ∙ rw (← b) (joined_append ls (fitting (length m - p) ms)) in
    let stop : p + length (joined ms) ≡ at + length (joined (ls ++ ms)) = omega (arith, joined_length ls ms) in
    let part : p + length (fitted m p ms) ≡ at + length (fitted old at (ls ++ ms)) = omega (arith, ap length f, length-append (joined ls) (fitted m p ms)) in
    record {
      answer = w.answer ∙ rw (stop, part, k);
      written = w.written ∙ rw (f, laid_append old at (joined ls) a.0 (fitted m p ms), a.1, a.2);
    }

-- a line did not fit: whatever is to follow, nothing more is written
pub lays_part : {old new : List ℕ} {at p : ℕ} {ls : List (List ℕ)} (ms : List (List ℕ)) → Lays old at ls (cut p) new → Lays old at (ls ++ ms) (cut p) new
lays_part {old} {new} {at} {p} {ls} ms v = go (dec_le at (length old))
  where
    go : Dec (at ≤ length old) → Lays old at (ls ++ ms) (cut p) new
    go (yes h) =
        let a = said_part (at + length (joined ls)) (length old) (at + length (fitted old at ls)) v.answer in
        let f = fit_part (length old - at) ls ms (omega arith) in
        record {
          answer = rw (lt-leb (at + length (joined (ls ++ ms))) (length old) (omega (arith, joined_length ls ms)), f) (ap (λ (n : ℕ). cut n) a.1);
          written = rw f v.written;
        }
    go (no h) =
        let a = lays_alike v (lays_past old at ls (omega arith)) in
        rw (a.0, a.1) (lays_past old at (ls ++ ms) (omega arith))

-- ---- one line

module _ {old new : List ℕ} {at : ℕ} {l : List ℕ} where
  pub lays_put : {p : ℕ} → Puts old at l (Some p) new → Lays old at (l ∷ []) (Ok p) new
  lays_put {p} v =
      let a = puts_at v in
      let e : at + length (joined (l ∷ [])) ≡ p = rw append-nil (sym a.1) in
      let f = fitted_all old at (l ∷ []) (omega arith) ∙ append-nil l in
      record { answer = rw (e, le-leb p (length old) (omega arith)); written = a.2 ∙ rw f }

  pub lays_full : at ≤ length old → Puts old at l None new → Lays old at (l ∷ []) (cut at) new
  lays_full h v =
      let a = puts_full v in
      let e : at + 0 ≡ at = omega arith in
      let f : leb (length l) (length old - at) ≡ false = lt-leb (length l) (length old - at) (omega arith) in
      record {
        answer = rw (append-nil l, lt-leb (at + length l) (length old) a.0, f, e);
        written = a.1 ∙ rw f (sym (laid_none old at));
      }

-- the only line
pub lays_only : {old new : List ℕ} {at : ℕ} {l : List ℕ} (p : Option ℕ) → at ≤ length old → Puts old at l p new → Lays old at (l ∷ []) (ok_or p (record { 0 = at })) new
lays_only (Some p) h v = lays_put v
lays_only None h v = lays_full h v

-- a line, and further ones are laid behind it
pub lays_more : {old m new : List ℕ} {at p : ℕ} {l : List ℕ} {r : Result ℕ Cut} (ls : List (List ℕ)) → Puts old at l (Some p) m → Lays m p ls r new → Lays old at (l ∷ ls) r new
lays_more ls v w = lays_append ls (lays_put v) w

-- a line that did not fit: whatever is to follow, nothing is written
pub lays_stop : {old new : List ℕ} {at : ℕ} {l : List ℕ} (ls : List (List ℕ)) → at ≤ length old → Puts old at l None new → Lays old at (l ∷ ls) (cut at) new
lays_stop ls h v = lays_part ls (lays_full h v)

-- ---- a line, by what `ok_or` makes of it

-- it fits
pub put_fits : (put : Option ℕ) (c : Cut) {p : ℕ} → ok_or put c ≡ Ok p → put ≡ Some p
put_fits (Some q) c e = cc
put_fits None c e = cc

-- it did not fit: whatever is to follow, nothing is written
pub lays_cut : {old new : List ℕ} {at : ℕ} {l : List ℕ} (put : Option ℕ) {c : Cut} (ls : List (List ℕ)) → at ≤ length old → Puts old at l put new → ok_or put (record { 0 = at }) ≡ Err c → Lays old at (l ∷ ls) (Err c) new
lays_cut (Some p) ls h v e = let z : ◌≡◌ {A = ℕ} 0 1 = cc in absurd (omega arith)
lays_cut {old} {new} {at} {l} None ls h v e = subst (λ (r : Result ℕ Cut). Lays old at (l ∷ ls) r new) e (lays_stop ls h v)
