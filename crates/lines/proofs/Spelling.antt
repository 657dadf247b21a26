-- A number's digits written the last one first: what is left to write gives the same list.
use Prim.Native.Nat.{ℕ, ◌+◌, ◌-◌, ◌*◌, ◌/◌, ◌%◌, ◌^◌, ◌≤◌, ◌<◌}
use mathlib.Core.Path.{◌≡◌, refl, sym, ap, ◌∙◌}
use mathlib.Core.List.{List, [], ◌∷◌, ◌++◌}
use native.Mathlib.Omega.{arith}
use native.Mathlib.Nat.{pow-suc}
use native.Mathlib.Numerals.{add-one}
use lib.ListN.{length, set, length-set}
use Rattle.lines.specs.Lines.{digit, decimal}
use Rattle.lines.specs.Put.{laid}
use Rattle.lines.proofs.Decimal.{padded, padded_length, padded_last, padded_none, padded_all, places_some, places_above}
use Rattle.lines.proofs.Laying.{laid_none, laid_snoc}

-- the digits of n behind the first k are written, and those are the last k of `rest`, which has no more
pub record Spelling (old : List ℕ) (at n : ℕ) (out : List ℕ) (k rest : ℕ) : Type 0 where
  pub kept : length out ≡ length old
  pub some : 0 < k
  pub room : at + k ≤ length old
  pub few : rest < 10 ^ k
  pub left : laid out at (padded k rest) ≡ laid old at (decimal n)

pub spelling_start : (old : List ℕ) (at n : ℕ) → at + length (decimal n) ≤ length old → Spelling old at n old (length (decimal n)) n
spelling_start old at n h =
    record { kept = refl; some = omega (arith, places_some n); room = h; few = places_above n; left = ap (laid old at) (padded_all n) }

module _ {old : List ℕ} {at n : ℕ} {out : List ℕ} {k rest : ℕ} (s : Spelling old at n out k rest) where
  -- the last digit of what is left, with j ahead of it
  last_digit : (j : ℕ) → k ≡ j + 1 → 0 < j → Spelling old at n (set out (at + j) (digit (rest % 10))) j (rest / 10)
  last_digit j e h =
      let place : at + length (padded j (rest / 10)) ≡ at + j = omega (arith, padded_length j (rest / 10)) in
      let room : at + length (padded j (rest / 10)) < length out = omega (arith, s.kept, s.room) in
      let last : padded j (rest / 10) ++ (digit (rest % 10) ∷ []) ≡ padded k rest = rw e (sym (padded_last j rest)) in
      let few : rest < 10 ^ j * 10 = rw (e, add-one, pow-suc 10 j) at s.few in
      record {
        kept = length-set out (at + j) (digit (rest % 10)) ∙ s.kept;
        some = h;
        room = omega (arith, s.room);
        few = omega (arith, few);
        left =
            (rw place at (sym (laid_snoc out at (padded j (rest / 10)) (digit (rest % 10)) room)))
            ∙ ap (laid out at) last
            ∙ s.left;
      }

  pub spelling_digit : 1 < k → Spelling old at n (set out (at + (k - 1)) (digit (rest % 10))) (k - 1) (rest / 10)
  spelling_digit h = last_digit (k - 1) (omega arith) (omega arith)

  -- the first digit is what is left
  pub spelling_first : k ≤ 1 → set out at (digit rest) ≡ laid old at (decimal n)
  spelling_first h =
      let e : k ≡ 0 + 1 = omega (arith, s.some) in
      let few : rest < 10 ^ (0 + 1) = rw e at s.few in
      let m : rest % 10 ≡ rest = omega (arith, few) in
      let last : padded k rest ≡ [] ++ (digit rest ∷ []) = rw (e, padded_last 0 rest, padded_none (rest / 10), m) in
      let p : at + length {A = ℕ} [] ≡ at = omega arith in
      let put : laid out at ([] ++ (digit rest ∷ [])) ≡ laid (set out at (digit rest)) at [] =
      rw p at (laid_snoc out at [] (digit rest) (omega (arith, s.kept, s.room, s.some))) in
      sym (laid_none (set out at (digit rest)) at) ∙ sym put ∙ ap (laid out at) (sym last) ∙ s.left
