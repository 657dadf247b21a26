-- 4, 6, 3, 5, one after the other, over a column of lengths.
use mathlib.Core.Path.{◌≡◌, refl}
use mathlib.Core.Bool.{Bool, true, false, cond}
use mathlib.Core.Option.{Option, none, some}
use mathlib.Core.List.{List, [], ◌∷◌}
use Prim.Native.Nat.{ℕ, zero, suc, ◌<◌, ◌≤◌}
use native.Mathlib.Omega.{arith}
use native.Mathlib.Decide.{dec_lt}
use lib.Dec.{eqb, ltb, leb}
use lib.ListN.{length, get_or, length-map}
use borrow.Author.Tests.{eqb-true, le-ltb, le-leb}
use Rattle.rules.specs.declared.Base.{Base}
use Rattle.rules.specs.declared.Refusal.{Refusal}
use Rattle.rules.specs.declared.Refusal.TheVariants.{Beyond, Unlisted, Unordered, Reversed}
use Rattle.rules.specs.Bases.{beyond, in_order, judge}
use Rattle.admit.specs.Gates.{known, lengths_of}

-- no stop of 64 bits lies beyond the largest number
beyond_known : (x stop : ℕ) → stop ≤ 18446744073709551615 → beyond (known x) stop ≡ ltb x stop
beyond_known x stop h = go (eqb x 18446744073709551615) refl
  where
    go : (t : Bool) → eqb x 18446744073709551615 ≡ t → beyond (cond t none (some x)) stop ≡ ltb x stop
    go true e = rw (le-ltb x stop (omega (arith, eqb-true x 18446744073709551615 e)))
    go false e = refl

known_at : (ls : List ℕ) (k : ℕ) → k < length ls → get_or (lengths_of ls) k none ≡ known (get_or ls k 0)
known_at [] k h = absurd (omega arith)
known_at (x ∷ ls) zero h = refl
known_at (x ∷ ls) (suc k) h = known_at ls k (omega arith)

-- the tests of the rules, over the column itself
abbrev pub tests : List ℕ → Option Base → Base → Option Refusal
tests ls last b =
    cond (leb (length ls) b.chrom.0) (some Unlisted)
    (cond (ltb b.stop b.start) (some Reversed)
    (cond (ltb (get_or ls b.chrom.0 0) b.stop) (some Beyond)
    (cond (in_order last b) none (some Unordered))))

pub judge_by : (ls : List ℕ) (last : Option Base) (b : Base) → b.stop ≤ 18446744073709551615 → judge (lengths_of ls) last b ≡ tests ls last b
unfolding judge
judge_by ls last b h = go (dec_lt b.chrom.0 (length ls))
  where
    go : Dec (b.chrom.0 < length ls) → judge (lengths_of ls) last b ≡ tests ls last b
    go (yes p) = rw (length-map ls known, known_at ls b.chrom.0 p, beyond_known (get_or ls b.chrom.0 0) b.stop h)
    go (no p) = rw (length-map ls known, le-leb (length ls) b.chrom.0 (omega arith))
