-- The test `lex` and the fact `Lex`.
use mathlib.Core.Path.{◌≡◌, refl, sym}
use mathlib.Core.Bool.{Bool, true, false, not, ◌&&◌, ◌||◌}
use Prim.Native.Nat.{ℕ, ◌<◌}
use native.Mathlib.Omega.{arith}
use lib.Dec.{eqb, ltb}
use borrow.Author.Tests.{ltb-true, ltb-false, eqb-true, eqb-false, le-ltb, eq-eqb, ne_eqb}
use Rattle.basics.specs.Lex.{lex, Lex}
use Rattle.basics.proofs.BoolLaws.{clash}

-- the three ways that two numbers stand to one another, as the tests see them
data Way (a b : ℕ) (u v : Bool) : Type 0 where
  low : a < b → u ≡ true → v ≡ false → Way a b u v
  same : a ≡ b → u ≡ false → v ≡ true → Way a b u v
  high : b < a → u ≡ false → v ≡ false → Way a b u v

way : (a b : ℕ) → Way a b (ltb a b) (eqb a b)
way a b = go (ltb a b) (eqb a b) refl refl
  where
    go : (u v : Bool) → ltb a b ≡ u → eqb a b ≡ v → Way a b (ltb a b) (eqb a b)
    go true v e f = low (ltb-true a b e) e (ne_eqb a b (λ q. omega (arith, ltb-true a b e)))
    go false true e f = same (eqb-true a b f) e f
    go false false e f = high (omega (arith, ltb-false a b e, eqb-false a b f)) e f

module _ (a b : ℕ) (t : Bool) where
  pub lex_true : lex a b t ≡ true → Lex a b (t ≡ true)
  lex_true h = go (way a b)
    where
      go : Way a b (ltb a b) (eqb a b) → Lex a b (t ≡ true)
      go (low l _ _) = record { below = omega arith; tie = λ e. absurd (omega arith) }
      go (same q e f) = record { below = omega arith; tie = λ _. rw (e, f) at h }
      go (high _ e f) = clash {u = lex a b t} h (rw (e, f))

  pub lex_pass : Lex a b (t ≡ true) → lex a b t ≡ true
  lex_pass h = go (way a b)
    where
      go : Way a b (ltb a b) (eqb a b) → lex a b t ≡ true
      go (low l e _) = rw e
      go (same q e f) = rw (e, f) (h.tie q)
      go (high l e f) = absurd (omega arith)

  pub lex_false : lex a b t ≡ false → Lex b a (t ≡ false)
  lex_false h = go (way a b)
    where
      go : Way a b (ltb a b) (eqb a b) → Lex b a (t ≡ false)
      go (low l e _) = clash {u = lex a b t} (rw e) h
      go (same q e f) = record { below = omega arith; tie = λ _. rw (e, f) at h }
      go (high l e f) = record { below = omega arith; tie = λ q. absurd (omega arith) }

  pub lex_fail : Lex b a (t ≡ false) → lex a b t ≡ false
  lex_fail h = go (way a b)
    where
      go : Way a b (ltb a b) (eqb a b) → lex a b t ≡ false
      go (low l e _) = absurd (omega arith)
      go (same q e f) = rw (e, f) (h.tie (sym q))
      go (high l e f) = rw (e, f)

  -- under the test that the numbers are equal
  pub lex_on : (v : Bool) → lex a b t && (eqb a b && v) ≡ eqb a b && (t && v)
  lex_on v = go (way a b)
    where
      go : Way a b (ltb a b) (eqb a b) → lex a b t && (eqb a b && v) ≡ eqb a b && (t && v)
      go (low l e f) = rw (e, f)
      go (same q e f) = rw (e, f)
      go (high l e f) = rw (e, f)

  pub lex_same : a ≡ b → lex a b t ≡ t
  lex_same q = rw (le-ltb a b (omega arith), eq-eqb a b q)

  pub lex_above : b < a → lex a b t ≡ false
  lex_above h = lex_fail (record { below = omega arith; tie = λ q. absurd (omega arith) })

pub lex_map : {a b : ℕ} {P Q : Type 0} → (P → Q) → Lex a b P → Lex a b Q
lex_map f h = record { below = h.below; tie = λ e. f (h.tie e) }

-- the other way round
pub lex_not : (a b : ℕ) (t : Bool) → lex a b (not t) ≡ not (lex b a t)
lex_not a b t = go (lex b a t) refl
  where
    go : (u : Bool) → lex b a t ≡ u → lex a b (not t) ≡ not u
    go true e = lex_fail a b (not t) (lex_map (λ f. rw f) (lex_true b a t e))
    go false e = lex_pass a b (not t) (lex_map (λ f. rw f) (lex_false b a t e))

-- where equal ones do not pass
pub lex_off : (a b : ℕ) → lex a b false ≡ ltb a b
lex_off a b = go (ltb a b) (eqb a b)
  where
    go : (u v : Bool) → u || (v && false) ≡ u
    go true v = refl
    go false true = refl
    go false false = refl

pub lex_refl : {P : Type 0} (a : ℕ) → P → Lex a a P
lex_refl a p = record { below = omega arith; tie = λ _. p }

pub lex_trans : {a b c : ℕ} {P Q R : Type 0} → (P → Q → R) → Lex a b P → Lex b c Q → Lex a c R
lex_trans f h k = record { below = omega arith; tie = λ e. f (h.tie (omega arith)) (k.tie (omega arith)) }
