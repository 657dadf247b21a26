-- From the answer to a base to what the rules say of it.
use mathlib.Core.Path.{◌≡◌, refl}
use mathlib.Core.Bool.{Bool, true, false, cond}
use mathlib.Core.Option.{Option, none, some}
use Prim.Native.Nat.{ℕ}
use native.Mathlib.Omega.{arith}
use Rattle.rules.specs.declared.Base.{Base}
use Rattle.rules.specs.declared.End.{End}
use Rattle.rules.specs.declared.Refusal.{Refusal}
use Rattle.rules.specs.declared.Refusal.TheVariants.{Sizes}
use Rattle.rules.specs.Call.{Run, refuse, accept, judged}
use Rattle.std.specs.Prelude.{Ok, Err}
use Rattle.admit.specs.Gates.{gate_of}

-- what 1 finds, and what is judged
module _ (u : Bool) (o : Option Refusal) where
  pub gate_open : gate_of u o ≡ Ok tt → (u ≡ true) × (o ≡ none)
  gate_open e = go u o e
    where
      go : (v : Bool) (w : Option Refusal) → gate_of v w ≡ Ok tt → (v ≡ true) × (w ≡ none)
      go true none q = (refl, refl)
      go true (some x) q = let z : ◌≡◌ {A = ℕ} 0 1 = cc in absurd (omega arith)
      go false w q = let z : ◌≡◌ {A = ℕ} 0 1 = cc in absurd (omega arith)

  -- as a run takes it: of the rules' call, whatever its other parts
  module _ (n Q rows : ℕ) (r : Run) (b : Base) (wrong : Option End) where
    pub gate_accepts : gate_of u o ≡ Ok tt → cond u (judged n Q rows r b wrong o) (refuse r Sizes) ≡ accept n Q rows r b wrong
    gate_accepts e = let h = gate_open e in rw (h.0, h.1)

    pub gate_refuses : (x : Refusal) → gate_of u o ≡ Err x → cond u (judged n Q rows r b wrong o) (refuse r Sizes) ≡ refuse r x
    gate_refuses x e = go u o e
      where
        go : (v : Bool) (w : Option Refusal) → gate_of v w ≡ Err x → cond v (judged n Q rows r b wrong w) (refuse r Sizes) ≡ refuse r x
        go true none q = let z : ◌≡◌ {A = ℕ} 0 1 = cc in absurd (omega arith)
        go true (some y) q = let z : y ≡ x = cc in rw z
        go false w q = let z : Sizes ≡ x = cc in rw z
