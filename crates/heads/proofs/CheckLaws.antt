-- What is wrong with a row, as the code answers it.
use mathlib.Core.Path.{◌≡◌, refl}
use mathlib.Core.Option.{Option, none, some}
use Prim.Native.Nat.{ℕ}
use native.Mathlib.Omega.{arith}
use Rattle.rules.specs.declared.End.{End}
use Rattle.std.specs.Prelude.{Ok, Err}
use Rattle.heads.specs.Move.{check_of}

-- the code's answer, read back
pub check_fine : (o : Option End) → check_of o ≡ Ok tt → o ≡ none
check_fine none e = refl
check_fine (some x) e = let w : ◌≡◌ {A = ℕ} 0 1 = cc in absurd (omega arith)

pub check_wrong : (o : Option End) (x : End) → check_of o ≡ Err x → o ≡ some x
check_wrong none x e = let w : ◌≡◌ {A = ℕ} 0 1 = cc in absurd (omega arith)
check_wrong (some y) x e = let z : y ≡ x = cc in rw z
