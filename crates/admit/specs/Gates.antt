-- What is answered to a base, of what 1 finds and what the rules judge.
use Rattle.std.specs.Prelude.{Bool, true, false, cond, List, map, ℕ, eqb, Result, Ok, Err}
use Rattle.std.proofs.Math.Option.{Option, none, some}
use Rattle.rules.specs.declared.Base.{Base}
use Rattle.rules.specs.declared.Refusal.{Refusal}
use Rattle.rules.specs.declared.Refusal.TheVariants.{Sizes}
use Rattle.rules.specs.declared.Stage.{Stage}
use Rattle.rules.specs.declared.Stage.TheVariants.{Fresh, After, Over}

-- "length known or unknown": in a column an unknown one is the largest number, beyond which no stop lies
abbrev pub known : ℕ → Option ℕ
known x = cond (eqb x 18446744073709551615) none (some x)

abbrev pub lengths_of : List ℕ → List (Option ℕ)
lengths_of ls = map known ls

-- "the last accepted base", where there is one
abbrev pub last_of : Stage → Option Base
last_of Fresh = none
last_of (After p) = some p
last_of (Over e) = none

-- whether a base is let in: it is, or the refusal that is due
abbrev pub Gate : Type 0
Gate = Result (Unit {0}) Refusal

-- what the rules judge: the refusal that is due, if any
abbrev pub judged_of : Option Refusal → Gate
judged_of none = Ok tt
judged_of (some x) = Err x

-- "then 1, then 4, 6, 3, 5"
abbrev pub gate_of : Bool → Option Refusal → Gate
gate_of false o = Err Sizes
gate_of true o = judged_of o
