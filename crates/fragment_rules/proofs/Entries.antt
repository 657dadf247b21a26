-- An entry of the table is known by two numbers, so that one computed test over the whole table says which rule stands at each pair. Assumes nothing.
use Prim.Native.Nat.{ℕ, zero, suc}
use mathlib.Core.Bool.{Bool}
use lib.Dec.{T, eqb}
use Rattle.fragment_rules.specs.declared.Choice.{Choice}
use Rattle.fragment_rules.specs.declared.Choice.TheVariants.{None, Whole, WholeWide, Piece, Inverse}
use Rattle.fragment_rules.specs.declared.Parting.{Parting}
use Rattle.fragment_rules.specs.declared.Parting.TheVariants.{Bare, Single, EachRecord, EachClip, EachGap}
use Rattle.fragment_rules.specs.declared.Giving.{Giving}
use Rattle.fragment_rules.specs.declared.Giving.TheVariants.{Nothing, Record, Clip, Outside}
use Rattle.fragment_rules.specs.declared.Rule.{Rule}
use Rattle.fragment_rules.specs.Rules.{parting_of, giving_of}
use Rattle.fragment_rules.specs.Table.{table}
use Rattle.fragment_rules.proofs.Table.{both, every, row}

-- the choice at a place of the table
abbrev choice_at : ℕ → Choice
choice_at zero = None
choice_at (suc zero) = Whole
choice_at (suc (suc zero)) = WholeWide
choice_at (suc (suc (suc zero))) = Piece
choice_at (suc (suc (suc (suc n)))) = Inverse

-- a number for each way to part
abbrev parting_number : Parting → ℕ
parting_number Bare = 0
parting_number Single = 1
parting_number EachRecord = 2
parting_number EachClip = 3
parting_number EachGap = 4

-- a number for each way to give
abbrev giving_number : Giving → ℕ
giving_number Nothing = 0
giving_number Record = 1
giving_number Clip = 2
giving_number Outside = 3

-- the test of an entry: it is the rule of the choices at its places
abbrev right : ℕ → ℕ → Rule → Bool
right i j x =
    both (eqb (parting_number x.0) (parting_number (parting_of (choice_at i))))
    (eqb (giving_number x.1) (giving_number (giving_of (choice_at j))))

-- the one computed test: each row has five entries, each the rule of the choices at its places
all_right : T (every (row right 5) 0 table)
unfolding table
all_right = tt
