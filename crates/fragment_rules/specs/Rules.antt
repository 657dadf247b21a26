-- The fragment rule of a pair of choices, as an entry of the table names it: where the fragments' base parts come from, and what a record gives.
use Rattle.std.specs.Prelude.{ℕ}
use Rattle.fragment_rules.specs.declared.Choice.{Choice}
use Rattle.fragment_rules.specs.declared.Choice.TheVariants.{None, Whole, WholeWide, Piece, Inverse}
use Rattle.fragment_rules.specs.declared.Parting.{Parting}
use Rattle.fragment_rules.specs.declared.Parting.TheVariants.{Bare, Single, EachRecord, EachClip, EachGap}
use Rattle.fragment_rules.specs.declared.Giving.{Giving}
use Rattle.fragment_rules.specs.declared.Giving.TheVariants.{Nothing, Record, Clip, Outside}
use Rattle.fragment_rules.specs.declared.Rule.{Rule}

-- where the base parts of a choice for A come from
abbrev pub parting_of : Choice → Parting
parting_of None = Bare
parting_of Whole = EachRecord
parting_of WholeWide = Single
parting_of Piece = EachClip
parting_of Inverse = EachGap

-- what a record gives under a choice for B
abbrev pub giving_of : Choice → Giving
giving_of None = Nothing
giving_of Whole = Record
giving_of WholeWide = Record
giving_of Piece = Clip
giving_of Inverse = Outside

-- the rule of a pair
abbrev pub rule_of : Choice → Choice → Rule
rule_of a b = record { 0 = parting_of a; 1 = giving_of b }

-- the place of a choice in the table: the order in which the scope document names them
abbrev pub place_of : Choice → ℕ
place_of None = 0
place_of Whole = 1
place_of WholeWide = 2
place_of Piece = 3
place_of Inverse = 4
