-- The number of each refusal.
use Rattle.std.specs.Prelude.{ℕ}
use Rattle.layouts.specs.declared.Refusal.{Refusal}
use Rattle.layouts.specs.declared.Refusal.TheVariants.{Sizes, Backwards, Records, Room}

-- the number of each refusal in the scope document's table
abbrev pub refusal_number : Refusal → ℕ
refusal_number Sizes = 1
refusal_number Backwards = 6
refusal_number Records = 13
refusal_number Room = 14
