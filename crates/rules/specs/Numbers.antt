-- "Refusal numbers": the document's number, and its values, of each refusal.
use Rattle.std.specs.Prelude.{ℕ, List, [], ◌∷◌}
use Rattle.rules.specs.declared.Unbegun.{Unbegun}
use Rattle.rules.specs.declared.Unbegun.TheVariants as unbegun
use Rattle.rules.specs.declared.Refusal.{Refusal}
use Rattle.rules.specs.declared.Refusal.TheVariants as refusal
use Rattle.rules.specs.declared.End.{End}
use Rattle.rules.specs.declared.End.TheVariants as end
use Rattle.rules.specs.declared.Answer.{Answer}
use Rattle.rules.specs.declared.Answer.TheVariants as answer

-- "no run begins": 1 and 2
abbrev pub unbegun_number : Unbegun → ℕ
unbegun_number unbegun.Sizes = 1
unbegun_number unbegun.Names = 2

-- "run unchanged": 1 and 3 to 6
abbrev pub refusal_number : Refusal → ℕ
refusal_number refusal.Sizes = 1
refusal_number refusal.Beyond = 3
refusal_number refusal.Unlisted = 4
refusal_number refusal.Unordered = 5
refusal_number refusal.Reversed = 6

-- "run ended": 7 to 10
abbrev pub end_number : End → ℕ
end_number (end.Faulty s r) = 7
end_number (end.Unsorted s r) = 8
end_number end.NoRoom = 9
end_number end.NoRows = 10

-- "Numbers 7 and 8 name stream and row"
abbrev pub end_values : End → List ℕ
end_values (end.Faulty s r) = s.0 ∷ r ∷ []
end_values (end.Unsorted s r) = s.0 ∷ r ∷ []
end_values end.NoRoom = []
end_values end.NoRows = []

-- the number of an answer, 0 where the base got its records
abbrev pub number_of : Answer → ℕ
number_of (answer.Found n o) = 0
number_of (answer.Refused x) = refusal_number x
number_of (answer.Ended x) = end_number x
