-- What a number in a text is.
use Rattle.std.specs.Prelude.{ℕ, ◌+◌, ◌-◌, ◌*◌, List, [], ◌∷◌, Bool, true, cond, ◌&&◌, length, leb}

-- what a field or a line gives: a value, or it is malformed
pub data Read (A : Type 0) : Type 0 where
  good : A → Read A
  bad : Read A

-- the byte is one of `0` to `9`
abbrev pub is_digit : ℕ → Bool
is_digit b = leb 48 b && leb b 57

-- every byte is a digit
unfoldable pub digits : List ℕ → Bool
digits [] = true
digits (b ∷ l) = is_digit b && digits l

-- the decimal value of digits that follow a number v
unfoldable pub value : ℕ → List ℕ → ℕ
value v [] = v
value v (b ∷ l) = value (v * 10 + (b - 48)) l

-- "A number is 1 to 20 digits, at most 18,446,744,073,709,551,615, no sign."
abbrev pub is_number : List ℕ → Bool
is_number l = leb 1 (length l) && leb (length l) 20 && digits l && leb (value 0 l) 18446744073709551615

unfoldable pub number_of : List ℕ → Read ℕ
number_of l = cond (is_number l) (good (value 0 l)) bad
