-- The document's example of a listing, byte by byte, the ends of the numbers, and lines that don't all fit.
use Rattle.std.specs.Prelude.{ℕ, ◌≡◌, refl, List, [], ◌∷◌, ◌++◌}
use Rattle.lines.specs.Lines.{spelled, decimal, line_b, line_r, line_x, line_x'}
use Rattle.lines.specs.Laid.{fitting}

-- "The whole listing, fields parted by tabs"
abbrev pub listing : List ℕ
listing = line_b (111 ∷ 110 ∷ 101 ∷ []) 25 35 2 ++ line_r 0 0 0 100 ++ line_r 0 2 30 40 ++ line_x 6 1

-- "Stream: `two` 5-9, then `one` 10-12; base `two` 0-10: 8, row 1."
abbrev pub refusal : List ℕ
refusal = line_x' 8 0 0 1

pub listed : listing ≡
    -- `B one 25 35 2`
    66 ∷ 9 ∷ 111 ∷ 110 ∷ 101 ∷ 9 ∷ 50 ∷ 53 ∷ 9 ∷ 51 ∷ 53 ∷ 9 ∷ 50 ∷ 10
    -- `R 0 0 0 100`
    ∷ 82 ∷ 9 ∷ 48 ∷ 9 ∷ 48 ∷ 9 ∷ 48 ∷ 9 ∷ 49 ∷ 48 ∷ 48 ∷ 10
    -- `R 0 2 30 40`
    ∷ 82 ∷ 9 ∷ 48 ∷ 9 ∷ 50 ∷ 9 ∷ 51 ∷ 48 ∷ 9 ∷ 52 ∷ 48 ∷ 10
    -- `X 6 1`
    ∷ 88 ∷ 9 ∷ 54 ∷ 9 ∷ 49 ∷ 10
    ∷ []
unfolding spelled decimal
listed = refl

pub refused : refusal ≡ 88 ∷ 9 ∷ 56 ∷ 9 ∷ 48 ∷ 9 ∷ 48 ∷ 9 ∷ 49 ∷ 10 ∷ []
unfolding spelled decimal
refused = refl

-- "at most 18,446,744,073,709,551,615": 20 digits
pub largest : decimal 18446744073709551615 ≡ 49 ∷ 56 ∷ 52 ∷ 52 ∷ 54 ∷ 55 ∷ 52 ∷ 52 ∷ 48 ∷ 55 ∷ 51 ∷ 55 ∷ 48 ∷ 57 ∷ 53 ∷ 53 ∷ 49 ∷ 54 ∷ 49 ∷ 53 ∷ []
unfolding spelled decimal
largest = refl

-- 14: "the lines ahead of the first that doesn't fit": of two, four and one bytes in a space of five, the first alone
pub fits : fitting 5 ((82 ∷ 10 ∷ []) ∷ (88 ∷ 9 ∷ 49 ∷ 10 ∷ []) ∷ (10 ∷ []) ∷ []) ≡ (82 ∷ 10 ∷ []) ∷ []
fits = refl
