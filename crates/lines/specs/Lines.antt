-- The lines of the listing, as bytes.
use Rattle.std.specs.Prelude.{ℕ, zero, suc, ◌+◌, ◌/◌, ◌%◌, List, [], ◌∷◌, ◌++◌, map, Bool, true, false, ltb}

-- a digit as a byte
abbrev pub digit : ℕ → ℕ
digit d = 48 + d

-- the digits of n: it alone, where it is below 10; else those that `ahead` gives of n / 10, and its last
abbrev pub one_or_more : Bool → ℕ → (ℕ → List ℕ) → List ℕ
one_or_more true n ahead = digit n ∷ []
one_or_more false n ahead = ahead (n / 10) ++ (digit (n % 10) ∷ [])

-- the digits of a number, of which no more than `more` stand behind the first
unfoldable pub spelled : ℕ → ℕ → List ℕ
spelled zero n = digit n ∷ []
spelled (suc more) n = one_or_more (ltb n 10) n (spelled more)

-- "A number is 1 to 20 digits, at most 18,446,744,073,709,551,615, no sign.": with no zero ahead, and 0 is
-- one digit. No number n has more than n digits behind its first.
unfoldable pub decimal : ℕ → List ℕ
decimal n = spelled n n

-- "fields parted by tabs": each with the tab ahead of it
abbrev pub tabbed : List (List ℕ) → List ℕ
tabbed [] = []
tabbed (f ∷ fs) = 9 ∷ f ++ tabbed fs

-- numbers as fields
abbrev pub numbered : List ℕ → List ℕ
numbered ns = tabbed (map decimal ns)

-- "Lines end in LF": a mark, then fields
abbrev pub line : ℕ → List (List ℕ) → List ℕ
line mark fields = mark ∷ tabbed fields ++ (10 ∷ [])

-- `B one 25 35 2`: an accepted base, and how many records it has
abbrev pub line_b : List ℕ → ℕ → ℕ → ℕ → List ℕ
line_b name start stop count = line 66 (name ∷ map decimal (start ∷ stop ∷ count ∷ []))

-- "R: stream, row, start, stop."
abbrev pub line_r : ℕ → ℕ → ℕ → ℕ → List ℕ
line_r stream row start stop = line 82 (map decimal (stream ∷ row ∷ start ∷ stop ∷ []))

-- "X: refusal, base row from 0"
abbrev pub line_x : ℕ → ℕ → List ℕ
line_x number row = line 88 (map decimal (number ∷ row ∷ []))

-- "for 7 and 8 stream and row follow"
abbrev pub line_x' : ℕ → ℕ → ℕ → ℕ → List ℕ
line_x' number base stream row = line 88 (map decimal (number ∷ base ∷ stream ∷ row ∷ []))

-- the same of any refusal, by the values that follow
abbrev pub line_e : ℕ → ℕ → List ℕ → List ℕ
line_e number base values = line 88 (map decimal (number ∷ base ∷ values))

-- "A fault before the run gives one line: X, number, text [..], rows ahead"
abbrev pub line_f : ℕ → ℕ → ℕ → List ℕ
line_f number text ahead = line 88 (map decimal (number ∷ text ∷ ahead ∷ []))
