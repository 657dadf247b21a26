-- Lines and fields: a text parted at a byte.
use Rattle.std.specs.Prelude.{ℕ, List, [], ◌∷◌, cond, eqb}

-- a byte put before the first part
abbrev pub onto : ℕ → List (List ℕ) → List (List ℕ)
onto b [] = (b ∷ []) ∷ []
onto b (p ∷ ps) = (b ∷ p) ∷ ps

-- the parts that stand between the bytes c; with no c there is one part
unfoldable pub cut : ℕ → List ℕ → List (List ℕ)
cut c [] = [] ∷ []
cut c (b ∷ l) = cond (eqb b c) ([] ∷ cut c l) (onto b (cut c l))

-- "Lines end in LF; the last may lack it." (Behind a last LF this has one empty line more, which is passed by.)
abbrev pub lines : List ℕ → List (List ℕ)
lines text = cut 10 text

-- "Fields part at tabs" and at nothing else: "BED v1 also parts fields at spaces; we don't."
abbrev pub fields : List ℕ → List (List ℕ)
fields line = cut 9 line
