-- Names as two columns, where each begins and where it ends in a text, and the number of a name in list order.
use Rattle.std.specs.Prelude.{ℕ, suc, ◌-◌, List, [], ◌∷◌, Bool, true, false, cond, ◌&&◌, take, drop, leb, eqb, length, get_or, ◌≡◌, ◌≤◌, ◌<◌}
use lib.Pointwise.{pointwise}
use Rattle.fields.specs.declared.NameList.{NameList}

-- the bytes of a text from f up to t
abbrev pub part : ℕ → ℕ → List ℕ → List ℕ
part f t text = take (t - f) (drop f text)

-- the columns are equally long, and each name lies in a text of n bytes
unfoldable pub within : ℕ → List ℕ → List ℕ → Bool
within n [] [] = true
within n [] (t ∷ ts) = false
within n (f ∷ fs) [] = false
within n (f ∷ fs) (t ∷ ts) = leb f t && leb t n && within n fs ts

-- the names, in list order
unfoldable pub names : List ℕ → List ℕ → List ℕ → List (List ℕ)
names text [] ts = []
names text (f ∷ fs) [] = []
names text (f ∷ fs) (t ∷ ts) = part f t text ∷ names text fs ts

-- the names of a list, and that each lies in its text
abbrev pub listed : NameList → List (List ℕ)
listed l = names l.text.now l.from.now l.to.now

abbrev pub is_within : NameList → Bool
is_within l = within (length l.text.now) l.from.now l.to.now

-- two names have the same bytes
unfoldable pub same : List ℕ → List ℕ → Bool
same [] [] = true
same [] (b ∷ m) = false
same (a ∷ l) [] = false
same (a ∷ l) (b ∷ m) = eqb a b && same l m

-- "names to numbers, in list order"; "A name not on the list is kept as the number after the last"
unfoldable pub number_in : List (List ℕ) → List ℕ → ℕ
number_in [] name = 0
number_in (n ∷ ns) name = cond (same n name) 0 (suc (number_in ns name))

-- the name with the number k has the bytes of `name`
abbrev pub has_bytes : NameList → List ℕ → ℕ → Bool
has_bytes l name k = pointwise eqb (part (get_or l.from.now k 0) (get_or l.to.now k 0) l.text.now) name

-- the names from `first` on and before n are others
abbrev pub Others : NameList → List ℕ → ℕ → ℕ → Type 0
Others l name first n = (k : ℕ) → first ≤ k → k < n → has_bytes l name k ≡ false

-- i is the first number from `first` on under which the name stands
abbrev pub IsFirst : NameList → List ℕ → ℕ → ℕ → Type 0
IsFirst l name first i = (first ≤ i) × (i < length l.from.now) × (has_bytes l name i ≡ true) × Others l name first i
