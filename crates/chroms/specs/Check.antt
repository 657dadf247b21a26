-- When a list of names is one, and the number of a name.
use Rattle.std.specs.Prelude.{ℕ, ◌+◌, List, [], ◌∷◌, Bool, true, cond, ◌&&◌, length, get_or, drop, leb, eqb, Option, Some, None, Result, Ok, Err}
use Rattle.fields.specs.Names.{part, within, names, number_in}
use Rattle.rules.specs.declared.Unbegun.{Unbegun}
use Rattle.rules.specs.declared.Unbegun.TheVariants.{Sizes, Names}
use Rattle.rules.specs.Numbers.{unbegun_number}

-- "1 to 256 chromosomes"
abbrev pub counted : ℕ → Bool
counted n = leb 1 n && leb n 256

-- "names of 1 to 255 bytes"
abbrev pub named : List ℕ → Bool
named name = leb 1 (length name) && leb (length name) 255

-- a name is not among others: its number is the one after the last
abbrev pub absent : List ℕ → List (List ℕ) → Bool
absent name ns = eqb (number_in ns name) (length ns)

-- no name "is empty, too long or there twice"
unfoldable pub all_named : List (List ℕ) → Bool
all_named [] = true
all_named (name ∷ ns) = named name && absent name ns && all_named ns

-- the same for the name with the number k, and those behind it
abbrev pub fine_at : List ℕ → List ℕ → List ℕ → ℕ → Bool
fine_at text from to k =
    named (part (get_or from k 0) (get_or to k 0) text) &&
    absent (part (get_or from k 0) (get_or to k 0) text) (names text (drop (k + 1) from) (drop (k + 1) to))

-- 1 for names that lie outside the text, for columns that differ in length and for the count, then 2
unfoldable pub check_of : List ℕ → List ℕ → List ℕ → Result (Unit {0}) Unbegun
check_of text from to =
    cond (within (length text) from to && counted (length from))
    (cond (all_named (names text from to)) (Ok tt) (Err Names))
    (Err Sizes)

-- the refusal number of an answer, 0 for none
abbrev pub check_number : Result (Unit {0}) Unbegun → ℕ
check_number (Ok u) = 0
check_number (Err x) = unbegun_number x

-- the number of a name in list order, or the one after the last; 1 for columns that name what is not in the text
unfoldable pub found_of : List ℕ → List ℕ → List ℕ → List ℕ → Option ℕ
found_of text from to name = cond (within (length text) from to) (Some (number_in (names text from to) name)) None

-- the refusal number of an answer, 0 for none
abbrev pub lookup_number : Option ℕ → ℕ
lookup_number (Some k) = 0
lookup_number None = 1
