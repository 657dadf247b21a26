-- "Sizes", and what a start refuses.
use Rattle.std.specs.Prelude.{Bool, true, false, cond, not, ◌&&◌, ◌||◌, List, [], ◌∷◌, ℕ, leb, eqb, length}
use Rattle.std.proofs.Math.Option.{Option, none, some}
use Rattle.basics.specs.Lists.{any}
use Rattle.rules.specs.declared.Settings.{Settings}
use Rattle.rules.specs.declared.Unbegun.{Unbegun}
use Rattle.rules.specs.declared.Unbegun.TheVariants.{Sizes, Names}

-- between two numbers, both counted
abbrev pub within : ℕ → ℕ → ℕ → Bool
within low high x = leb low x && leb x high

-- "1 to 8 streams. 1 to 256 chromosomes [..]. Queue room Q from 1 to 65,536."
abbrev pub sized : Settings → Bool
sized s = within 1 8 s.streams && (within 1 256 s.chroms && within 1 65536 s.room)

-- two names, byte by byte
abbrev pub same : List ℕ → List ℕ → Bool
same [] [] = true
same [] (b ∷ l) = false
same (a ∷ k) [] = false
same (a ∷ k) (b ∷ l) = eqb a b && same k l

-- 2: "a chromosome name is empty, too long or there twice"; "names of 1 to 255 bytes"
abbrev pub misnamed : List (List ℕ) → Bool
misnamed [] = false
misnamed (n ∷ ns) = not (within 1 255 (length n)) || (any (same n) ns || misnamed ns)

-- "At a start: 1, then 2.", of what a run has fixed from its start and the chromosomes' names
unfoldable pub refuses_start : Settings → List (List ℕ) → Option Unbegun
refuses_start s names = cond (sized s) (cond (misnamed names) (some Names) none) (some Sizes)
