-- The run's flat arrays and the array of fours: the one from the other, and back.
use mathlib.Core.Path.{◌≡◌, refl}
use mathlib.Core.List.{List, [], ◌∷◌}
use native.Mathlib.Omega.{arith}
use lib.ListN.{length, get_or}
use Rattle.heads.specs.View.{Heads, fours_of, heads_by}
use Rattle.heads.specs.Move.{Shaped}

-- a list of eight, place by place
pub eight_of_lem : {A : Type 0} (d : A) (l : List A) → length l ≡ 8 → get_or l 0 d ∷ get_or l 1 d ∷ get_or l 2 d ∷ get_or l 3 d ∷ get_or l 4 d ∷ get_or l 5 d ∷ get_or l 6 d ∷ get_or l 7 d ∷ [] ≡ l
eight_of_lem d [] e = absurd (omega (arith, e))
eight_of_lem d (a ∷ []) e = absurd (omega (arith, e))
eight_of_lem d (a ∷ b ∷ []) e = absurd (omega (arith, e))
eight_of_lem d (a ∷ b ∷ c ∷ []) e = absurd (omega (arith, e))
eight_of_lem d (a ∷ b ∷ c ∷ f ∷ []) e = absurd (omega (arith, e))
eight_of_lem d (a ∷ b ∷ c ∷ f ∷ g ∷ []) e = absurd (omega (arith, e))
eight_of_lem d (a ∷ b ∷ c ∷ f ∷ g ∷ h ∷ []) e = absurd (omega (arith, e))
eight_of_lem d (a ∷ b ∷ c ∷ f ∷ g ∷ h ∷ i ∷ []) e = absurd (omega (arith, e))
eight_of_lem d (a ∷ b ∷ c ∷ f ∷ g ∷ h ∷ i ∷ j ∷ []) e = refl
eight_of_lem d (a ∷ b ∷ c ∷ f ∷ g ∷ h ∷ i ∷ j ∷ k ∷ l) e = absurd (omega (arith, e))

-- the fours that are built from the flat arrays are the run's heads
pub heads_flat : (h : Heads) → Shaped h → heads_by (fours_of h.chrom h.start h.stop h.row) h.ended h.next h.from h.to h.streams ≡ h
heads_flat h w = rw (eight_of_lem 0 h.chrom w.chrom, eight_of_lem 0 h.start w.start, eight_of_lem 0 h.stop w.stop, eight_of_lem 0 h.row w.row)
