-- Bases that are left out.
use Rattle.std.specs.Prelude.{Bool, true, false, ◌&&◌, List, [], ◌∷◌}
use Rattle.rules.specs.declared.Base.{Base}
use Rattle.rules.specs.Offered.{Offer}
use Rattle.rules.specs.Offer.{hold, allowed}

-- a base that is given, or left out
pub data Mark (B : Type 0) : Type 0 where
  give : B → Mark B
  skip : B → Mark B

module _ {B : Type 0} where
  -- all bases, those that are given and those that are left out
  abbrev pub every : List (Mark B) → List B
  every [] = []
  every (give b ∷ l) = b ∷ every l
  every (skip b ∷ l) = b ∷ every l

  abbrev pub given : List (Mark B) → List B
  given [] = []
  given (give b ∷ l) = b ∷ given l
  given (skip b ∷ l) = given l

  abbrev pub missed : List (Mark B) → List B
  missed [] = []
  missed (give b ∷ l) = missed l
  missed (skip b ∷ l) = b ∷ missed l

  -- of what all bases get, what the given ones get
  abbrev pub heard : {A : Type 0} → List (Mark B) → List A → List A
  heard [] rs = rs
  heard (x ∷ l) [] = []
  heard (give b ∷ l) (r ∷ rs) = r ∷ heard l rs
  heard (skip b ∷ l) (r ∷ rs) = heard l rs

-- "A base source may leave out any bases that the last offered place permits": each base left out is permitted by the place in
-- force, where the given bases are offered `os`
abbrev pub lawful : Offer → List (Mark Base) → List Offer → Bool
lawful g [] os = true
lawful g (give b ∷ l) [] = false
lawful g (give b ∷ l) (o ∷ os) = lawful (hold g o) l os
lawful g (skip c ∷ l) os = allowed g c && lawful g l os
